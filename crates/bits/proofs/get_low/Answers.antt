-- The loop reads from the last byte to the first.
use Prim.Native.Nat.{◌<◌, ◌^◌, ◌≤◌, min}
use native.Mathlib.Omega.{arith}
use borrow.Author.Rules.{rules}
use Rattle.bits.proofs.Lows.{reading_first, reading_next, reading_fits, reading_last}
use Rattle.bits.proofs.get_low.Goals as goal

pub loop-i-init : goal.loop-i-init
loop-i-init c =
    reading_first c.args.part.now (min c.args.n 8) c.min-i.result
    (search rules)

pub overflow_mul-word : goal.overflow_mul-word
overflow_mul-word c =
    let small : c.loop-i.word < 256 ^ 7 = let h : min c.args.n 8 ≤ 8 = omega arith in
    reading_fits c.args.part.now (min c.args.n 8) c.loop-i.i c.loop-i.word h
    c.loop-i-test.true c.loop-i.invariant in
    omega (arith, small)

pub overflow_add-word : goal.overflow_add-word
overflow_add-word c =
    let small : c.loop-i.word < 256 ^ 7 = let h : min c.args.n 8 ≤ 8 = omega arith in
    reading_fits c.args.part.now (min c.args.n 8) c.loop-i.i c.loop-i.word h
    c.loop-i-test.true c.loop-i.invariant in
    omega (arith, small)

pub loop-i-preserved : goal.loop-i-preserved
loop-i-preserved c =
    reading_next c.args.part.now (min c.args.n 8) c.loop-i.i c.loop-i.word c.wide.result
    c.loop-i-test.true c.wide.ensures.0 c.wide.ensures.1 c.loop-i.invariant

pub returns : goal.returns
returns c =
    reading_last c.args.part.now (min c.args.n 8) c.loop-i.i c.loop-i.word (omega arith)
    c.loop-i.invariant
