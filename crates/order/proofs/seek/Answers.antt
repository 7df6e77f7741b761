-- The loop: the search from `from` on is the search from i on.
use mathlib.Core.Path.{◌≡◌, sym, ◌∙◌}
use Prim.Native.Nat.{◌+◌, ◌-◌, ◌≤◌}
use native.Mathlib.Omega.{arith}
use Rattle.order.proofs.Seeking.{skip_clear}
use Rattle.order.proofs.seek.Goals as goal

pub loop-i-preserved : goal.loop-i-preserved
loop-i-preserved c =
    let i = c.loop-i.i in
    let within : i + 16 ≤ c.args.n = omega (arith, c.loop-i.invariant.1) in
    let y : i + 16 - i ≡ 16 = omega arith in
    let none = rw y at (sym c.has_one.ensures ∙ c.if-not-has_one.true) in
    (c.loop-i.invariant.0 ∙ skip_clear c.args.flags.now c.args.n 16 i within c.requires.1 none, within)
