-- The places before the present one are passed.
use mathlib.Core.Path.{sym}
use native.Mathlib.Omega.{arith}
use Rattle.model.proofs.RepeatedKeys.{before_le, before_more, before_stop}
use Rattle.model.proofs.doubles.passed.Goals as goal

pub returns-then-end-places : goal.returns-then-end-places
returns-then-end-places c =
    let s = c.args in
    let at = c.loop-d in
    sym (before_stop s.end s.places.now at.d at.invariant c.if-end-places.true c.loop-d-test.true)

pub loop-d-preserved : goal.loop-d-preserved
loop-d-preserved c =
    let s = c.args in
    let at = c.loop-d in
    before_more s.end s.places.now at.d at.invariant c.loop-d-test.true c.if-end-places.false

pub returns : goal.returns
returns c =
    omega (arith, before_le c.args.end c.args.places.now, c.loop-d.invariant, c.loop-d-test.false)
