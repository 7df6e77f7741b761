-- A key repeats from the present place on exactly if one does from the start on.
use mathlib.Core.Path.{sym, ◌∙◌}
use native.Mathlib.Omega.{arith}
use Rattle.model.proofs.RepeatedKeys.{repeat_stop, repeat_pass, repeat_done}
use Rattle.model.proofs.doubles.is_repeated.Goals as goal

pub returns-then-find-d : goal.returns-then-find-d
returns-then-find-d c =
    let at = c.loop-d in
    sym
    (repeat_stop c.args.names.now.keys.now at.d c.args.end c.loop-d-test.true c.requires
    (omega (arith, c.if-find-d.true, c.find.ensures))) ∙ at.invariant

pub loop-d-preserved : goal.loop-d-preserved
loop-d-preserved c =
    let at = c.loop-d in
    sym
    (repeat_pass c.args.names.now.keys.now at.d c.args.end c.loop-d-test.true c.requires
    (omega (arith, c.if-find-d.false, c.find.ensures))) ∙ at.invariant

pub returns : goal.returns
returns c =
    let s = c.args in
    sym (repeat_done s.names.now.keys.now c.loop-d.d s.end c.loop-d-test.false) ∙ c.loop-d.invariant
