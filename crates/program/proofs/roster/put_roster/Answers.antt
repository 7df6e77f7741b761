-- The loop goes over the statements.
use Rattle.program.proofs.RosterFilled.{entering_first, entering_next, roster_put}
use Rattle.program.proofs.roster.put_roster.Goals as goal

pub loop-j-init : goal.loop-j-init
loop-j-init c =
    entering_first _ _ _ _ _

pub loop-j-preserved : goal.loop-j-preserved
loop-j-preserved c =
    entering_next c.loop-j.invariant c.loop-j-test.true c.enter_statement-n.ensures

pub returns : goal.returns
returns c =
    let a = c.args in
    let s = a.sheet.now in
    roster_put s.lines.now s.bounds.now s.kinds.now s.args.now c.loop-j.invariant
    c.loop-j-test.false
