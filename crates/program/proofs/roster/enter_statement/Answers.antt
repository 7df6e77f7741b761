-- The loop goes over the places of the statement.
use Rattle.program.proofs.RosterFilled.{entering_first, entering_next, entering_all}
use Rattle.program.proofs.roster.enter_statement.Goals as goal

pub loop-i-init : goal.loop-i-init
loop-i-init c =
    entering_first _ _ _ _ _

pub loop-i-preserved : goal.loop-i-preserved
loop-i-preserved c =
    entering_next c.loop-i.invariant c.loop-i-test.true
    (rw (← c.word_at.ensures, ← c.byte_at-kind.ensures) c.enter-n.ensures)

pub returns : goal.returns
returns c =
    rw (← c.short_at-begin.ensures.0, ← c.short_at-end.ensures.0, ← c.short_at-line.ensures.0)
    (entering_all c.loop-i.invariant c.loop-i-test.false)
