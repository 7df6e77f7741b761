-- The loop goes over the places of the statement.
use Rattle.program.proofs.RoomFilled.{filling_first, filling_next, filling_all}
use Rattle.program.proofs.StepCases.{whole_step_at}
use Rattle.program.proofs.put_steps.Goals as goal

pub loop-i-init : goal.loop-i-init
loop-i-init c =
    filling_first _ _ _ _ _
    (whole_step_at c.args.sheet.now.kinds.now c.args.sheet.now.args.now c.short_at-line.result) c.requires.1

pub put_step-w-requires : goal.put_step-w-requires
put_step-w-requires c =
    c.loop-i.invariant.within

pub loop-i-preserved : goal.loop-i-preserved
loop-i-preserved c =
    filling_next c.loop-i.invariant c.loop-i-test.true
    (rw (← c.word_at.ensures, ← c.byte_at-kind.ensures) c.put_step-w.ensures)

pub returns : goal.returns
returns c =
    rw (← c.short_at-begin.ensures.0, ← c.short_at-end.ensures.0, ← c.short_at-line.ensures.0)
    (filling_all c.loop-i.invariant c.loop-i-test.false)
