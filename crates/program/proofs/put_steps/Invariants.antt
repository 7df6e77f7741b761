-- The loop goes over the places of the statement.
use Rattle.program.specs.Written.{step_at}
use Rattle.program.proofs.RoomFilled.{Filling}
use Rattle.program.proofs.put_steps.Given as goal

abbrev pub invariant-loop-i : goal.invariant-loop-i
invariant-loop-i l =
    Filling (step_at l.sheet.kinds.now l.sheet.args.now l.line) l.end l.begin l.i l.fn.w l.w l.initial.out l.out
