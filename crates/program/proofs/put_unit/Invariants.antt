-- The loop goes over the statements of the unit.
use Rattle.program.specs.Written.{steps_of}
use Rattle.program.proofs.RoomFilled.{Filling}
use Rattle.program.proofs.put_unit.Given as goal

abbrev pub invariant-loop-i : goal.invariant-loop-i
invariant-loop-i l =
    let s = l.sheet in
    Filling (steps_of s.lines.now s.bounds.now s.kinds.now s.args.now) l.end l.begin l.i l.fn.w l.w l.initial.out l.out
