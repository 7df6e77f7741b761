-- A statement that does not begin with a setting has none; else the loop goes over the places of the statement.
use Rattle.program.specs.Written.{setting_at}
use Rattle.program.proofs.RoomFilled.{Filling}
use Rattle.program.proofs.put_settings.Given as goal

abbrev pub invariant-loop-i : goal.invariant-loop-i
invariant-loop-i l =
    let s = l.sheet in
    Filling (setting_at l.phase l.places s.kinds.now s.args.now l.line) l.end l.begin l.i l.fn.w l.w l.initial.out l.out
