-- The loop goes over the statements.
use lib.ListN.{length}
use Rattle.program.specs.Written.{settings_of}
use Rattle.program.proofs.RoomFilled.{Filling}
use Rattle.program.proofs.put_all_settings.Given as goal

abbrev pub invariant-loop-j : goal.invariant-loop-j
invariant-loop-j l =
    let s = l.sheet in
    Filling (settings_of l.phase l.places s.lines.now s.bounds.now s.kinds.now s.args.now) (length s.lines.now) 0 l.j
    l.fn.w l.w l.initial.out l.out
