-- The outputs in front of the present draft are noted.
use Rattle.model.specs.Places.{resolved}
use Rattle.model.proofs.UnitReads.{Noting}
use Rattle.model.proofs.units.note_outputs.Given as goal

abbrev pub invariant-loop-i : goal.invariant-loop-i
invariant-loop-i l =
    let s = l.sheet in
    Noting s.kinds.now (resolved l.names.keys.now s.kinds.now s.args.now) l.from l.end l.v l.initial.owners l.i l.owners
