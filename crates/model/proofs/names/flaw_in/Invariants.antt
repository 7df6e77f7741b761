-- The names before the present draft are defined, and the worst of the initials before it is noted.
use Rattle.model.specs.Places.{undefined_at, unfit_at}
use Rattle.model.proofs.NamesResolved.{Seeking}
use Rattle.model.proofs.names.flaw_in.Given as goal

abbrev pub invariant-loop-i : goal.invariant-loop-i
invariant-loop-i l =
    let s = l.sheet in
    Seeking (undefined_at l.places s.kinds.now s.args.now) (unfit_at l.places s.kinds.now s.args.now) l.end l.from l.i
    l.flaw
