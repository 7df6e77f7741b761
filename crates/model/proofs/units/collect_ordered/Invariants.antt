-- The equations before statement j are stored.
use Rattle.model.specs.Places.{is_ordered}
use Rattle.model.proofs.UnitReads.{Listing}
use Rattle.model.proofs.units.collect_ordered.Given as goal

abbrev pub invariant-loop-j : goal.invariant-loop-j
invariant-loop-j l =
    Listing
    (is_ordered l.bounds l.kinds) l.n l.j l.count l.initial.equated l.equated
