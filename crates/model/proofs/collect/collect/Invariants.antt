-- The loop goes over the drafts.
use Rattle.model.proofs.DefinitionsCollected.{Collecting}
use Rattle.model.proofs.collect.collect.Given as goal

abbrev pub invariant-loop-i : goal.invariant-loop-i
invariant-loop-i l =
    Collecting l.kinds l.args l.initial.keys l.initial.places l.d l.i l.keys l.places
