-- The statements before the present one are gone over, and where the uses of each equation among them begin is stored.
use Rattle.model.proofs.NamesLinked.{Stating}
use Rattle.model.proofs.names.resolve.Given as goal

abbrev pub invariant-loop-j : goal.invariant-loop-j
invariant-loop-j l =
    Stating l.lines l.bounds l.kinds l.names.keys.now l.places l.initial.args l.initial.starts l.initial.used
    l.usage l.r l.j l.args l.starts l.used
