-- Before statement j as many definitions are passed as stand before it.
use mathlib.Core.Path.{◌≡◌}
use lib.ListN.{length}
use Rattle.drafts.specs.Places.{begins}
use Rattle.model.specs.Working.{before, repeat_at}
use Rattle.blocks.proofs.FaultsListed.{Reports}
use Rattle.model.proofs.doubles.report_doubles.Given as goal

abbrev pub invariant-loop-j : goal.invariant-loop-j
invariant-loop-j l =
    (l.d ≡ before (begins l.bounds l.j) l.places)
    × Reports (repeat_at l.lines l.bounds l.names.keys.now l.places) (length l.lines) l.j l.count l.initial.faults
    l.faults
