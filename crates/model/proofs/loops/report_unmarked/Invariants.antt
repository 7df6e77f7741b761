-- The faults of the equations before r are written.
use lib.ListN.{length}
use Rattle.model.specs.Working.{unmarked_at}
use Rattle.blocks.proofs.FaultsListed.{Reports}
use Rattle.model.proofs.loops.report_unmarked.Given as goal

abbrev pub invariant-loop-r : goal.invariant-loop-r
invariant-loop-r l =
    Reports (unmarked_at l.marks l.equated l.lines) (length l.equated) l.r l.count l.initial.faults l.faults
