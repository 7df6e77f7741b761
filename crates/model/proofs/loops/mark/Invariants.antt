-- The first of those that are placed are marked.
use Rattle.model.proofs.LoopMarks.{Marking}
use Rattle.model.proofs.loops.mark.Given as goal

abbrev pub invariant-loop-unit : goal.invariant-loop-unit
invariant-loop-unit l =
    Marking l.placed l.unit-index l.marks
