-- The first of those that are placed are marked.
use mathlib.Core.Path.{refl}
use Rattle.model.proofs.LoopMarks.{marking_first, marking_next}
use Rattle.model.proofs.loops.mark.Goals as goal

pub loop-unit-init : goal.loop-unit-init
loop-unit-init c =
    marking_first c.args.placed.now c.requires

pub loop-unit-preserved : goal.loop-unit-preserved
loop-unit-preserved c =
    marking_next c.loop-unit.invariant c.loop-unit-test.true refl c.put.ensures
