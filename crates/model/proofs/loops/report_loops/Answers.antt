-- What is not marked is not placed.
use Rattle.model.proofs.LoopMarks.{unmarked_loops}
use Rattle.model.proofs.loops.report_loops.Goals as goal

pub returns : goal.returns
returns c =
    unmarked_loops c.args.equated.now c.args.lines.now c.mark.ensures c.requires
    c.report_unmarked.ensures
