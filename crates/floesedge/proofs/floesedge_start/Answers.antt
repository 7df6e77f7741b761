-- The evaluator's answer, in its fixed layout.
use Rattle.floesedge.proofs.Answers.{started_small}
use Rattle.floesedge.proofs.floesedge_start.Goals as goal

pub fixed_answer-requires : goal.fixed_answer-requires
fixed_answer-requires c =
    started_small c.start.ensures

pub returns : goal.returns
returns c =
    rw (c.fixed_answer.ensures.0, c.fixed_answer.ensures.1) c.start.ensures.meets
