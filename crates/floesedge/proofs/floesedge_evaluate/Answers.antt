-- The evaluator's answer, in its fixed layout.
use Rattle.floesedge.proofs.Answers.{evaluated_small}
use Rattle.floesedge.proofs.floesedge_evaluate.Goals as goal

pub fixed_answer-requires : goal.fixed_answer-requires
fixed_answer-requires c =
    evaluated_small c.evaluate.ensures

pub returns : goal.returns
returns c =
    rw (c.fixed_answer.ensures.0, c.fixed_answer.ensures.1) c.evaluate.ensures.meets
