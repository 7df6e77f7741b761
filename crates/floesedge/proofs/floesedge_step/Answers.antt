-- The evaluator's answer, in its fixed layout.
use Rattle.floesedge.proofs.Answers.{stepped_small}
use Rattle.floesedge.proofs.floesedge_step.Goals as goal

pub fixed_answer-requires : goal.fixed_answer-requires
fixed_answer-requires c =
    stepped_small c.args.h c.step.ensures

pub returns : goal.returns
returns c =
    rw (c.fixed_answer.ensures.0, c.fixed_answer.ensures.1) c.step.ensures.meets
