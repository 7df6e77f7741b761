-- The answer where the program is asked for.
use Rattle.translator.proofs.Verdicts.{answers_program}
use Rattle.translator.proofs.translate_in_order.Goals as goal

pub returns : goal.returns
returns c =
    let a = c.args in
    answers_program a.text.now a.faults.now a.program.now a.ordered.now c.answer.result c.answer.ensures
