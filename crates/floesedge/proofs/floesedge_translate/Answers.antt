-- The translator's verdict, in its fixed layout.
use Rattle.floesedge.proofs.Answers.{count_small, same_translation}
use Rattle.floesedge.proofs.floesedge_translate.Goals as goal

pub fixed_verdict-requires : goal.fixed_verdict-requires
fixed_verdict-requires c =
    let s = c.args in
    count_small s.text.now s.faults.now s.program.now _ _ c.translate.result c.translate.ensures

pub returns : goal.returns
returns c =
    let s = c.args in
    same_translation s.text.now s.faults.now s.program.now _ _ c.translate.result
    c.fixed_verdict.result c.translate.ensures
    c.fixed_verdict.ensures.0 c.fixed_verdict.ensures.1
