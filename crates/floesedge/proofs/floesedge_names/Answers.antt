-- The answer where names are asked for, in its fixed layout.
use Rattle.floesedge.proofs.Answers.{names_small, same_names}
use Rattle.floesedge.proofs.floesedge_names.Goals as goal

pub fixed_verdict-requires : goal.fixed_verdict-requires
fixed_verdict-requires c =
    let s = c.args in
    names_small s.text.now s.faults.now s.names.now _ _ c.names.result c.names.ensures

pub returns : goal.returns
returns c =
    let s = c.args in
    same_names s.text.now s.faults.now s.names.now _ _ c.names.result
    c.fixed_verdict.result c.names.ensures
    c.fixed_verdict.ensures.0 c.fixed_verdict.ensures.1
