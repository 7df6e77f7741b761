-- `grammar::inputs` meets its contract.
use Rattle.std.proofs.lemmas.Result.{err_from_is_err_and}
use Rattle.faults.proofs.Apart.{fault_code}
use Rattle.grammar.proofs.Headers.{inputs_stopped, inputs_end}
use Rattle.grammar.proofs.forms.inputs.Goals as goal

pub returns-in_err-behind-clause-reads : goal.returns-in_err-behind-clause-reads
returns-in_err-behind-clause-reads c =
    let p = err_from_is_err_and c.from_residual.result c.from_residual.ensures.1 in
    rw (p.1, p.2)
    (inputs_stopped c.requires (fault_code c.in_err-behind.field-0.0.fault) c.in_err-behind.ensures.reads)

pub returns-clause-reads : goal.returns-clause-reads
returns-clause-reads c = inputs_end c.requires c.in_ok-behind.ensures.reads c.need.result c.need.ensures
