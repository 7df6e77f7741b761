-- `grammar::header` meets its contract.
use Rattle.std.proofs.lemmas.Result.{err_from_is_err_and}
use Rattle.faults.proofs.Apart.{fault_code}
use Rattle.grammar.proofs.Headers.{outputs_stopped, header_shut, header_unnamed, header_closed, inputs_enter}
use Rattle.grammar.proofs.Headers.{header_done}
use Rattle.grammar.proofs.forms.header.Goals as goal

pub returns-in_err-behind-clause-reads : goal.returns-in_err-behind-clause-reads
returns-in_err-behind-clause-reads c =
    let p = err_from_is_err_and c.from_residual.result c.from_residual.ensures.1 in
    rw (p.1, p.2)
    (outputs_stopped c.requires (fault_code c.in_err-behind.field-0.0.fault) c.in_err-behind.ensures.reads)

pub returns-in_err-name-clause-reads : goal.returns-in_err-name-clause-reads
returns-in_err-name-clause-reads c =
    let p = err_from_is_err_and c.from_residual-in_err-name.result c.from_residual-in_err-name.ensures.1 in
    rw (p.1, p.2)
    (header_shut c.requires c.in_ok-behind.ensures.reads c.in_err-name.ensures)

pub returns-in_err-open-clause-reads : goal.returns-in_err-open-clause-reads
returns-in_err-open-clause-reads c =
    let p = err_from_is_err_and c.from_residual-in_err-open.result c.from_residual-in_err-open.ensures.1 in
    rw (p.1, p.2)
    (header_unnamed c.requires c.in_ok-behind.ensures.reads c.in_ok-name.ensures c.in_err-open.ensures)

pub returns-in_err-start-clause-reads : goal.returns-in_err-start-clause-reads
returns-in_err-start-clause-reads c =
    let p = err_from_is_err_and c.from_residual-in_err-start.result c.from_residual-in_err-start.ensures.1 in
    rw (p.1, p.2)
    (header_closed c.requires c.in_ok-behind.ensures.reads c.in_ok-name.ensures c.in_ok-open.ensures
    c.in_err-start.ensures)

pub inputs-requires : goal.inputs-requires
inputs-requires c =
    inputs_enter c.requires c.in_ok-behind.ensures.reads c.in_ok-name.ensures c.in_ok-open.ensures c.in_ok-start.ensures

pub returns-clause-reads : goal.returns-clause-reads
returns-clause-reads c =
    header_done c.requires c.in_ok-behind.ensures.reads c.in_ok-name.ensures c.in_ok-open.ensures c.in_ok-start.ensures
    c.inputs.ensures.reads
