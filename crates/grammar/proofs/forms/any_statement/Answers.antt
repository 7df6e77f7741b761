-- `grammar::any_statement` meets its contract.
use Rattle.std.proofs.Common.{arith}
use Rattle.std.proofs.lemmas.Result.{err_from_is_err_and}
use Rattle.grammar.proofs.Statements.{begins_none, begins_words, begins_shut, begins_state, begins_assignment}
use Rattle.grammar.proofs.Statements.{begins_header, begins_ending}
use Rattle.grammar.proofs.forms.any_statement.Goals as goal

pub returns-in_err-need-in-2-clause-reads : goal.returns-in_err-need-in-2-clause-reads
returns-in_err-need-in-2-clause-reads c =
    let p = err_from_is_err_and c.from_residual.result c.from_residual.ensures.1 in
    rw (p.1, p.2)
    (begins_shut c.requires c.kind.ensures c.in-2.is c.in_err-need-in-2.ensures)

pub returns-then-kind-eq-INTGRL-clause-reads : goal.returns-then-kind-eq-INTGRL-clause-reads
returns-then-kind-eq-INTGRL-clause-reads c =
    begins_state c.requires c.kind.ensures c.in-2.is c.in_ok-need-in-2.ensures c.kind-in-2.ensures
    c.if-kind-eq-INTGRL.true c.state.ensures.reads

pub returns-else-kind-eq-INTGRL-clause-reads : goal.returns-else-kind-eq-INTGRL-clause-reads
returns-else-kind-eq-INTGRL-clause-reads c =
    begins_assignment c.requires c.kind.ensures c.in-2.is c.in_ok-need-in-2.ensures c.kind-in-2.ensures
    c.if-kind-eq-INTGRL.false c.assignment.ensures.reads

pub returns-in-9-clause-reads : goal.returns-in-9-clause-reads
returns-in-9-clause-reads c = begins_header c.requires c.kind.ensures c.in-9.is c.header.ensures.reads

pub returns-in-10-clause-reads : goal.returns-in-10-clause-reads
returns-in-10-clause-reads c = begins_ending c.requires c.kind.ensures c.in-10.is c.emit.ensures.emits

pub returns-in-3-clause-reads : goal.returns-in-3-clause-reads
returns-in-3-clause-reads c = begins_words c.requires c.kind.ensures c.in-3.is c.constants.ensures.reads

pub returns-in_default-clause-reads : goal.returns-in_default-clause-reads
returns-in_default-clause-reads c =
    begins_none c.requires c.kind.ensures (omega arith) (omega arith) (omega arith) (omega arith)
