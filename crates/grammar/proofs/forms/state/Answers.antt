-- `grammar::state` meets its contract.
use Rattle.std.proofs.lemmas.Result.{err_from_is_err_and}
use Rattle.grammar.proofs.Statements.{state_shut, state_missing, state_second, state_alone, state_next, state_rated}
use Rattle.grammar.proofs.forms.state.Goals as goal

pub returns-in_err-start-clause-reads : goal.returns-in_err-start-clause-reads
returns-in_err-start-clause-reads c =
    let p = err_from_is_err_and c.from_residual.result c.from_residual.ensures.1 in
    rw (p.1, p.2)
    (state_shut c.args.key c.requires c.in_err-start.ensures)

pub returns-in_err-value-clause-reads : goal.returns-in_err-value-clause-reads
returns-in_err-value-clause-reads c =
    let p = err_from_is_err_and c.from_residual-in_err-value.result c.from_residual-in_err-value.ensures.1 in
    rw (p.1, p.2)
    (state_missing c.args.key c.requires c.in_ok-start.ensures c.in_err-value.ensures)

pub emit-requires-2 : goal.emit-requires-2
emit-requires-2 c =
    state_second c.args.key c.requires c.in_ok-start.ensures c.in_ok-value.ensures c.emit.ensures.emits

pub returns-in_err-second-clause-reads : goal.returns-in_err-second-clause-reads
returns-in_err-second-clause-reads c =
    let p = err_from_is_err_and c.from_residual-in_err-second.result c.from_residual-in_err-second.ensures.1 in
    rw (p.1, p.2)
    (state_alone c.args.key c.requires c.in_ok-start.ensures c.in_ok-value.ensures c.emit.ensures.emits
    c.emit-2.ensures.emits c.in_err-second.ensures)

pub rate-requires : goal.rate-requires
rate-requires c =
    state_next c.args.key c.requires c.in_ok-start.ensures c.in_ok-value.ensures c.emit.ensures.emits
    c.emit-2.ensures.emits c.in_ok-second.ensures

pub returns-clause-reads : goal.returns-clause-reads
returns-clause-reads c =
    state_rated c.args.key c.requires c.in_ok-start.ensures c.in_ok-value.ensures c.emit.ensures.emits
    c.emit-2.ensures.emits c.in_ok-second.ensures c.rate.ensures.reads
