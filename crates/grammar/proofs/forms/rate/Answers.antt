-- `grammar::rate` meets its contract.
use Rattle.std.proofs.lemmas.Result.{err_from_is_err_and}
use Rattle.faults.proofs.Apart.{fault_code}
use Rattle.grammar.proofs.Statements.{rate_stopped, rate_shut, rate_room, rate_done}
use Rattle.grammar.proofs.forms.rate.Goals as goal

pub returns-in_err-behind-clause-reads : goal.returns-in_err-behind-clause-reads
returns-in_err-behind-clause-reads c =
    let p = err_from_is_err_and c.from_residual.result c.from_residual.ensures.1 in
    rw (p.1, p.2)
    (rate_stopped c.args.key c.requires (fault_code c.in_err-behind.field-0.0.fault) c.in_err-behind.ensures.reads)

pub returns-in_err-next-clause-reads : goal.returns-in_err-next-clause-reads
returns-in_err-next-clause-reads c =
    let p = err_from_is_err_and c.from_residual-in_err-next.result c.from_residual-in_err-next.ensures.1 in
    rw (p.1, p.2)
    (rate_shut c.args.key c.requires c.in_ok-behind.ensures.reads c.in_err-next.ensures)

pub emit-requires : goal.emit-requires
emit-requires c = rate_room c.args.key c.requires c.in_ok-behind.ensures.reads c.in_ok-next.ensures

pub returns-clause-reads : goal.returns-clause-reads
returns-clause-reads c =
    rate_done c.args.key c.requires c.in_ok-behind.ensures.reads c.in_ok-next.ensures c.emit.ensures.emits
