-- `grammar::assignment` meets its contract.
use Rattle.std.proofs.lemmas.Result.{err_from_is_err_and}
use Rattle.faults.proofs.Apart.{fault_code}
use Rattle.grammar.proofs.Statements.{assign_stopped, assign_room, assign_done}
use Rattle.grammar.proofs.forms.assignment.Goals as goal

pub returns-in_err-next-clause-reads : goal.returns-in_err-next-clause-reads
returns-in_err-next-clause-reads c =
    let p = err_from_is_err_and c.from_residual.result c.from_residual.ensures.1 in
    rw (p.1, p.2)
    (assign_stopped c.args.key c.requires (fault_code c.in_err-next.field-0.0.fault) c.in_err-next.ensures.reads)

pub emit-requires : goal.emit-requires
emit-requires c = assign_room c.args.key c.requires c.in_ok-next.ensures.reads

pub returns-clause-reads : goal.returns-clause-reads
returns-clause-reads c = assign_done c.args.key c.requires c.in_ok-next.ensures.reads c.emit.ensures.emits
