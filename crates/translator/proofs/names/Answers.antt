-- The answer where names are asked for, with no place lent for the order.
use mathlib.Core.List.{[]}
use Rattle.std.specs.Prelude.{Ok, Err}
use Rattle.std.proofs.lemmas.Result.{err_from_is_err_and}
use Rattle.translator.proofs.Verdicts.{answers_names}
use Rattle.translator.proofs.names.Goals as goal

pub returns : goal.returns
returns c =
    let a = c.args in
    answers_names a.text.now a.faults.now a.out.now [] (Ok c.in_ok-done.done) c.in_ok-done.ensures

pub returns-in_err-done : goal.returns-in_err-done
returns-in_err-done c =
    let a = c.args in
    let p = err_from_is_err_and c.from_residual.result c.from_residual.ensures.1 in
    rw (p.1, p.2)
    (answers_names a.text.now a.faults.now a.out.now [] (Err c.in_err-done.field-0.0) c.in_err-done.ensures)
