-- `grammar::signed_number` meets its contract.
use Rattle.std.proofs.lemmas.Result.{err_from_is_err_and}
use Rattle.grammar.proofs.Values.{number_missing, number_there}
use Rattle.grammar.proofs.forms.signed_number.Goals as goal

pub returns-in_err-next : goal.returns-in_err-next
returns-in_err-next c =
    let p = err_from_is_err_and c.from_residual.result c.from_residual.ensures.1 in
    rw (p.1, p.2)
    (number_missing c.requires c.kind-k.ensures c.skip_of.ensures c.in_err-next.ensures)

pub returns : goal.returns
returns c =
    number_there c.requires c.kind-k.ensures c.skip_of.ensures c.in_ok-next.ensures c.float_of.ensures
    c.signed-x.ensures c.bits_of.ensures
