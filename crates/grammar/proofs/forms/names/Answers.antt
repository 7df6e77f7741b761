-- `grammar::names` meets its contract. The measure is the count of tokens that are left.
use Rattle.std.proofs.Common.{rules, arith}
use Rattle.std.proofs.lemmas.Result.{err_from_is_err_and}
use Rattle.grammar.proofs.Headers.{names_first, names_none, name_there, name_room, names_last, names_again}
use Rattle.grammar.proofs.forms.names.Goals as goal

pub loop-next-init : goal.loop-next-init
loop-next-init c = (search rules, names_first c.args.kind c.requires)

pub returns-in_err-next-clause-reads : goal.returns-in_err-next-clause-reads
returns-in_err-next-clause-reads c =
    let p = err_from_is_err_and c.from_residual.result c.from_residual.ensures.1 in
    rw (p.1, p.2)
    (names_none c.loop-next.invariant.1 c.in_err-next.ensures)

pub bounds-row-i : goal.bounds-row-i
bounds-row-i c =
    let h = name_there c.loop-next.invariant.1 c.in_ok-next.ensures in
    omega (arith, c.loop-next.invariant.1.ready.even)

pub emit-requires : goal.emit-requires
emit-requires c = name_room c.loop-next.invariant.1 c.in_ok-next.ensures

pub returns-then-kind-ne44-clause-reads : goal.returns-then-kind-ne44-clause-reads
returns-then-kind-ne44-clause-reads c =
    names_last c.loop-next.invariant.1 c.in_ok-next.ensures c.emit.ensures.emits c.kind.ensures
    c.if-kind-ne44.true

pub loop-next-smaller : goal.loop-next-smaller
loop-next-smaller c =
    let h = name_there c.loop-next.invariant.1 c.in_ok-next.ensures in
    omega (arith, c.in_ok-next.ensures.1)

pub loop-next-preserved : goal.loop-next-preserved
loop-next-preserved c = (
  search rules,
  names_again c.loop-next.invariant.1 c.in_ok-next.ensures c.emit.ensures.emits c.kind.ensures
      c.if-kind-ne44.false,
)
