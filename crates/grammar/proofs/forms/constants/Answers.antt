-- `grammar::constants` meets its contract.
use Rattle.std.proofs.Common.{rules, arith}
use Rattle.std.proofs.lemmas.Result.{err_from_is_err_and}
use Rattle.grammar.proofs.Statements.{name_inside, const_none, const_shut, const_missing, const_room, const_second}
use Rattle.grammar.proofs.Statements.{const_last, const_less, const_ready, const_more, many_first}
use Rattle.grammar.proofs.forms.constants.Goals as goal

pub loop-equals-init : goal.loop-equals-init
loop-equals-init c = (search rules, many_first c.requires)

pub returns-in_err-equals-clause-reads : goal.returns-in_err-equals-clause-reads
returns-in_err-equals-clause-reads c =
    let going = c.loop-equals.invariant.1 in
    let p = err_from_is_err_and c.from_residual.result c.from_residual.ensures.1 in
    rw (p.1, p.2)
    (going.all (const_none going.ready c.in_err-equals.ensures))

pub returns-in_err-start-clause-reads : goal.returns-in_err-start-clause-reads
returns-in_err-start-clause-reads c =
    let going = c.loop-equals.invariant.1 in
    let p = err_from_is_err_and c.from_residual-in_err-start.result c.from_residual-in_err-start.ensures.1 in
    rw (p.1, p.2)
    (going.all (const_shut going.ready c.in_ok-equals.ensures c.in_err-start.ensures))

pub returns-in_err-value-clause-reads : goal.returns-in_err-value-clause-reads
returns-in_err-value-clause-reads c =
    let going = c.loop-equals.invariant.1 in
    let p = err_from_is_err_and c.from_residual-in_err-value.result c.from_residual-in_err-value.ensures.1 in
    rw (p.1, p.2)
    (going.all (const_missing going.ready c.in_ok-equals.ensures c.in_ok-start.ensures c.in_err-value.ensures))

pub bounds-row-i : goal.bounds-row-i
bounds-row-i c =
    let going = c.loop-equals.invariant.1 in
    let h = name_inside going.ready c.in_ok-equals.ensures in
    omega (arith, going.ready.even)

pub emit-requires : goal.emit-requires
emit-requires c =
    let going = c.loop-equals.invariant.1 in
    const_room going.ready c.in_ok-equals.ensures c.in_ok-start.ensures c.in_ok-value.ensures

pub emit-requires-in-loop-equals : goal.emit-requires-in-loop-equals
emit-requires-in-loop-equals c =
    let going = c.loop-equals.invariant.1 in
    const_second going.ready c.in_ok-equals.ensures c.in_ok-start.ensures c.in_ok-value.ensures c.emit.ensures.emits

pub returns-then-kind-ne44-clause-reads : goal.returns-then-kind-ne44-clause-reads
returns-then-kind-ne44-clause-reads c =
    let going = c.loop-equals.invariant.1 in
    let named = c.in_ok-equals.ensures in
    let equals = c.in_ok-start.ensures in
    let value = c.in_ok-value.ensures in
    let first = c.emit.ensures.emits in
    let second = c.emit-in-loop-equals.ensures.emits in
    going.all (const_last going.ready named equals value c.kind.ensures first second c.if-kind-ne44.true)

pub loop-equals-smaller : goal.loop-equals-smaller
loop-equals-smaller c =
    let going = c.loop-equals.invariant.1 in
    let named = c.in_ok-equals.ensures in
    let equals = c.in_ok-start.ensures in
    let value = c.in_ok-value.ensures in
    let first = c.emit.ensures.emits in
    let second = c.emit-in-loop-equals.ensures.emits in
    const_less going.ready named equals value c.kind.ensures first second c.if-kind-ne44.false

pub loop-equals-preserved : goal.loop-equals-preserved
loop-equals-preserved c =
    let going = c.loop-equals.invariant.1 in
    let named = c.in_ok-equals.ensures in
    let equals = c.in_ok-start.ensures in
    let value = c.in_ok-value.ensures in
    let first = c.emit.ensures.emits in
    let second = c.emit-in-loop-equals.ensures.emits in
    let comma = c.if-kind-ne44.false in (
      search rules,
      record {
        ready = const_ready going.ready named equals value c.kind.ensures first second comma;
        all = λ g. going.all (const_more going.ready named equals value c.kind.ensures first second comma g);
      },
    )
