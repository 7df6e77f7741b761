-- The members of the cycle meet their contracts.
use Rattle.std.proofs.Common.{ℕ, ◌+◌, ◌-◌, rules, arith}
use Rattle.std.proofs.lemmas.Result.{err_from_is_err_and}
use Rattle.faults.proofs.Apart.{fault_code}
use Rattle.grammar.proofs.Ways.{terms_chain, factors_chain, term_first, expr_first}
use Rattle.grammar.proofs.Ways.{part_stopped, op_room, part_last, part_inside, part_less, part_again}
use Rattle.grammar.proofs.Openings.{one_inside, one_room, factor_one, group_enter, factor_group}
use Rattle.grammar.proofs.Openings.{factor_function, factor_shut, factor_none, opened_deep, opened_on}
use Rattle.grammar.proofs.Openings.{closer_last, closer_comma, list_from, item_enter, item_stopped, item_shut}
use Rattle.grammar.proofs.Openings.{item_room, item_next, item_last}
use Rattle.grammar.proofs.expressions.+expression_factor_items_opened_term.Goals as goal

-- ---- expression
pub expression-loop-next-init : goal.expression-loop-next-init
expression-loop-next-init t c =
    (search rules, expr_first _ c.requires c.kind-k.ensures c.sign_op-op.ensures c.skip_of.ensures)

pub expression-returns-in_err-next-clause-reads : goal.expression-returns-in_err-next-clause-reads
expression-returns-in_err-next-clause-reads t c =
    let p = err_from_is_err_and c.from_residual.result c.from_residual.ensures.1 in
    rw (p.1, p.2)
    (part_stopped c.loop-next.invariant.1 (fault_code c.in_err-next.field-0.0.fault) c.in_err-next.ensures.reads)

pub expression-emit_op-requires : goal.expression-emit_op-requires
expression-emit_op-requires t c = op_room c.loop-next.invariant.1 c.in_ok-next.ensures.reads

pub expression-returns-in_default-clause-reads : goal.expression-returns-in_default-clause-reads
expression-returns-in_default-clause-reads t c =
    let going = c.loop-next.invariant.1 in
    let part = c.in_ok-next.ensures.reads in
    let drafted = c.emit_op.ensures.emits in
    part_last going part drafted terms_chain c.kind.ensures c.in_default.ensures

pub expression-overflow_add-i-in-loop-next : goal.expression-overflow_add-i-in-loop-next
expression-overflow_add-i-in-loop-next t c =
    let going = c.loop-next.invariant.1 in
    let part = c.in_ok-next.ensures.reads in
    let drafted = c.emit_op.ensures.emits in
    let h = part_inside going part drafted terms_chain c.kind.ensures c.in-Some.ensures in
    omega (arith, c.well_formed)

pub expression-loop-next-smaller : goal.expression-loop-next-smaller
expression-loop-next-smaller t c =
    let going = c.loop-next.invariant.1 in
    let part = c.in_ok-next.ensures.reads in
    let drafted = c.emit_op.ensures.emits in
    part_less going part drafted terms_chain c.kind.ensures c.in-Some.ensures

pub expression-loop-next-preserved : goal.expression-loop-next-preserved
expression-loop-next-preserved t c =
    let going = c.loop-next.invariant.1 in
    let part = c.in_ok-next.ensures.reads in
    let drafted = c.emit_op.ensures.emits in
    (search rules, part_again going part drafted terms_chain c.kind.ensures c.in-Some.ensures)

-- ---- factor
pub factor-bounds-row-at : goal.factor-bounds-row-at
factor-bounds-row-at t c =
    let e = rw c.in-Some-One.field-0-is at c.in-Some-One.is in
    let h = one_inside c.requires c.kind.ensures c.face_of.ensures e in
    omega (arith, c.requires.even)

pub factor-emit-requires : goal.factor-emit-requires
factor-emit-requires t c =
    let e = rw c.in-Some-One.field-0-is at c.in-Some-One.is in
    one_room c.requires c.kind.ensures c.face_of.ensures e

pub factor-opened-requires : goal.factor-opened-requires
factor-opened-requires t c =
    let e = rw c.in-Some-Group.field-0-is at c.in-Some-Group.is in
    group_enter c.requires c.kind.ensures c.face_of.ensures e c.decreases

pub factor-returns-in_err-need-in-Some-Function-clause-reads
    : goal.factor-returns-in_err-need-in-Some-Function-clause-reads
factor-returns-in_err-need-in-Some-Function-clause-reads t c =
    let e = rw c.in-Some-Function.field-0-is at c.in-Some-Function.is in
    let p = err_from_is_err_and c.from_residual.result c.from_residual.ensures.1 in
    rw (p.1, p.2)
    (factor_shut c.requires c.kind.ensures c.face_of.ensures e c.in_err-need-in-Some-Function.ensures)

pub factor-returns-in-Some-One-clause-reads : goal.factor-returns-in-Some-One-clause-reads
factor-returns-in-Some-One-clause-reads t c =
    let e = rw c.in-Some-One.field-0-is at c.in-Some-One.is in
    factor_one c.requires c.kind.ensures c.face_of.ensures e c.leaf_arg.ensures c.emit.ensures.emits

pub factor-returns-in-Some-Group-clause-reads : goal.factor-returns-in-Some-Group-clause-reads
factor-returns-in-Some-Group-clause-reads t c =
    let e = rw c.in-Some-Group.field-0-is at c.in-Some-Group.is in
    factor_group c.requires c.kind.ensures c.face_of.ensures e c.opened.ensures.reads

pub factor-returns-in_ok-need-in-Some-Function-clause-reads
    : goal.factor-returns-in_ok-need-in-Some-Function-clause-reads
factor-returns-in_ok-need-in-Some-Function-clause-reads t c =
    let e = rw c.in-Some-Function.field-0-is at c.in-Some-Function.is in
    factor_function c.requires c.kind.ensures c.face_of.ensures e c.in_ok-need-in-Some-Function.ensures.0
    c.opened-in-Some-Function.ensures.reads

pub factor-returns-in-None-clause-reads : goal.factor-returns-in-None-clause-reads
factor-returns-in-None-clause-reads t c = factor_none c.requires c.kind.ensures c.face_of.ensures c.in-None.is

-- ---- items
pub items-loop-i-init : goal.items-loop-i-init
items-loop-i-init t c = (search rules, omega arith, λ m e. list_from c.args.count m c.args.kind c.requires e)

pub items-expression-requires : goal.items-expression-requires
items-expression-requires t c =
    let left : ℕ = c.args.count + 1 - c.loop-i._i in
    let going = c.loop-i.invariant.2 left (omega (arith, c.loop-i.invariant.1)) in
    item_enter going c.decreases

pub items-returns-in_err-next-clause-reads : goal.items-returns-in_err-next-clause-reads
items-returns-in_err-next-clause-reads t c =
    let left : ℕ = c.args.count + 1 - c.loop-i._i in
    let going = c.loop-i.invariant.2 left (omega (arith, c.loop-i.invariant.1)) in
    let p = err_from_is_err_and c.from_residual.result c.from_residual.ensures.1 in
    rw (p.1, p.2)
    (item_stopped going (fault_code c.in_err-next.field-0.0.fault) c.in_err-next.ensures.reads)

pub items-returns-in_err-i-clause-reads : goal.items-returns-in_err-i-clause-reads
items-returns-in_err-i-clause-reads t c =
    let left : ℕ = c.args.count + 1 - c.loop-i._i in
    let going = c.loop-i.invariant.2 left (omega (arith, c.loop-i.invariant.1)) in
    let mark = closer_comma left (omega arith) in
    let p = err_from_is_err_and c.from_residual-in_err-i.result c.from_residual-in_err-i.ensures.1 in
    rw (p.1, p.2)
    (item_shut going c.in_ok-next.ensures.reads mark c.in_err-i.ensures)

pub items-loop-i-preserved : goal.items-loop-i-preserved
items-loop-i-preserved t c = (
  search rules,
  omega arith,
  λ m e. item_next m (c.loop-i.invariant.2 (m + 1) (omega arith)) c.in_ok-next.ensures.reads c.in_ok-i.ensures
      (omega arith),
)

pub items-expression-requires-2 : goal.items-expression-requires-2
items-expression-requires-2 t c =
    let left : ℕ = c.args.count + 1 - c.loop-i._i in
    let going = c.loop-i.invariant.2 left (omega (arith, c.loop-i.invariant.1)) in
    item_enter going c.decreases

pub items-returns-in_err-last-clause-reads : goal.items-returns-in_err-last-clause-reads
items-returns-in_err-last-clause-reads t c =
    let left : ℕ = c.args.count + 1 - c.loop-i._i in
    let going = c.loop-i.invariant.2 left (omega (arith, c.loop-i.invariant.1)) in
    let p = err_from_is_err_and c.from_residual-in_err-last.result c.from_residual-in_err-last.ensures.1 in
    rw (p.1, p.2)
    (item_stopped going (fault_code c.in_err-last.field-0.0.fault) c.in_err-last.ensures.reads)

pub items-returns-in_err-behind-clause-reads : goal.items-returns-in_err-behind-clause-reads
items-returns-in_err-behind-clause-reads t c =
    let left : ℕ = c.args.count + 1 - c.loop-i._i in
    let going = c.loop-i.invariant.2 left (omega (arith, c.loop-i.invariant.1)) in
    let mark = closer_last left (omega (arith, c.loop-i.invariant.1)) in
    let p = err_from_is_err_and c.from_residual-in_err-behind.result c.from_residual-in_err-behind.ensures.1 in
    rw (p.1, p.2)
    (item_shut going c.in_ok-last.ensures.reads mark c.in_err-behind.ensures)

pub items-emit_op-requires : goal.items-emit_op-requires
items-emit_op-requires t c =
    let left : ℕ = c.args.count + 1 - c.loop-i._i in
    let going = c.loop-i.invariant.2 left (omega (arith, c.loop-i.invariant.1)) in
    let mark = closer_last left (omega (arith, c.loop-i.invariant.1)) in
    item_room going c.in_ok-last.ensures.reads mark c.in_ok-behind.ensures

pub items-returns-clause-reads : goal.items-returns-clause-reads
items-returns-clause-reads t c =
    let left : ℕ = c.args.count + 1 - c.loop-i._i in
    let going = c.loop-i.invariant.2 left (omega (arith, c.loop-i.invariant.1)) in
    let mark = closer_last left (omega (arith, c.loop-i.invariant.1)) in
    item_last going c.in_ok-last.ensures.reads mark c.in_ok-behind.ensures (omega arith) c.emit_op.ensures.emits

-- ---- opened
pub opened-returns-then-allowed-eq0-clause-reads : goal.opened-returns-then-allowed-eq0-clause-reads
opened-returns-then-allowed-eq0-clause-reads t c o _ _ = opened_deep c.requires c.if-allowed-eq0.true o

pub opened-returns-clause-reads : goal.opened-returns-clause-reads
opened-returns-clause-reads t c o n k = opened_on c.requires c.if-allowed-eq0.false o (c.items.ensures.reads o n k)

-- ---- term
pub term-loop-next-init : goal.term-loop-next-init
term-loop-next-init t c = (search rules, term_first c.requires)

pub term-returns-in_err-next-clause-reads : goal.term-returns-in_err-next-clause-reads
term-returns-in_err-next-clause-reads t c =
    let p = err_from_is_err_and c.from_residual.result c.from_residual.ensures.1 in
    rw (p.1, p.2)
    (part_stopped c.loop-next.invariant.1 (fault_code c.in_err-next.field-0.0.fault) c.in_err-next.ensures.reads)

pub term-emit_op-requires : goal.term-emit_op-requires
term-emit_op-requires t c = op_room c.loop-next.invariant.1 c.in_ok-next.ensures.reads

pub term-returns-in_default-clause-reads : goal.term-returns-in_default-clause-reads
term-returns-in_default-clause-reads t c =
    let going = c.loop-next.invariant.1 in
    let part = c.in_ok-next.ensures.reads in
    let drafted = c.emit_op.ensures.emits in
    part_last going part drafted factors_chain c.kind.ensures c.in_default.ensures

pub term-overflow_add-i : goal.term-overflow_add-i
term-overflow_add-i t c =
    let going = c.loop-next.invariant.1 in
    let part = c.in_ok-next.ensures.reads in
    let drafted = c.emit_op.ensures.emits in
    let h = part_inside going part drafted factors_chain c.kind.ensures c.in-Some.ensures in
    omega (arith, c.well_formed)

pub term-loop-next-smaller : goal.term-loop-next-smaller
term-loop-next-smaller t c =
    let going = c.loop-next.invariant.1 in
    let part = c.in_ok-next.ensures.reads in
    let drafted = c.emit_op.ensures.emits in
    part_less going part drafted factors_chain c.kind.ensures c.in-Some.ensures

pub term-loop-next-preserved : goal.term-loop-next-preserved
term-loop-next-preserved t c =
    let going = c.loop-next.invariant.1 in
    let part = c.in_ok-next.ensures.reads in
    let drafted = c.emit_op.ensures.emits in
    (search rules, part_again going part drafted factors_chain c.kind.ensures c.in-Some.ensures)
