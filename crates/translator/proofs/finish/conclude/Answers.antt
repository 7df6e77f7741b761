-- The statements are grouped, and the answer is their refusal, or what the model of the units gives.
use borrow.Author.Rules.{rules}
use lib.ListN.{length}
use Rattle.model.proofs.PlanStages.{prefix_length}
use Rattle.translator.specs.Working.{asks_names}
use Rattle.translator.proofs.Grouping.{never_unfit, says_refused, units_fit, lines_room, bounds_room, firsts_room}
use Rattle.translator.proofs.Grouping.{units_ready, says_units}
use Rattle.translator.proofs.finish.conclude.Goals as goal

pub refused-requires : goal.refused-requires
refused-requires c e =
    let a = c.args in
    never_unfit c.requires c.group-grouped.result c.group-grouped.ensures (asks_names (length a.rows.now)) a.out.now
    a.ordered.now (rw e at c.in-Err.is)

pub returns-in-Err : goal.returns-in-Err
returns-in-Err c ready =
    let a = c.args in
    rw c.refused.ensures
    (says_refused ready c.group-grouped.result c.group-grouped.ensures (asks_names (length a.rows.now)) a.out.now
    a.ordered.now c.in-Err.refusal c.in-Err.is)

-- ---- the units are listed
pub slice_bounds-ulines-end : goal.slice_bounds-ulines-end
slice_bounds-ulines-end c =
    let a = c.args in
    lines_room c.requires c.group-grouped.result c.group-grouped.ensures (asks_names (length a.rows.now)) a.out.now
    a.ordered.now c.in-Ok.is

pub slice_bounds-conclude_units-end : goal.slice_bounds-conclude_units-end
slice_bounds-conclude_units-end c =
    let a = c.args in
    prefix_length _ _
    (lines_room c.requires c.group-grouped.result c.group-grouped.ensures (asks_names (length a.rows.now)) a.out.now
    a.ordered.now c.in-Ok.is)

pub overflow_add-ubounds : goal.overflow_add-ubounds
overflow_add-ubounds c =
    let a = c.args in
    let few =
    units_fit c.requires c.group-grouped.result c.group-grouped.ensures (asks_names (length a.rows.now)) a.out.now
    a.ordered.now c.in-Ok.is in
    search (rules, few)

pub slice_bounds-ubounds-end : goal.slice_bounds-ubounds-end
slice_bounds-ubounds-end c =
    let a = c.args in
    bounds_room c.requires c.group-grouped.result c.group-grouped.ensures (asks_names (length a.rows.now)) a.out.now
    a.ordered.now c.in-Ok.is

pub slice_bounds-conclude_units-end-2 : goal.slice_bounds-conclude_units-end-2
slice_bounds-conclude_units-end-2 c =
    let a = c.args in
    prefix_length _ _
    (bounds_room c.requires c.group-grouped.result c.group-grouped.ensures (asks_names (length a.rows.now)) a.out.now
    a.ordered.now c.in-Ok.is)

pub overflow_add-firsts : goal.overflow_add-firsts
overflow_add-firsts c =
    let a = c.args in
    let few =
    units_fit c.requires c.group-grouped.result c.group-grouped.ensures (asks_names (length a.rows.now)) a.out.now
    a.ordered.now c.in-Ok.is in
    search (rules, few)

pub slice_bounds-firsts-end : goal.slice_bounds-firsts-end
slice_bounds-firsts-end c =
    let a = c.args in
    firsts_room c.requires c.group-grouped.result c.group-grouped.ensures (asks_names (length a.rows.now)) a.out.now
    a.ordered.now c.in-Ok.is

pub slice_bounds-conclude_units-end-3 : goal.slice_bounds-conclude_units-end-3
slice_bounds-conclude_units-end-3 c =
    let a = c.args in
    prefix_length _ _
    (firsts_room c.requires c.group-grouped.result c.group-grouped.ensures (asks_names (length a.rows.now)) a.out.now
    a.ordered.now c.in-Ok.is)

pub conclude_units-requires : goal.conclude_units-requires
conclude_units-requires c =
    let a = c.args in
    units_ready c.requires c.group-grouped.result c.group-grouped.ensures (asks_names (length a.rows.now)) a.out.now
    a.ordered.now c.in-Ok.is

pub returns : goal.returns
returns c ready =
    let a = c.args in
    says_units ready c.group-grouped.result c.group-grouped.ensures (asks_names (length a.rows.now)) a.out.now
    a.ordered.now c.in-Ok.is c.conclude_units.result c.conclude_units.ensures
