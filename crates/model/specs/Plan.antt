-- What `plan` answers for the arrays that hold units (specs/Layout of crate blocks), and what it leaves in those that
-- are lent to it. The tests stand in the order of the paper's verdict: 6; then 7 by the faults 21, by 22 and 23, by 24;
-- else 0, and with it all that the program is written from: the count of definitions, with their places at the front of
-- an array, and of the units of the order, with these and their order.
use Rattle.std.specs.Prelude.{ℕ, ◌+◌, ◌*◌, Bool, cond, ◌&&◌, List, eqb, leb, ltb, length}
use Rattle.std.proofs.lemmas.List.Edits.{sets}
use Rattle.limits.specs.Limits.{most_statements, most_definitions, text_bytes, fault_bytes}
use Rattle.sheet.specs.Sheet.{Fault, fault_list}
use Rattle.blocks.specs.Grouped.{some, in_turn}
use Rattle.order.specs.Greedy.{order}
use Rattle.order.specs.Table.{uses_by_table}
use Rattle.model.specs.Places.{keys_in, places_in, doubles, resolved, nameless, ordered_in, assigned_slots, used_in}
use Rattle.model.specs.Places.{starts_from, loops}

-- the three arrays that are lent for what the program is written from: the places of the definitions, the units of the
-- order by number, and their order
pub record Lent : Type 0 where
  pub places : List ℕ
  pub equated : List ℕ
  pub order : List ℕ

abbrev pub lent : List ℕ → List ℕ → List ℕ → Lent
lent places equated order = record { places = places; equated = equated; order = order }

-- a row is written to the front of one of them, as far as there is room; the rest is as lent
abbrev pub with_places : List ℕ → Lent → Lent
with_places row l = lent (sets l.places 0 row) l.equated l.order

abbrev pub with_equated : List ℕ → Lent → Lent
with_equated row l = lent l.places (sets l.equated 0 row) l.order

abbrev pub with_order : List ℕ → Lent → Lent
with_order row l = lent l.places l.equated (sets l.order 0 row)

-- a number, 0 without refusal; the count of faults; with number 0 the counts of definitions and of units of the order
pub record Plan : Type 0 where
  pub number : ℕ
  pub count : ℕ
  pub definitions : ℕ
  pub units : ℕ

-- these, and the final content of the arguments, the table of uses, the fault list and the three arrays
pub record PlanOutcome : Type 0 where
  pub plan : Plan
  pub args : List ℕ
  pub used : List ℕ
  pub faults : List ℕ
  pub arrays : Lent

abbrev pub plan_outcome : Plan → List ℕ → List ℕ → List ℕ → Lent → PlanOutcome
plan_outcome p args used faults l = record { plan = p; args = args; used = used; faults = faults; arrays = l }

-- a refusal: its number and the count of faults, the rest 0
abbrev pub refused : ℕ → ℕ → Plan
refused n c = record { number = n; count = c; definitions = 0; units = 0 }

-- faults stand: they are written to the front of the list
abbrev pub faulted : List Fault → List ℕ → List ℕ → List ℕ → Lent → PlanOutcome
faulted fs args used faults l = plan_outcome (refused 7 (length fs)) args used (sets faults 0 (fault_list fs)) l

-- ---- 9: the arrays hold no units, or there is too little room

-- arrays of these lengths have room for every definition, for every statement, and for the order of these
unfoldable pub roomy : ℕ → ℕ → ℕ → Bool
roomy places equated order = leb most_definitions places && (leb most_statements equated && leb most_statements order)

-- the last six are the lengths of the arguments, the table of uses, the fault list and the three arrays
unfoldable pub fit : List ℕ → List ℕ → List ℕ → List ℕ → List ℕ → ℕ → ℕ → ℕ → ℕ → ℕ → ℕ → Bool
fit lines bounds ulines ubounds kinds args used faults places equated order =
    leb (length lines) most_statements
    && (eqb (length bounds) (length lines + 1)
    && (leb (length ulines) (length lines)
    && (eqb (length ubounds) (length ulines + 1)
    && (leb (length kinds) text_bytes
    && (leb (length kinds) args
    && (leb (length kinds) used
    && (leb (fault_bytes * length lines) faults
    && (roomy places equated order
    && (in_turn bounds (length lines) (length kinds) && in_turn ubounds (length ulines) (length kinds))))))))))

-- ---- the table, from its end to its beginning. lines and bounds are those of units, but for 21

-- 24: fewer units are placed than there are; n is the count of definitions
unfoldable pub ordered_plan : List ℕ → ℕ → List ℕ → List ℕ → List ℕ → List ℕ → List ℕ → Lent → PlanOutcome
ordered_plan placed n equated lines slots used faults l =
    cond (ltb (length placed) (length equated))
    (faulted (loops placed equated lines) slots used faults (with_order placed l))
    (plan_outcome (record { number = 0; count = 0; definitions = n; units = length equated }) slots used faults
    (with_order placed l))

-- the units of these numbers, placed by what they use
unfoldable pub weighed : List ℕ → ℕ → List ℕ → List ℕ → List ℕ → List ℕ → List ℕ → List ℕ → Lent → PlanOutcome
weighed equated n lines bounds kinds slots used faults l =
    let assigned = assigned_slots equated bounds kinds slots in
    let table = used_in assigned bounds kinds slots equated in
    let starts = starts_from 0 assigned bounds kinds slots equated in
    ordered_plan (order (length equated) (uses_by_table starts table)) n equated lines slots used faults l

-- 22 and 23
unfoldable pub tested : List ℕ → List ℕ → List ℕ → List ℕ → List ℕ → List ℕ → List ℕ → Lent → PlanOutcome
tested places lines bounds kinds slots used faults l =
    let fs = nameless places lines bounds kinds slots in
    cond (some fs) (faulted fs slots used faults l)
    (weighed (ordered_in (length lines) bounds kinds) (length places) lines bounds kinds slots used faults l)

-- the slots that the units of the order among n assign, and what these use
abbrev pub own_slots : ℕ → List ℕ → List ℕ → List ℕ → List (List ℕ)
own_slots n bounds kinds slots = assigned_slots (ordered_in n bounds kinds) bounds kinds slots

abbrev pub own_uses : ℕ → List ℕ → List ℕ → List ℕ → List ℕ
own_uses n bounds kinds slots = used_in (own_slots n bounds kinds slots) bounds kinds slots (ordered_in n bounds kinds)

-- the units of the order and the table of uses are written
unfoldable pub linked_plan : List ℕ → List ℕ → List ℕ → List ℕ → List ℕ → List ℕ → List ℕ → Lent → PlanOutcome
linked_plan places lines bounds kinds slots used faults l =
    tested places lines bounds kinds slots (sets used 0 (own_uses (length lines) bounds kinds slots)) faults
    (with_equated (ordered_in (length lines) bounds kinds) l)

-- 21, by statements
unfoldable pub distinct : List ℕ → List ℕ → List ℕ → List ℕ → List ℕ → List ℕ → List ℕ → List ℕ → Lent → PlanOutcome
distinct lines bounds ulines ubounds kinds args used faults l =
    let fs = doubles lines bounds kinds args in
    cond (some fs) (faulted fs args used faults l)
    (linked_plan (places_in kinds) ulines ubounds kinds (resolved (keys_in kinds args) kinds args) used faults l)

-- the places are written; 6: too many definitions, doubles counted
unfoldable pub sheeted : List ℕ → List ℕ → List ℕ → List ℕ → List ℕ → List ℕ → List ℕ → List ℕ → Lent → PlanOutcome
sheeted lines bounds ulines ubounds kinds args used faults l =
    let m = with_places (places_in kinds) l in
    cond (ltb most_definitions (length (keys_in kinds args))) (plan_outcome (refused 6 0) args used faults m)
    (distinct lines bounds ulines ubounds kinds args used faults m)

unfoldable pub planned : List ℕ → List ℕ → List ℕ → List ℕ → List ℕ → List ℕ → List ℕ → List ℕ → Lent → PlanOutcome
planned lines bounds ulines ubounds kinds args used faults l =
    cond
    (fit lines bounds ulines ubounds kinds (length args) (length used) (length faults) (length l.places)
    (length l.equated) (length l.order))
    (sheeted lines bounds ulines ubounds kinds args used faults l) (plan_outcome (refused 9 0) args used faults l)
