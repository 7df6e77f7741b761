-- What `group` answers for the arrays of a sheet, and what it leaves in those that are lent to it. The tests stand in
-- the order of the paper's verdict: 6; then 7 by the faults 25, by 26; else 0, and with it the units: their lines,
-- bounds and first statements at the front of three arrays, and the kinds as they are inside blocks.
use Rattle.std.specs.Prelude.{ℕ, ◌+◌, ◌*◌, Bool, not, cond, ◌&&◌, List, eqb, leb, ltb, length}
use Rattle.std.proofs.lemmas.List.Edits.{sets}
use Rattle.limits.specs.Limits.{most_statements, most_definitions, text_bytes, fault_bytes}
use Rattle.laws.specs.Places.{any_in}
use Rattle.drafts.specs.Places.{begins, ends}
use Rattle.sheet.specs.Sheet.{Fault, fault_list}
use Rattle.blocks.specs.Places.{defining_in, faults25_in, starts_in, firsts_in, unit_lines_in, unit_bounds_in}
use Rattle.blocks.specs.InsidePlaces.{faults26_in, rewritten_kinds}

-- the three arrays that are lent for the units: their lines, their bounds and their first statements
pub record UnitArrays : Type 0 where
  pub lines : List ℕ
  pub bounds : List ℕ
  pub firsts : List ℕ

abbrev pub unit_arrays : List ℕ → List ℕ → List ℕ → UnitArrays
unit_arrays lines bounds firsts = record { lines = lines; bounds = bounds; firsts = firsts }

-- a number, 0 without refusal; the count of faults; with number 0 the count of units
pub record Grouping : Type 0 where
  pub number : ℕ
  pub count : ℕ
  pub units : ℕ

-- these, and the final content of the kinds, the fault list and the three arrays
pub record GroupOutcome : Type 0 where
  pub grouping : Grouping
  pub kinds : List ℕ
  pub faults : List ℕ
  pub arrays : UnitArrays

abbrev pub group_outcome : Grouping → List ℕ → List ℕ → UnitArrays → GroupOutcome
group_outcome g kinds faults a = record { grouping = g; kinds = kinds; faults = faults; arrays = a }

-- a refusal: its number and the count of faults
abbrev pub group_refused : ℕ → ℕ → Grouping
group_refused n c = record { number = n; count = c; units = 0 }

-- faults stand: they are written to the front of the list
abbrev pub group_faulted : List Fault → List ℕ → List ℕ → UnitArrays → GroupOutcome
group_faulted fs kinds faults a = group_outcome (group_refused 7 (length fs)) kinds (sets faults 0 (fault_list fs)) a

abbrev pub some : List Fault → Bool
some fs = ltb 0 (length fs)

-- ---- 9: the arrays are none of a sheet, or there is too little room

abbrev pub falls : List ℕ → ℕ → Bool
falls bounds j = ltb (ends bounds j) (begins bounds j)

-- n statements follow each other from draft 0 to the last of size drafts
unfoldable pub in_turn : List ℕ → ℕ → ℕ → Bool
in_turn bounds n size = eqb (begins bounds 0) 0 && (eqb (begins bounds n) size && not (any_in (falls bounds) n 0))

-- arrays of these lengths have room for n statements and one more
unfoldable pub group_roomy : ℕ → ℕ → ℕ → ℕ → Bool
group_roomy n ulines ubounds firsts = leb (n + 1) ulines && (leb (n + 1) ubounds && leb (n + 1) firsts)

-- the last five are the lengths of the arguments, the fault list and the three arrays
unfoldable pub group_fit : List ℕ → List ℕ → List ℕ → ℕ → ℕ → ℕ → ℕ → ℕ → Bool
group_fit lines bounds kinds args faults ulines ubounds firsts =
    leb (length lines) most_statements
    && (eqb (length bounds) (length lines + 1)
    && (leb (length kinds) text_bytes
    && (leb (length kinds) args
    && (leb (fault_bytes * length lines) faults
    && (group_roomy (length lines) ulines ubounds firsts && in_turn bounds (length lines) (length kinds))))))

-- ---- the table, from its end to its beginning

-- the units are written to the front of the three arrays; the rest of these is as lent. The kinds become those inside
-- blocks
abbrev pub with_units : List ℕ → List ℕ → List ℕ → UnitArrays → UnitArrays
with_units lines bounds kinds a =
    unit_arrays (sets a.lines 0 (unit_lines_in lines bounds kinds))
    (sets a.bounds 0 (unit_bounds_in (length lines) bounds kinds))
    (sets a.firsts 0 (firsts_in (length lines) bounds kinds))

unfoldable pub united : List ℕ → List ℕ → List ℕ → List ℕ → List ℕ → UnitArrays → GroupOutcome
united lines bounds kinds args faults a =
    group_outcome (record { number = 0; count = 0; units = length (starts_in (length lines) bounds kinds) })
    (rewritten_kinds (length lines) bounds kinds args) faults (with_units lines bounds kinds a)

-- 26
unfoldable pub right_inside : List ℕ → List ℕ → List ℕ → List ℕ → List ℕ → UnitArrays → GroupOutcome
right_inside lines bounds kinds args faults a =
    let fs = faults26_in lines bounds kinds args in
    cond (some fs) (group_faulted fs kinds faults a) (united lines bounds kinds args faults a)

-- 25
unfoldable pub paired : List ℕ → List ℕ → List ℕ → List ℕ → List ℕ → UnitArrays → GroupOutcome
paired lines bounds kinds args faults a =
    let fs = faults25_in lines bounds kinds in
    cond (some fs) (group_faulted fs kinds faults a) (right_inside lines bounds kinds args faults a)

-- 6: too many definitions, each setting counted
unfoldable pub limited : List ℕ → List ℕ → List ℕ → List ℕ → List ℕ → UnitArrays → GroupOutcome
limited lines bounds kinds args faults a =
    cond (ltb most_definitions (length (defining_in kinds))) (group_outcome (group_refused 6 0) kinds faults a)
    (paired lines bounds kinds args faults a)

unfoldable pub grouped : List ℕ → List ℕ → List ℕ → List ℕ → List ℕ → UnitArrays → GroupOutcome
grouped lines bounds kinds args faults a =
    cond
    (group_fit lines bounds kinds (length args) (length faults) (length a.lines) (length a.bounds)
    (length a.firsts))
    (limited lines bounds kinds args faults a) (group_outcome (group_refused 9 0) kinds faults a)
