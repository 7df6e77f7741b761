-- The model as code works it out: by place, over the arrays that hold units (specs/Layout of crate blocks). kinds and
-- args are their drafts, lines and bounds those of their statements; where a unit is meant, of the units. Every read
-- past an end gives 0, so that each of these says something of every array. What they mean for units that are laid out
-- is said by the laws of proofs/ArraysMean.
use Rattle.std.specs.Prelude.{ℕ, zero, suc, ◌+◌, ◌-◌, Bool, not, cond, ◌&&◌, ◌||◌, List, [], ◌∷◌, ◌++◌, map, eqb, ltb}
use Rattle.std.specs.Prelude.{length, get_or}
use Rattle.laws.specs.Places.{gather, only_if}
use Rattle.laws.specs.Counts.{has}
use Rattle.drafts.specs.Kinds.{kind_constant, kind_from, kind_store, kind_own, kind_output, defines, is_use, asks}
use Rattle.drafts.specs.Kinds.{is_named}
use Rattle.drafts.specs.Kinds.{closes}
use Rattle.drafts.specs.Places.{begins, ends, in_statement, any_of, last_kind, home_of}
use Rattle.sheet.specs.Sheet.{Fault}
use Rattle.model.specs.Definitions.{place_in}
use Rattle.blocks.specs.Tests.{again, fault_if}
use Rattle.model.specs.Faults.{name_fault}

-- ---- definitions

-- the key that place i defines, if it defines one
abbrev pub defined_at : List ℕ → List ℕ → ℕ → List ℕ
defined_at kinds args i = only_if (defines (get_or kinds i 0)) (get_or args i 0)

-- the keys of all definitions, and their places
unfoldable pub keys_in : List ℕ → List ℕ → List ℕ
keys_in kinds args = gather (defined_at kinds args) (length kinds) 0

unfoldable pub places_in : List ℕ → List ℕ
places_in kinds = gather (λ i. only_if (defines (get_or kinds i 0)) i) (length kinds) 0

-- 21 at statement j: one of its definitions is of a name that is defined before it
abbrev pub double_at : List ℕ → List ℕ → List ℕ → List ℕ → ℕ → List Fault
double_at lines bounds kinds args j =
    fault_if (again (gather (defined_at kinds args) (begins bounds j) 0)
    (in_statement bounds (defined_at kinds args) j))
    (get_or lines j 0) 21

unfoldable pub doubles : List ℕ → List ℕ → List ℕ → List ℕ → List Fault
doubles lines bounds kinds args = gather (double_at lines bounds kinds args) (length lines) 0

-- ---- names resolved: in the place of a key its slot, one more than the place among the keys; the count of keys and
-- one more where nothing defines it
abbrev pub resolved_at : List ℕ → ℕ → ℕ → ℕ
resolved_at keys k a = cond (is_named k) (suc (place_in a keys)) a

unfoldable pub resolved : List ℕ → List ℕ → List ℕ → List ℕ
resolved keys [] args = args
resolved keys (k ∷ kinds) [] = []
resolved keys (k ∷ kinds) (a ∷ args) = resolved_at keys k a ∷ resolved keys kinds args

-- ---- from here on the arguments are resolved, n is the count of definitions, places are theirs

-- nothing outside a block defines this slot's name: it is past the last, or a block's own
abbrev pub unknown : List ℕ → List ℕ → ℕ → Bool
unknown places kinds s = ltb (length places) s || eqb (get_or kinds (home_of places s) 0) kind_own

-- place i asks for such a name
abbrev pub undefined_at : List ℕ → List ℕ → List ℕ → ℕ → Bool
undefined_at places kinds slots i = asks (get_or kinds i 0) && unknown places kinds (get_or slots i 0)

-- place i has an initial's name that is no constant
abbrev pub unfit_at : List ℕ → List ℕ → List ℕ → ℕ → Bool
unfit_at places kinds slots i =
    eqb (get_or kinds i 0) kind_from && not (eqb (get_or kinds (home_of places (get_or slots i 0)) 0) kind_constant)

-- 22 or 23 at unit j
abbrev pub names_at : List ℕ → List ℕ → List ℕ → List ℕ → List ℕ → ℕ → List Fault
names_at places lines bounds kinds slots j =
    name_fault (not (any_of bounds (undefined_at places kinds slots) j))
    (not (any_of bounds (unfit_at places kinds slots) j)) (get_or lines j 0)

unfoldable pub nameless : List ℕ → List ℕ → List ℕ → List ℕ → List ℕ → List Fault
nameless places lines bounds kinds slots = gather (names_at places lines bounds kinds slots) (length lines) 0

-- ---- the units of the order: those that end with a store, a derivative or a block's end, by number
abbrev pub is_ordered : List ℕ → List ℕ → ℕ → Bool
is_ordered bounds kinds j =
    ltb (begins bounds j) (ends bounds j) && closes (last_kind bounds kinds j)

-- n is the count of units
unfoldable pub ordered_in : ℕ → List ℕ → List ℕ → List ℕ
ordered_in n bounds kinds = gather (λ j. only_if (is_ordered bounds kinds j) j) n 0

-- the slots of a header's outputs: of the n places from i on those in front that are outputs
unfoldable pub output_slots : List ℕ → List ℕ → ℕ → ℕ → List ℕ
output_slots kinds slots zero i = []
output_slots kinds slots (suc n) i =
    let r = get_or slots i 0 ∷ output_slots kinds slots n (suc i) in
    cond (eqb (get_or kinds i 0) kind_output) r []

-- the slots that a unit assigns: a block its outputs', an assignment that of its store
abbrev pub assigned_by : List ℕ → List ℕ → List ℕ → ℕ → List ℕ
assigned_by bounds kinds slots j =
    output_slots kinds slots (ends bounds j - begins bounds j) (begins bounds j)
    ++ only_if (eqb (last_kind bounds kinds j) kind_store) (get_or slots (ends bounds j - 1) 0)

abbrev pub assigned_slots : List ℕ → List ℕ → List ℕ → List ℕ → List (List ℕ)
assigned_slots ordered bounds kinds slots = map (assigned_by bounds kinds slots) ordered

-- the first list in which s stands, how many there are where it stands in none
unfoldable pub place_among : ℕ → List (List ℕ) → ℕ
place_among s [] = 0
place_among s (l ∷ ls) =
    let r = suc (place_among s ls) in
    cond (has s l) 0 r

-- the unit that place i uses: the one that assigns its name, if one does
abbrev pub used_by : List (List ℕ) → ℕ → List ℕ
used_by assigned s = only_if (ltb (place_among s assigned) (length assigned)) (place_among s assigned)

abbrev pub used_at : List (List ℕ) → List ℕ → List ℕ → ℕ → List ℕ
used_at assigned kinds slots i = cond (is_use (get_or kinds i 0)) (used_by assigned (get_or slots i 0)) []

-- what unit j uses
abbrev pub used_by_unit : List (List ℕ) → List ℕ → List ℕ → List ℕ → ℕ → List ℕ
used_by_unit assigned bounds kinds slots j = in_statement bounds (used_at assigned kinds slots) j

-- the table of uses: what all units of the order use, one after the other, and where each begins
unfoldable pub used_in : List (List ℕ) → List ℕ → List ℕ → List ℕ → List ℕ → List ℕ
used_in assigned bounds kinds slots [] = []
used_in assigned bounds kinds slots (j ∷ ordered) =
    used_by_unit assigned bounds kinds slots j ++ used_in assigned bounds kinds slots ordered

unfoldable pub starts_from : ℕ → List (List ℕ) → List ℕ → List ℕ → List ℕ → List ℕ → List ℕ
starts_from o assigned bounds kinds slots [] = o ∷ []
starts_from o assigned bounds kinds slots (j ∷ ordered) =
    o ∷ starts_from (o + length (used_by_unit assigned bounds kinds slots j)) assigned bounds kinds slots ordered

-- ---- 24: unit r is not among those placed
abbrev pub loop_at : List ℕ → List ℕ → List ℕ → ℕ → List Fault
loop_at placed ordered lines r = fault_if (not (has r placed)) (get_or lines (get_or ordered r 0) 0) 24

unfoldable pub loops : List ℕ → List ℕ → List ℕ → List Fault
loops placed ordered lines = gather (loop_at placed ordered lines) (length ordered) 0
