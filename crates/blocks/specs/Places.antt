-- Brackets, the faults 25 and the beginnings of units by place, over the arrays of a sheet: kinds are its drafts',
-- lines and bounds those of its statements. Every read past an end gives 0, so that each of these says something of
-- every array.
use Rattle.std.specs.Prelude.{ℕ, suc, Bool, true, false, cond, List, [], ◌∷◌, ◌++◌, map, eqb, ltb, length, get_or}
use Rattle.laws.specs.Places.{gather, only_if}
use Rattle.drafts.specs.Kinds.{kind_number, kind_output, kind_ending, defines}
use Rattle.drafts.specs.Places.{begins, ends, first_kind}
use Rattle.sheet.specs.Sheet.{Fault}
use Rattle.blocks.specs.Tests.{fault_if}
use Rattle.blocks.specs.Pairing.{Bracket, opens, shuts, neither, pairs, unpaired}

-- ---- definitions: the places of the drafts that define a name
unfoldable pub defining_in : List ℕ → List ℕ
defining_in kinds = gather (λ i. only_if (defines (get_or kinds i 0)) i) (length kinds) 0

-- ---- brackets

-- the kind of a statement's first draft, that of a number where it has none
abbrev pub leading_kind : List ℕ → List ℕ → ℕ → ℕ
leading_kind bounds kinds j = cond (ltb (begins bounds j) (ends bounds j)) (first_kind bounds kinds j) kind_number

-- an output begins a header, an end is a draft of its own
abbrev pub bracket_kind : ℕ → Bracket
bracket_kind k = cond (eqb k kind_output) opens (cond (eqb k kind_ending) shuts neither)

abbrev pub bracket_at : List ℕ → List ℕ → ℕ → Bracket
bracket_at bounds kinds j = bracket_kind (leading_kind bounds kinds j)

-- those of k statements from statement i on, and of the first n
abbrev pub brackets_from : List ℕ → List ℕ → ℕ → ℕ → List Bracket
brackets_from bounds kinds k i = gather (λ j. bracket_at bounds kinds j ∷ []) k i

abbrev pub brackets_in : ℕ → List ℕ → List ℕ → List Bracket
brackets_in n bounds kinds = brackets_from bounds kinds n 0

-- ---- 25 at statement j
abbrev pub fault25_at : List ℕ → List ℕ → List ℕ → ℕ → List Fault
fault25_at lines bounds kinds j =
    fault_if (unpaired (pairs (brackets_in (length lines) bounds kinds)) j (bracket_at bounds kinds j))
    (get_or lines j 0) 25

unfoldable pub faults25_in : List ℕ → List ℕ → List ℕ → List Fault
faults25_in lines bounds kinds = gather (fault25_at lines bounds kinds) (length lines) 0

-- ---- units

-- a statement with this bracket begins a unit, where the test says whether it stands inside a block; and whether the
-- next one stands inside
abbrev pub starts_unit : Bool → Bracket → Bool
starts_unit inside opens = true
starts_unit inside shuts = false
starts_unit true neither = false
starts_unit false neither = true

abbrev pub inside_next : Bool → Bracket → Bool
inside_next inside opens = true
inside_next inside shuts = false
inside_next inside neither = inside

-- the numbers of the statements that begin a unit; the first has number i
unfoldable pub unit_starts : Bool → ℕ → List Bracket → List ℕ
unit_starts inside i [] = []
unit_starts inside i (b ∷ bs) = only_if (starts_unit inside b) i ++ unit_starts (inside_next inside b) (suc i) bs

-- those of n statements, and behind them n
abbrev pub starts_in : ℕ → List ℕ → List ℕ → List ℕ
starts_in n bounds kinds = unit_starts false 0 (brackets_in n bounds kinds)

abbrev pub firsts_in : ℕ → List ℕ → List ℕ → List ℕ
firsts_in n bounds kinds = starts_in n bounds kinds ++ (n ∷ [])

-- the lines of the units; where their drafts begin, and where the last one's end
abbrev pub unit_lines_in : List ℕ → List ℕ → List ℕ → List ℕ
unit_lines_in lines bounds kinds = map (λ (j : ℕ). get_or lines j 0) (starts_in (length lines) bounds kinds)

abbrev pub unit_bounds_in : ℕ → List ℕ → List ℕ → List ℕ
unit_bounds_in n bounds kinds = map (λ (j : ℕ). get_or bounds j 0) (firsts_in n bounds kinds)
