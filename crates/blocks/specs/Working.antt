-- What the passes of the code keep and leave: the faults that are written, the mates of headers and ends, and the
-- arrays of the units.
use Rattle.std.specs.Prelude.{ℕ, zero, suc, max, ◌+◌, ◌*◌, ◌≤◌, ◌<◌, ◌≡◌, Bool, true, false, ◌||◌, List, [], ◌∷◌, eqb}
use Rattle.std.specs.Prelude.{ltb, length, get_or, set, replicate, Option, Some, None}
use Rattle.std.proofs.lemmas.List.Edits.{sets}
use Rattle.limits.specs.Limits.{most_statements, text_bytes, fault_bytes}
use Rattle.laws.specs.Places.{gather, only_if}
use Rattle.laws.specs.Put.{Put}
use Rattle.drafts.specs.Places.{begins, ends}
use Rattle.sheet.specs.Sheet.{Fault, fault_list}
use Rattle.blocks.specs.declared.units.Units.{Units}
use Rattle.blocks.specs.Tests.{fault_if}
use Rattle.blocks.specs.Pairing.{Bracket, opens, shuts, neither, Pair, pairs_from, pairs}
use Rattle.blocks.specs.Places.{bracket_at, brackets_in, starts_in, firsts_in, unit_lines_in, unit_bounds_in}

-- ---- the faults are written behind the c that stand there, and there are r now
pub record Reported (fs : List Fault) (c r : ℕ) (list list' : List ℕ) : Type 0 where
  pub behind : r ≡ c + length fs
  pub written : list' ≡ sets list (fault_bytes * c) (fault_list fs)

-- ---- a sheet that fits: the statements follow each other from draft 0 to the last, and there is one bound more
pub record SheetFollows (lines bounds kinds : List ℕ) : Type 0 where
  pub few : length lines ≤ most_statements
  pub small : length kinds ≤ text_bytes
  pub rise : (j : ℕ) → j < length lines → begins bounds j ≤ ends bounds j
  pub first : begins bounds 0 ≡ 0
  pub ended : begins bounds (length lines) ≡ length kinds
  pub one_more : length bounds ≡ length lines + 1

-- ---- statement j stands in the arrays: both its bounds do, and it ends no later than the drafts
pub record Stands (bounds kinds : List ℕ) (j : ℕ) : Type 0 where
  pub bounded : j + 1 < length bounds
  pub inside : ends bounds j ≤ length kinds

-- the first n statements do
abbrev pub AllStand : ℕ → List ℕ → List ℕ → Type 0
AllStand n bounds kinds = (j : ℕ) → j < n → Stands bounds kinds j

-- ---- statement j is a header or an end
abbrev pub is_bracket : Bracket → Bool
is_bracket opens = true
is_bracket shuts = true
is_bracket neither = false

abbrev pub bracketed : List ℕ → List ℕ → ℕ → Bool
bracketed bounds kinds j = is_bracket (bracket_at bounds kinds j)

-- ---- mates: at a paired header's place one more than its end's, at a paired end's one more than its header's

-- the mate that the code has at a place, if it has one, as such a number
abbrev pub mate_in : Option ℕ → ℕ
mate_in None = 0
mate_in (Some place) = place + 1

-- a pair noted
abbrev pub mate_noted : Pair → List ℕ → List ℕ
mate_noted p mates = set (set mates p.head (p.tail + 1)) p.tail (p.head + 1)

-- all of them, one after the other
unfoldable pub mates_noted : List Pair → List ℕ → List ℕ
mates_noted [] mates = mates
mates_noted (p ∷ ps) mates = mates_noted ps (mate_noted p mates)

-- those of n statements
abbrev pub mates_in : ℕ → List ℕ → List ℕ → List ℕ
mates_in n bounds kinds = mates_noted (pairs (brackets_in n bounds kinds)) (replicate most_statements 0)

-- ---- the headers that have no end yet, the nearest first: a stack of so many numbers
unfoldable pub stacked : List ℕ → ℕ → List ℕ
stacked stack zero = []
stacked stack (suc d) = get_or stack d 0 ∷ stacked stack d

-- it has room for all statements, and those on it stand before statement j
pub record Stack (stack : List ℕ) (depth j : ℕ) : Type 0 where
  pub long : length stack ≡ most_statements
  pub deep : depth ≤ j
  pub low : (d : ℕ) → d < depth → get_or stack d 0 < j

-- statement j with bracket b is taken: what is noted with all behind it is what is noted from there on
pub record Paired (b : Bracket) (j depth r : ℕ) (stack stack' mates mates' : List ℕ) : Type 0 where
  pub sound : Stack stack' r (j + 1)
  pub same : (bs : List Bracket) → mates_noted (pairs_from (stacked stack depth) j (b ∷ bs)) mates
      ≡ mates_noted (pairs_from (stacked stack' r) (j + 1) bs) mates'

-- ---- the largest of the first j mates
unfoldable pub furthest : List ℕ → ℕ → ℕ
furthest mates zero = 0
furthest mates (suc j) = max (furthest mates j) (get_or mates j 0)

-- 25 by the mates: no mate; or, at a header, one above has its end behind it. m is the mate at place j, f the furthest
-- before it
abbrev pub unmated : Bracket → ℕ → ℕ → ℕ → Bool
unmated opens j m f = eqb m 0 || ltb (j + 1) f
unmated shuts j m f = eqb m 0
unmated neither j m f = false

abbrev pub unmated_at : List ℕ → List ℕ → List ℕ → List ℕ → ℕ → List Fault
unmated_at lines bounds kinds mates j =
    fault_if (unmated (bracket_at bounds kinds j) j (get_or mates j 0) (furthest mates j)) (get_or lines j 0) 25

abbrev pub unmated_in : List ℕ → List ℕ → List ℕ → List ℕ → List Fault
unmated_in lines bounds kinds mates = gather (unmated_at lines bounds kinds mates) (length lines) 0

-- ---- a unit is written behind c others, if the test holds: its line, its bound and its first statement
pub record UnitPut (b : Bool) (line bound first c r : ℕ) (ulines ulines' ubounds ubounds' firsts firsts' : List ℕ)
    : Type 0 where
  pub line_put : Put (only_if b line) c r ulines ulines'
  pub bound_put : Put (only_if b bound) c r ubounds ubounds'
  pub first_put : Put (only_if b first) c r firsts firsts'

-- the units are written to the front of three arrays; r is how many there are
pub record Listed (lines bounds kinds : List ℕ) (r : ℕ) (ulines ulines' ubounds ubounds' firsts firsts' : List ℕ)
    : Type 0 where
  pub count : r ≡ length (starts_in (length lines) bounds kinds)
  pub lines_put : ulines' ≡ sets ulines 0 (unit_lines_in lines bounds kinds)
  pub bounds_put : ubounds' ≡ sets ubounds 0 (unit_bounds_in (length lines) bounds kinds)
  pub firsts_put : firsts' ≡ sets firsts 0 (firsts_in (length lines) bounds kinds)

-- ---- the arrays that the code holds together are those that were lent
pub record SameLent (units units' : Units) : Type 0 where
  pub lines_lent : units'.lines.ghost_name ≡ units.lines.ghost_name
  pub bounds_lent : units'.bounds.ghost_name ≡ units.bounds.ghost_name
  pub firsts_lent : units'.firsts.ghost_name ≡ units.firsts.ghost_name
