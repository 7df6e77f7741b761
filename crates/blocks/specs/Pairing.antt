-- Headers and ends, in pairs. 25: an unpaired header or end, or a header inside a pair.
use Rattle.std.specs.Prelude.{ℕ, suc, ◌<◌, Bool, false, not, ◌&&◌, ◌||◌, List, [], ◌∷◌, ◌++◌, map, ltb, length}
use Rattle.laws.specs.Counts.{has}
use Rattle.laws.specs.Every.{Every}
use Rattle.drafts.specs.Tree.{Says, constants, assignment, state, header, ending}
use Rattle.sheet.specs.Sheet.{Numbered, Fault}
use Rattle.blocks.specs.Tests.{fault_if}

-- what a statement is to a block: its header, its end, or neither
pub data Bracket : Type 0 where
  opens shuts neither : Bracket

abbrev pub bracket_of : Says → Bracket
bracket_of (constants cs) = neither
bracket_of (assignment k e) = neither
bracket_of (state k i e) = neither
bracket_of (header os is) = opens
bracket_of ending = shuts

abbrev pub brackets : List Numbered → List Bracket
brackets ss = map (λ (s : Numbered). bracket_of s.says) ss

-- each header names at least one output, as the grammar has it
abbrev pub HeadedBy : Says → Type 0
HeadedBy (constants cs) = Unit {0}
HeadedBy (assignment k e) = Unit {0}
HeadedBy (state k i e) = Unit {0}
HeadedBy (header os is) = 0 < length os
HeadedBy ending = Unit {0}

abbrev pub Headed : List Numbered → Type 0
Headed ss = Every (λ (s : Numbered). HeadedBy s.says) ss

-- a pair: the places of its header and of its end among the statements, from 0
pub record Pair : Type 0 where
  pub head : ℕ
  pub tail : ℕ

abbrev pub pair_of : ℕ → ℕ → Pair
pair_of h e = record { head = h; tail = e }

-- each end, from the top, pairs with the nearest unpaired header above. `left` are the places of the unpaired headers
-- above, the nearest first; i is the place of the next statement, and `next` says how it goes on behind that
abbrev pub pair_next : Bracket → List ℕ → ℕ → (List ℕ → List Pair) → List Pair
pair_next opens left i next = next (i ∷ left)
pair_next shuts [] i next = next []
pair_next shuts (h ∷ left) i next = pair_of h i ∷ next left
pair_next neither left i next = next left

unfoldable pub pairs_from : List ℕ → ℕ → List Bracket → List Pair
pairs_from left i [] = []
pairs_from left i (b ∷ bs) = pair_next b left i (λ o. pairs_from o (suc i) bs)

abbrev pub pairs : List Bracket → List Pair
pairs bs = pairs_from [] 0 bs

-- the places of the headers that are paired, and of the ends
abbrev pub heads : List Pair → List ℕ
heads ps = map (λ (p : Pair). p.head) ps

abbrev pub tails : List Pair → List ℕ
tails ps = map (λ (p : Pair). p.tail) ps

-- place i stands inside a pair
unfoldable pub nested : ℕ → List Pair → Bool
nested i [] = false
nested i (p ∷ ps) = (ltb p.head i && ltb i p.tail) || nested i ps

-- 25 at place i: an unpaired header or end, or a header inside a pair
abbrev pub unpaired : List Pair → ℕ → Bracket → Bool
unpaired ps i opens = not (has i (heads ps)) || nested i ps
unpaired ps i shuts = not (has i (tails ps))
unpaired ps i neither = false

unfoldable pub faults25_from : List Pair → ℕ → List Numbered → List Fault
faults25_from ps i [] = []
faults25_from ps i (s ∷ ss) = fault_if (unpaired ps i (bracket_of s.says)) s.line 25 ++ faults25_from ps (suc i) ss

abbrev pub faults25 : List Numbered → List Fault
faults25 ss = faults25_from (pairs (brackets ss)) 0 ss
