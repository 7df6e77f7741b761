-- 26: what stands inside a block, and whether its header's outputs are set.
use Rattle.std.specs.Prelude.{ℕ, Bool, false, not, ◌&&◌, ◌||◌, List, [], ◌∷◌, ◌++◌, map}
use Rattle.laws.specs.Lists.{concat_map}
use Rattle.laws.specs.Counts.{has}
use Rattle.drafts.specs.Tree.{names, Constant, Says, constants, assignment, state, header, ending}
use Rattle.sheet.specs.Sheet.{Numbered, Fault}
use Rattle.blocks.specs.Tests.{fault_if, or_else, again, within}
use Rattle.blocks.specs.Pairing.{faults25}

-- ---- the names of a statement

-- the constants and the states: they are known without order, inside blocks too
abbrev pub free_said : Says → List ℕ
free_said (constants cs) = map (λ (c : Constant). c.key) cs
free_said (assignment k e) = []
free_said (state k i e) = k ∷ []
free_said (header os is) = []
free_said ending = []

abbrev pub free_known : List Numbered → List ℕ
free_known ss = concat_map (λ (s : Numbered). free_said s.says) ss

-- the name that an assignment sets
abbrev pub set_by : Says → List ℕ
set_by (constants cs) = []
set_by (assignment k e) = k ∷ []
set_by (state k i e) = []
set_by (header os is) = []
set_by ending = []

-- the names that are set before the next end
abbrev pub set_next : Says → List ℕ → List ℕ
set_next (constants cs) ks = ks
set_next (assignment k e) ks = k ∷ ks
set_next (state k i e) ks = ks
set_next (header os is) ks = ks
set_next ending ks = []

unfoldable pub set_inside : List Numbered → List ℕ
set_inside [] = []
set_inside (s ∷ ss) = set_next s.says (set_inside ss)

-- ---- 26

-- at a header: an output that no assignment inside sets, or an output named twice
abbrev pub head_wrong : List ℕ → List ℕ → Bool
head_wrong os ks = not (within os ks) || again [] os

-- at a statement inside, where `above` are the names set above it in the block: no assignment, or it assigns an input,
-- or
-- its expression names anything but inputs, TIME, constants and states, and names set above
abbrev pub inner_right : List ℕ → List ℕ → List ℕ → Says → Bool
inner_right free is above (constants cs) = false
inner_right free is above (assignment k e) = not (has k is) && within (names e) (is ++ (free ++ above))
inner_right free is above (state k i e) = false
inner_right free is above (header os is') = false
inner_right free is above ending = false

-- where a statement stands: outside, or inside a block with these inputs, below these names
pub data Standing : Type 0 where
  outer : Standing
  enclosed : List ℕ → List ℕ → Standing

abbrev pub inner_fault : List ℕ → Standing → Numbered → List Fault
inner_fault free outer s = []
inner_fault free (enclosed is above) s = fault_if (not (inner_right free is above s.says)) s.line 26

-- the fault of a statement, and where the next one stands; ks are the names set below it before the next end
abbrev pub fault26 : List ℕ → List ℕ → Standing → Numbered → Says → List Fault
fault26 free ks p s (constants cs) = inner_fault free p s
fault26 free ks p s (assignment k e) = inner_fault free p s
fault26 free ks p s (state k i e) = inner_fault free p s
fault26 free ks p s (header os is) = fault_if (head_wrong os ks) s.line 26
fault26 free ks p s ending = []

abbrev pub standing_below : Standing → List ℕ → Standing
standing_below outer ks = outer
standing_below (enclosed is above) ks = enclosed is (above ++ ks)

abbrev pub standing_next : Standing → Says → Standing
standing_next p (constants cs) = p
standing_next p (assignment k e) = standing_below p (k ∷ [])
standing_next p (state k i e) = p
standing_next p (header os is) = enclosed is []
standing_next p ending = outer

unfoldable pub faults26_from : List ℕ → Standing → List Numbered → List Fault
faults26_from free p [] = []
faults26_from free p (s ∷ ss) =
    fault26 free (set_inside ss) p s s.says ++ faults26_from free (standing_next p s.says) ss

abbrev pub faults26 : List Numbered → List Fault
faults26 ss = faults26_from (free_known ss) outer ss

-- 26 is sought only if no 25 stands
unfoldable pub block_faults : List Numbered → List Fault
block_faults ss = or_else (faults25 ss) (faults26 ss)
