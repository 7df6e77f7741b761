-- The units of a text's statements: each outside a block is a unit of one, a block is one with all that stands inside.
use Rattle.std.specs.Prelude.{ℕ, List, [], ◌∷◌, ◌++◌, map}
use Rattle.laws.specs.Lists.{concat_map}
use Rattle.drafts.specs.Tree.{Tree, Constant, Says, constants as constants_said, assignment as assignment_said}
use Rattle.drafts.specs.Tree.{state as state_said, header, ending}
use Rattle.sheet.specs.Sheet.{Numbered}
use Rattle.blocks.specs.Units.{constants, assignment, state, Inner, single, block, TextUnit, text_unit}
use Rattle.blocks.specs.Sound.{sets_for}

-- every setting of a name counts for verdict 6, also one that sets again
abbrev pub settings_by : Says → List ℕ
settings_by (constants_said cs) = map (λ (c : Constant). c.key) cs
settings_by (assignment_said k e) = k ∷ []
settings_by (state_said k i e) = k ∷ []
settings_by (header os is) = []
settings_by ending = []

abbrev pub settings : List Numbered → List ℕ
settings ss = concat_map (λ (s : Numbered). settings_by s.says) ss

-- what has been read: nothing of a block, or a header's number, outputs and inputs, and what stands inside so far
pub data Pending : Type 0 where
  idle : Pending
  partly : ℕ → List ℕ → List ℕ → List Inner → Pending

abbrev pub keys_inside : List Inner → List ℕ
keys_inside ns = map (λ (n : Inner). n.key) ns

-- one assignment more inside
abbrev pub inner_of : List ℕ → List Inner → ℕ → ℕ → Tree → Inner
inner_of os ns l k e = record { line = l; key = k; tree = e; sets = sets_for os (keys_inside ns) k }

-- a statement with number l behind what has been read: the units that it ends, and what has been read then
abbrev pub units_by : Pending → ℕ → Says → List TextUnit
units_by idle l (constants_said cs) = text_unit l (single (constants cs)) ∷ []
units_by idle l (assignment_said k e) = text_unit l (single (assignment k e)) ∷ []
units_by idle l (state_said k i e) = text_unit l (single (state k i e)) ∷ []
units_by idle l (header os is) = []
units_by idle l ending = []
units_by (partly h os is ns) l (constants_said cs) = []
units_by (partly h os is ns) l (assignment_said k e) = []
units_by (partly h os is ns) l (state_said k i e) = []
units_by (partly h os is ns) l (header os' is') = []
units_by (partly h os is ns) l ending = text_unit h (block os is ns l) ∷ []

abbrev pub pending_by : Pending → ℕ → Says → Pending
pending_by b l (constants_said cs) = b
pending_by idle l (assignment_said k e) = idle
pending_by (partly h os is ns) l (assignment_said k e) = partly h os is (ns ++ (inner_of os ns l k e ∷ []))
pending_by b l (state_said k i e) = b
pending_by b l (header os is) = partly l os is []
pending_by b l ending = idle

unfoldable pub units_from : Pending → List Numbered → List TextUnit
units_from b [] = []
units_from b (s ∷ ss) = units_by b s.line s.says ++ units_from (pending_by b s.line s.says) ss

abbrev pub units_of : List Numbered → List TextUnit
units_of ss = units_from idle ss
