-- What holds of the blocks of a text without faults 25 and 26, by units.
use Rattle.std.specs.Prelude.{ℕ, ◌≡◌, cond, List, [], ◌∷◌, ◌++◌, map}
use Rattle.laws.specs.Lists.{concat_map}
use Rattle.laws.specs.Counts.{◌∈◌, has}
use Rattle.laws.specs.Every.{Every}
use Rattle.drafts.specs.Tree.{names, Constant}
use Rattle.blocks.specs.Units.{Single, constants, assignment, state, Sets, given, own, anew, Inner, UnitBody}
use Rattle.blocks.specs.Units.{single}
use Rattle.blocks.specs.Units.{block, TextUnit}

-- ---- the constants and the states: they are known without order, inside blocks too

abbrev pub free_by : Single → List ℕ
free_by (constants cs) = map (λ (c : Constant). c.key) cs
free_by (assignment k e) = []
free_by (state k i e) = k ∷ []

abbrev pub free_of : UnitBody → List ℕ
free_of (single x) = free_by x
free_of (block os is ns z) = []

abbrev pub free_names : List TextUnit → List ℕ
free_names us = concat_map (λ (u : TextUnit). free_of u.body) us

-- ---- how a name is set: anew, if it is set above in the block; else given, if it is an output; else the block's own
abbrev pub sets_for : List ℕ → List ℕ → ℕ → Sets
sets_for os above k = cond (has k above) anew (cond (has k os) given own)

-- each statement inside, where `above` are the names set above it: it sets no input, and its expression names inputs,
-- constants, states and names set above
abbrev pub InnerSound : List ℕ → List ℕ → List ℕ → List ℕ → List Inner → Type 0
InnerSound free os is above [] = Unit {0}
InnerSound free os is above (n ∷ ns) =
    (n.sets ≡ sets_for os above n.key)
    × (n.key ∈ is → ⊥)
    × ((k : ℕ) → k ∈ names n.tree → k ∈ (is ++ (free ++ above)))
    × InnerSound free os is (above ++ (n.key ∷ [])) ns

-- and each output is set
pub record BlockSound (free os is : List ℕ) (ns : List Inner) : Type 0 where
  pub inside : InnerSound free os is [] ns
  pub outputs : (k : ℕ) → k ∈ os → k ∈ map (λ (n : Inner). n.key) ns

abbrev pub BodySound : List ℕ → UnitBody → Type 0
BodySound free (single x) = Unit {0}
BodySound free (block os is ns z) = BlockSound free os is ns

-- of all units of a text
abbrev pub UnitsSound : List TextUnit → Type 0
UnitsSound us = Every (λ (u : TextUnit). BodySound (free_names us) u.body) us
