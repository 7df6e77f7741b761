-- A block is a function: what it leaves in its names depends on its inputs, the constants and states that it names, and
-- TIME alone.
use Rattle.std.specs.Prelude.{ℕ, ◌≡◌, List, map, length, get_or, Float}
use Rattle.std.specs.Float.{nan}
use Rattle.laws.specs.Counts.{◌∈◌}
use Rattle.laws.specs.Lists.{concat_map}
use Rattle.drafts.specs.Tree.{names}
use Rattle.blocks.specs.Units.{Inner}
use Rattle.meaning.specs.Statements.{carried}

-- the names that the expressions of a block have
abbrev pub names_inside : List Inner → List ℕ
names_inside ns = concat_map (λ (n : Inner). names n.tree) ns

-- two lists of values are as long as one another and agree in TIME, in the inputs, and in the constants and states (the
-- names `free`) that the block names
pub record SameFed (slot : ℕ → ℕ) (free is : List ℕ) (ns : List Inner) (v w : List Float) : Type 0 where
  pub long : length v ≡ length w
  pub clock : get_or v 0 nan ≡ get_or w 0 nan
  pub inputs : (k : ℕ) → k ∈ is → get_or v (slot k) nan ≡ get_or w (slot k) nan
  pub known : (k : ℕ) → k ∈ free → k ∈ names_inside ns → get_or v (slot k) nan ≡ get_or w (slot k) nan

-- then its assignments, carried out one after the other, leave the same in each of its names
abbrev pub BlockFunction : (ℕ → ℕ) → List ℕ → List ℕ → List Inner → Type 0
BlockFunction slot free is ns =
    (v w : List Float) → SameFed slot free is ns v w → (k : ℕ) → k ∈ map (λ (n : Inner). n.key) ns
    → get_or (carried slot ns v) (slot k) nan ≡ get_or (carried slot ns w) (slot k) nan
