-- Orders of a text's units: where there is none, which are named, and the first. us are a text's units, and n is the
-- count of those that are ordered, of which i is one.
use Rattle.std.specs.Prelude.{ℕ, ◌≡◌, ◌↔◌, List, map}
use Rattle.laws.specs.Counts.{◌∈◌}
use Rattle.laws.specs.Rising.{Rising}
use Rattle.sheet.specs.Sheet.{Fault, fault_at_first}
use Rattle.order.specs.Order.{◌≼◌, Unsortable}
use Rattle.blocks.specs.Units.{TextUnit}
use Rattle.model.specs.Definitions.{unit_count}
use Rattle.model.specs.Faults.{uses_in, GoodOrder}
use Rattle.model.specs.Text.{line_at}

-- no order of the units has every value set before use
abbrev pub NoOrder : List TextUnit → Type 0
NoOrder us = (q : List ℕ) → GoodOrder us q → ⊥

-- a fault 24 at unit i, of a block at its header
abbrev pub loop_fault : List TextUnit → ℕ → Fault
loop_fault us i = fault_at_first (line_at us i) 24

-- the faults are a 24 at each unit from which a chain of n + 1 starts, and at no other, in text order and each
-- once
pub record NamesLoops (us : List TextUnit) (fs : List Fault) : Type 0 where
  pub which : List ℕ
  pub rising : Rising 0 which
  pub chains : (i : ℕ) → (i ∈ which) ↔ Unsortable (unit_count us) (uses_in us) i
  pub faults : fs ≡ map (loop_fault us) which

-- an order in which every value is set before use, whose list of first lines is first of all such in dictionary order
pub record FirstOrder (us : List TextUnit) (q : List ℕ) : Type 0 where
  pub good : GoodOrder us q
  pub first : (r : List ℕ) → GoodOrder us r → map (line_at us) q ≼ map (line_at us) r
