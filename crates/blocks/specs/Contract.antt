-- What the open entries promise.
use Rattle.std.specs.Prelude.{ℕ, ◌+◌, ◌*◌, ◌-◌, ◌^◌, min, ◌≡◌, Bool, List, [], ◌∷◌, length, Option, Some, None}
use Rattle.std.specs.Prelude.{Result, Ok, Err}
use Rattle.std.proofs.lemmas.List.Edits.{sets}
use Rattle.limits.specs.Limits.{fault_bytes}
use Rattle.faults.specs.declared.Fault.{Fault as FaultKind}
use Rattle.faults.specs.Codes.{code_of}
use Rattle.sheet.specs.Sheet.{Fault, fault_at_first, fault_list}
use Rattle.blocks.specs.declared.answer.Refusal.{Refusal}
use Rattle.blocks.specs.declared.answer.Refusal.TheVariants.{ManyDefinitions, Faults, Unfit}
use Rattle.blocks.specs.Grouped.{Grouping, UnitArrays, group_outcome, group_refused, in_turn, grouped}

-- the number, the count of faults and the count of units for each case of the answer
abbrev pub grouping_in : Result ℕ Refusal → Grouping
grouping_in (Ok units) = record { number = 0; count = 0; units = units }
grouping_in (Err ManyDefinitions) = group_refused 6 0
grouping_in (Err (Faults count)) = group_refused 7 count
grouping_in (Err Unfit) = group_refused 9 0

-- `group`: the answer and the final content of all that was lent are what is grouped
abbrev pub Groups : List ℕ → List ℕ → List ℕ → List ℕ → List ℕ → UnitArrays → Result ℕ Refusal → List ℕ → List ℕ
    → UnitArrays → Type 0
Groups lines bounds kinds args faults a g kinds' faults' a' =
    group_outcome (grouping_in g) kinds' faults' a' ≡ grouped lines bounds kinds args faults a

-- ---- what a model stands on

-- the fault at a statement's first byte, if there is one
abbrev pub fault_of : Option FaultKind → ℕ → List Fault
fault_of None line = []
fault_of (Some f) line = fault_at_first line (code_of f) ∷ []

-- `add_fault`: it is written behind the c that stand there, if there is one, and r is how many there are then, as far
-- as a number of 64 bits can say
pub record AddsFault (f : Option FaultKind) (line : ℕ) (list : List ℕ) (c r : ℕ) (list' : List ℕ) : Type 0 where
  pub behind : r ≡ min (c + length (fault_of f line)) (2 ^ 64 - 1)
  pub written : list' ≡ sets list (fault_bytes * c) (fault_list (fault_of f line))

-- `is_in_turn`: whether n statements follow each other from draft 0 to the last of so many
abbrev pub WhetherInTurn : List ℕ → ℕ → ℕ → Bool → Type 0
WhetherInTurn bounds n size r = r ≡ in_turn bounds n size
