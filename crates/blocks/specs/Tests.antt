-- Tests of lists, and a fault that stands if a test holds.
use Rattle.std.specs.Prelude.{ℕ, Bool, true, false, ◌&&◌, ◌||◌, List, [], ◌∷◌, ◌++◌}
use Rattle.laws.specs.Counts.{has}
use Rattle.sheet.specs.Sheet.{Fault, fault_at_first}

-- the fault, if the test holds; its place is the statement's first byte
abbrev pub fault_if : Bool → ℕ → ℕ → List Fault
fault_if true l c = fault_at_first l c ∷ []
fault_if false l c = []

-- the one list, or the other if that is empty
abbrev pub or_else : List Fault → List Fault → List Fault
or_else [] g = g
or_else (f ∷ fs) g = f ∷ fs

-- some key of the list stands among those seen or earlier in the list
unfoldable pub again : List ℕ → List ℕ → Bool
again seen [] = false
again seen (k ∷ ks) = has k seen || again (seen ++ (k ∷ [])) ks

-- each of the first list stands in the second
unfoldable pub within : List ℕ → List ℕ → Bool
within [] l = true
within (k ∷ ks) l = has k l && within ks l
