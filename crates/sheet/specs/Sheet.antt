-- The sheet: for each statement its number and what it says, or its fault. It knows no reader.
use Rattle.std.specs.Prelude.{ℕ, ◌+◌, List, [], ◌∷◌, ◌++◌}
use Rattle.laws.specs.Lists.{concat_map}
use Rattle.bits.specs.Low.{low_bytes}
use Rattle.deck.specs.declared.Spot.{Spot}
use Rattle.deck.specs.Reports.{Report}
use Rattle.drafts.specs.Tree.{Says}

-- what reading a statement gives: what it says; or its fault's code, and where it is, by a P
pub data Told (P : Type 0) : Type 0 where
  says : Says → Told P
  faulty : ℕ → P → Told P

abbrev pub Sheet : Type 0
Sheet = List (Report (Told Spot))

-- a statement without fault: its number and what it says
pub record Numbered : Type 0 where
  pub line : ℕ
  pub says : Says

-- a fault of a text: the statement's number, the code, the line of its place, and the column from 1
pub record Fault : Type 0 where
  pub line : ℕ
  pub code : ℕ
  pub place : ℕ
  pub column : ℕ

-- one whose place is the statement's first byte
abbrev pub fault_at_first : ℕ → ℕ → Fault
fault_at_first l c = record { line = l; code = c; place = l; column = 1 }

-- one at a spot of the statement
abbrev pub fault_at_spot : ℕ → ℕ → Spot → Fault
fault_at_spot l c p = record { line = l; code = c; place = l + p.down; column = p.column }

abbrev pub said_by : ℕ → Told Spot → List Numbered
said_by l (says x) = record { line = l; says = x } ∷ []
said_by l (faulty c p) = []

abbrev pub fault_by : ℕ → Told Spot → List Fault
fault_by l (says x) = []
fault_by l (faulty c p) = fault_at_spot l c p ∷ []

-- the statements without fault, and the statement faults, in line order
abbrev pub said : Sheet → List Numbered
said ss = concat_map (λ (r : Report (Told Spot)). said_by r.line r.what) ss

abbrev pub statement_faults : Sheet → List Fault
statement_faults ss = concat_map (λ (r : Report (Told Spot)). fault_by r.line r.what) ss

-- ---- the fault list. A fault is 8 bytes: line (two, low first), code, 0; then the line of its place and the column,
-- two each, low first; in line order

abbrev pub entry_of : Fault → List ℕ
entry_of f = low_bytes 2 f.line ++ (f.code ∷ 0 ∷ (low_bytes 2 f.place ++ low_bytes 2 f.column))

unfoldable pub fault_entry : Fault → List ℕ
fault_entry f = entry_of f

unfoldable pub fault_list : List Fault → List ℕ
fault_list fs = concat_map fault_entry fs
