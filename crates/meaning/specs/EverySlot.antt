-- Every slot has its name: what the definitions of a text, which its roster names one by one, are to its program.
use Rattle.std.specs.Prelude.{ℕ, suc, ◌-◌, ◌*◌, ◌≤◌, ◌<◌, ◌≡◌, ◌⊎◌, List, ◌++◌, length, get_or, take, drop, replicate}
use Rattle.limits.specs.Limits.{roster_bytes}
use Rattle.laws.specs.Counts.{count, ◌∈◌}
use Rattle.laws.specs.Every.{Every}
use Rattle.bits.specs.Low.{low_bytes}
use Rattle.tokens.specs.Symbol.{key_of}
use Rattle.tokens.specs.Values.{Name}
use Rattle.drafts.specs.Tree.{Initial}
use Rattle.sheet.specs.Sheet.{said}
use Rattle.sheet.specs.Reader.{sheet_of}
use Rattle.blocks.specs.Members.{settings}
use Rattle.model.specs.Definitions.{What, constant, assigned, hidden, integral, Def, defined, definitions, keys}
use Rattle.model.specs.Text.{text_units}
use Rattle.records.specs.declared.Instr.{Instr}
use Rattle.records.specs.declared.Instr.TheVariants.{Constant, Initial as Start, Value, Slot, Add, Sub, Mul, Div, Neg}
use Rattle.records.specs.declared.Instr.TheVariants.{Insw, Limit, Compar, Store, Deriv, StoreAgain, Bad}
use Rattle.records.specs.Record.{Rec}
use Rattle.program.specs.Roster.{entry_for, entry_bytes}
use Rattle.meaning.specs.Statements.{slot_of}

-- the definition at place i
abbrev pub definition_at : List Def → ℕ → Def
definition_at ds i = get_or ds i (defined 0 0 assigned)

-- ---- what a name is
abbrev pub AState : What → Type 0
AState w = (i : Initial) × (w ≡ integral i)

abbrev pub AStored : What → Type 0
AStored w = (w ≡ assigned) ⊎ (w ≡ hidden)

-- slot s has a definition, the one at place s - 1: it is that of the statement with number l, and its name is so
pub record OwnedBy (ds : List Def) (s l : ℕ) (Is : What → Type 0) : Type 0 where
  pub first : 0 < s
  pub last : s ≤ length ds
  pub line : (definition_at ds (s - 1)).line ≡ l
  pub what : Is (definition_at ds (s - 1)).what

-- a record of kind 1, 2, 13 or 14 with number l belongs to the name of its slot: to a constant with its value, to a
-- state, to a name that is assigned or a block's own, to a state
abbrev pub Belongs : List Def → ℕ → Instr → Type 0
Belongs ds l (Constant s x) = OwnedBy ds s l (λ (w : What). w ≡ constant x)
Belongs ds l (Start s x) = OwnedBy ds s l AState
Belongs ds l (Value x) = Unit {0}
Belongs ds l (Slot s) = Unit {0}
Belongs ds l Add = Unit {0}
Belongs ds l Sub = Unit {0}
Belongs ds l Mul = Unit {0}
Belongs ds l Div = Unit {0}
Belongs ds l Neg = Unit {0}
Belongs ds l Insw = Unit {0}
Belongs ds l Limit = Unit {0}
Belongs ds l Compar = Unit {0}
Belongs ds l (Store s) = OwnedBy ds s l AStored
Belongs ds l (Deriv s) = OwnedBy ds s l AState
Belongs ds l (StoreAgain s) = Unit {0}
Belongs ds l Bad = Unit {0}

-- a key is that of a name, whose bytes, filled up with zeros to eight, are its eight low bytes
pub record Spelled (k : ℕ) : Type 0 where
  pub name : List ℕ
  pub is_name : Name name
  pub key : k ≡ key_of name
  pub filled : low_bytes 8 k ≡ name ++ replicate (8 - length name) 0

-- EVERY SLOT HAS ITS NAME, of a text whose program has the records rs: the definition at place i is that of the name
-- with slot i + 1; each record of kind 1, 2, 13 or 14 belongs to the name of its slot; each name that a statement sets
-- has one definition, and no other has any; and each is spelled out
pub record EverySlot (text : List ℕ) (rs : List Rec) : Type 0 where
  pub slots : let us = text_units text in
      (i : ℕ) → i < length (definitions us) → slot_of us (definition_at (definitions us) i).key ≡ suc i
  pub belongs : Every (λ (r : Rec). Belongs (definitions (text_units text)) r.line r.instr) rs
  pub once : (k : ℕ) → k ∈ settings (said (sheet_of text)) → count k (keys (definitions (text_units text))) ≡ 1
  pub no_other : (k : ℕ) → k ∈ keys (definitions (text_units text)) → k ∈ settings (said (sheet_of text))
  pub spelled : Every (λ (d : Def). Spelled d.key) (definitions (text_units text))

-- as a caller finds it: the first k entries of the lent bytes are those of the text's definitions, in their order, the
-- first with slot 1
pub record RosterOf (text : List ℕ) (k : ℕ) (lent : List ℕ) : Type 0 where
  pub counted : k ≡ length (definitions (text_units text))
  pub entries : (i : ℕ) → i < k
      → take roster_bytes (drop (roster_bytes * i) lent)
      ≡ entry_bytes (suc i) (entry_for (definition_at (definitions (text_units text)) i))
