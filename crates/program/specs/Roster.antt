-- The roster of a text, which goes beyond the paper: for each definition, in the order of their slots, an entry that
-- names it.
use Rattle.std.specs.Prelude.{ℕ, suc, List, [], ◌∷◌, ◌++◌, map}
use Rattle.bits.specs.Low.{low_bytes}
use Rattle.model.specs.Definitions.{What, constant, assigned, hidden, integral, Def}

-- ---- what a name is, one byte: a constant, a state, assigned, or set inside a block and no output

abbrev pub what_constant : ℕ
what_constant = 1

abbrev pub what_state : ℕ
what_state = 2

abbrev pub what_assigned : ℕ
what_assigned = 3

abbrev pub what_hidden : ℕ
what_hidden = 4

abbrev pub what_byte : What → ℕ
what_byte (constant x) = what_constant
what_byte assigned = what_assigned
what_byte hidden = what_hidden
what_byte (integral i) = what_state

-- ---- what an entry says of a name besides its slot: the name's key, what it is, and the first line of the statement
-- that defines it
pub record Entry : Type 0 where
  pub key : ℕ
  pub what : ℕ
  pub line : ℕ

abbrev pub entry : ℕ → ℕ → ℕ → Entry
entry k w l = record { key = k; what = w; line = l }

abbrev pub entry_for : Def → Entry
entry_for d = entry d.key (what_byte d.what) d.line

-- its bytes with a slot: the name's, filled up with zeros to eight (law `spelled_text` of crate meaning); what it is;
-- 0; the slot, two, low first; the line, four, low first
abbrev pub entry_bytes : ℕ → Entry → List ℕ
entry_bytes s e = low_bytes 8 e.key ++ (e.what ∷ 0 ∷ (low_bytes 2 s ++ low_bytes 4 e.line))

-- those of entries whose slots are s, s + 1, ..
unfoldable pub entries_from : ℕ → List Entry → List ℕ
entries_from s [] = []
entries_from s (e ∷ es) = entry_bytes s e ++ entries_from (suc s) es

-- entry i, from the front, is slot i + 1
unfoldable pub roster : List Def → List ℕ
roster ds = entries_from 1 (map entry_for ds)
