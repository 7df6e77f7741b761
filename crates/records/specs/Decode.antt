-- Decoding record n of a program.
use Rattle.std.specs.Prelude.{ℕ, ◌≡◌, ◌+◌, ◌≤◌, ◌*◌, ◌/◌, Bool, cond, List, ltb, length}
use Rattle.std.specs.Float.{binary64}
use Rattle.std.specs.Float.Ieee.{of_bits}
use Rattle.limits.specs.Limits.{slots, record_bytes}
use Rattle.records.specs.declared.Instr.{Instr}
use Rattle.records.specs.declared.Instr.TheVariants.{Bad}
use Rattle.records.specs.declared.Fields.{Fields}
use Rattle.records.specs.Fields.{by_kind, fields_fine}
use Rattle.records.specs.Record.{field, decode_at}

-- the fields of the record that begins at place o
pub record HoldsFields (p : List ℕ) (o : ℕ) (f : Fields) : Type 0 where
  pub whole : o + record_bytes ≤ length p
  pub kind : f.kind ≡ field p o 2
  pub slot : f.slot ≡ field p (o + 2) 2
  pub bits : f.bits ≡ field p (o + 8) 8

-- the instruction of record n; past the last whole record there is none
abbrev pub decoded_at : List ℕ → ℕ → Instr
decoded_at p n = cond (ltb n (length p / record_bytes)) (decode_at p (n * record_bytes)) Bad

-- the same as the kind alone has it, with byte 1 as the kind's high byte; the unused fields are not looked at
abbrev kind_at : List ℕ → ℕ → Instr
kind_at p o = by_kind (field p o 2) (field p (o + 2) 2) (of_bits binary64 (field p (o + 8) 8))

abbrev pub read_at : List ℕ → ℕ → Instr
read_at p n = cond (ltb n (length p / record_bytes)) (kind_at p (n * record_bytes)) Bad

-- the instruction of a kind that uses its slot, or not, and its value, or not
abbrev pub with_fields : Bool → Bool → ℕ → ℕ → ℕ → Instr
with_fields slotted valued k s b = cond (fields_fine slots slotted valued s b) (by_kind k s (of_bits binary64 b)) Bad
