-- The bytes of a record: kind, 0, operand (two bytes, low first), first line of the statement (four, low first),
-- f64 bits (eight, low first).
use Rattle.std.specs.Prelude.{ℕ, zero, suc, ◌+◌, ◌*◌, ◌/◌, List, [], ◌∷◌, ◌++◌, map, length, take, drop, get_or}
use Rattle.limits.specs.Limits.{slots, record_bytes}
use Rattle.laws.specs.Lists.{concat_map}
use Rattle.bits.specs.Low.{low_bytes, low_word}
use Rattle.records.specs.declared.Instr.{Instr}
use Rattle.records.specs.Fields.{kind_of, operand_of, bits_of, instr_within}

-- a record: the first line of its statement, and its instruction
pub record Rec : Type 0 where
  pub line : ℕ
  pub instr : Instr

abbrev pub rec : ℕ → Instr → Rec
rec l x = record { line = l; instr = x }

-- a record with the line that g gives for its own
abbrev pub renumber_rec : (ℕ → ℕ) → Rec → Rec
renumber_rec g r = rec (g r.line) r.instr

-- ---- writing

unfoldable pub rec_bytes : Rec → List ℕ
rec_bytes r =
    kind_of r.instr ∷ 0
    ∷ (low_bytes 2 (operand_of r.instr) ++ (low_bytes 4 r.line ++ low_bytes 8 (bits_of r.instr)))

-- no header
unfoldable pub program_bytes : List Rec → List ℕ
program_bytes rs = concat_map rec_bytes rs

abbrev pub instrs : List Rec → List Instr
instrs rs = map (λ (r : Rec). r.instr) rs

-- ---- reading

-- n bytes from place o on, as a number
abbrev pub field : List ℕ → ℕ → ℕ → ℕ
field p o n = low_word (take n (drop o p))

-- with n slots, the instruction of the record that begins at place o; the line field is free
unfoldable pub decode_at_within : ℕ → List ℕ → ℕ → Instr
decode_at_within n p o = instr_within n (get_or p o 0) (get_or p (o + 1) 0) (field p (o + 2) 2) (field p (o + 8) 8)

-- k records from record i on
unfoldable pub decode_from_within : ℕ → List ℕ → ℕ → ℕ → List Instr
decode_from_within n p i zero = []
decode_from_within n p i (suc k) = decode_at_within n p (i * record_bytes) ∷ decode_from_within n p (suc i) k

-- all whole records of a program
unfoldable pub decoded_within : ℕ → List ℕ → List Instr
decoded_within n p = decode_from_within n p 0 (length p / record_bytes)

-- with the slots that there are
abbrev pub decode_at : List ℕ → ℕ → Instr
decode_at p o = decode_at_within slots p o

abbrev pub decode_from : List ℕ → ℕ → ℕ → List Instr
decode_from p i k = decode_from_within slots p i k

abbrev pub decoded : List ℕ → List Instr
decoded p = decoded_within slots p
