-- The bytes of a record give back its instruction, and those of a program its instructions.
use Prim.Native.Nat.{ℕ, suc, ◌+◌, ◌*◌, ◌/◌, ◌^◌, ◌<◌}
use mathlib.Core.Path.{◌≡◌, refl, ap, ◌∙◌}
use mathlib.Core.List.{List, [], ◌∷◌, ◌++◌, append_assoc}
use native.Mathlib.Omega.{arith}
use borrow.Author.Tests.{lt-ltb}
use lib.Dec.{lit<}
use lib.ListN.{length, get_or, take, length-append}
use lib.Seq.{drop-append-add, get_or-append-add, get_or-append_seam}
use lib.Ieee.{binary64}
use lib.Ieee.Bits.{of_bits-to_bits, to_bits-lt}
use Rattle.laws.specs.Every.{Every}
use Rattle.limits.specs.Limits.{slots, record_bytes}
use Rattle.laws.specs.Lists.{concat_map}
use Rattle.bits.specs.Low.{low_bytes, low_word}
use Rattle.bits.proofs.Lows.{word_bytes}
use Rattle.records.specs.declared.Instr.{Instr}
use Rattle.records.specs.declared.Instr.TheVariants.{Constant, Initial, Value, Slot, Add, Sub, Mul, Div}
use Rattle.records.specs.declared.Instr.TheVariants.{Neg, Insw, Limit, Compar, Store, Deriv, StoreAgain, Bad}
use Rattle.records.specs.Shape.{value, slot, Shape, constant, initial, push, fold, store, derivative}
use Rattle.records.specs.Shape.{store_again, bad, shape_of}
use Rattle.records.specs.Fields.{fields_of, kind_of, operand_of, bits_of, by_kind, instr_of, instr_within}
use Rattle.records.specs.Record.{Rec, rec_bytes, program_bytes, instrs, field, decode_at, decode_at_within, decode_from}
use Rattle.records.specs.Record.{decode_from_within, decoded, decoded_within}
use Rattle.records.specs.Proper.{ProperAs, Proper}

-- ---- lengths

-- a record has recordBytes bytes
pub length_record : (r : Rec) → length (rec_bytes r) ≡ record_bytes
unfolding rec_bytes low_bytes
length_record r = refl

-- so many each
pub length_program : (rs : List Rec) → length (program_bytes rs) ≡ record_bytes * length rs
unfolding program_bytes concat_map rec_bytes low_bytes
length_program [] = refl
length_program (r ∷ rs) = omega (arith, length_program rs)

-- ---- one record

-- its fields are the instruction again
fields_back : (x : Instr) → Proper x → instr_of (kind_of x) 0 (operand_of x) (bits_of x) ≡ x
unfolding instr_within by_kind
fields_back (Constant s x) h = rw (lt-ltb s slots h.0, of_bits-to_bits binary64 x h.1)
fields_back (Initial s x) h = rw (lt-ltb s slots h.0, of_bits-to_bits binary64 x h.1)
fields_back (Value x) h = rw (of_bits-to_bits binary64 x h)
fields_back (Slot s) h = rw (lt-ltb s slots h)
fields_back Add h = refl
fields_back Sub h = refl
fields_back Mul h = refl
fields_back Div h = refl
fields_back Neg h = refl
fields_back Insw h = refl
fields_back Limit h = refl
fields_back Compar h = refl
fields_back (Store s) h = rw (lt-ltb s slots h)
fields_back (Deriv s) h = rw (lt-ltb s slots h)
fields_back (StoreAgain s) h = rw (lt-ltb s slots h)
fields_back Bad h = absurd h

-- a slot has at most two bytes
slot_small : (s : Shape) → ProperAs s → (fields_of s).operand < 256 ^ 2
slot_small (constant s x) h = omega (arith, h.0)
slot_small (initial s x) h = omega (arith, h.0)
slot_small (push (value x)) h = lit< tt
slot_small (push (slot s)) h = omega arith
slot_small (fold o) h = lit< tt
slot_small (store s) h = omega arith
slot_small (derivative s) h = omega arith
slot_small (store_again s) h = omega arith
slot_small bad h = absurd h

-- the bits have at most eight
bits_small : (s : Shape) → ProperAs s → (fields_of s).bits < 256 ^ 8
bits_small (constant s x) h = to_bits-lt binary64 x h.1
bits_small (initial s x) h = to_bits-lt binary64 x h.1
bits_small (push (value x)) h = to_bits-lt binary64 x h
bits_small (push (slot s)) h = lit< tt
bits_small (fold o) h = lit< tt
bits_small (store s) h = lit< tt
bits_small (derivative s) h = lit< tt
bits_small (store_again s) h = lit< tt
bits_small bad h = absurd h

-- a record's bytes behind others, and before others
module _ (front : List ℕ) (r : Rec) (back : List ℕ) where
  -- all bytes
  abbrev all : List ℕ
  all = front ++ (rec_bytes r ++ back)

  -- the operand behind two bytes, the bits behind eight
  operand_back : operand_of r.instr < 256 ^ 2 → field all (length front + 2) 2 ≡ operand_of r.instr
  unfolding rec_bytes low_bytes
  operand_back h = ap (λ (l : List ℕ). low_word (take 2 l)) (drop-append-add front (rec_bytes r ++ back) 2)
      ∙ word_bytes 2 (operand_of r.instr) h

  -- the bits behind eight
  bits_back : bits_of r.instr < 256 ^ 8 → field all (length front + 8) 8 ≡ bits_of r.instr
  unfolding rec_bytes low_bytes
  bits_back h = ap (λ (l : List ℕ). low_word (take 8 l)) (drop-append-add front (rec_bytes r ++ back) 8)
      ∙ word_bytes 8 (bits_of r.instr) h

  -- the kind, and byte 1
  kind_back : get_or all (length front) 0 ≡ kind_of r.instr
  unfolding rec_bytes
  kind_back = get_or-append_seam front (kind_of r.instr) _ 0

  -- byte 1 is 0
  one_back : get_or all (length front + 1) 0 ≡ 0
  unfolding rec_bytes
  one_back = get_or-append-add front (rec_bytes r ++ back) 1 0

  -- the instruction
  record_back : Proper r.instr → decode_at all (length front) ≡ r.instr
  unfolding decode_at_within
  record_back h =
      let s = shape_of r.instr in
      rw (kind_back, one_back, operand_back (slot_small s h), bits_back (bits_small s h)) (fields_back r.instr h)

-- ---- programs

-- record by record
from_back : (front : List ℕ) (i : ℕ) (rs : List Rec) → length front ≡ i * record_bytes → Every Proper (instrs rs)
    → decode_from (front ++ program_bytes rs) i (length rs) ≡ instrs rs
unfolding decode_from_within program_bytes concat_map
from_back front i [] e h = refl
from_back front i (r ∷ rs) e h =
    let next : length (front ++ rec_bytes r) ≡ suc i * record_bytes =
    omega (arith, length-append front (rec_bytes r), length_record r) in
    let here = rw e at (record_back front r (program_bytes rs) h.0) in
    let later = rw (append_assoc front (rec_bytes r) (program_bytes rs)) at
    (from_back (front ++ rec_bytes r) (suc i) rs next h.1) in
    rw (here, later)

-- THE PROGRAM is read as it was written
pub program_back : (rs : List Rec) → Every Proper (instrs rs) → decoded (program_bytes rs) ≡ instrs rs
unfolding decoded_within
program_back rs h =
    let e : length (program_bytes rs) / record_bytes ≡ length rs = omega (arith, length_program rs) in
    rw e (from_back [] 0 rs refl h)
