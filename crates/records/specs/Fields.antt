-- The fields of a record: kind, operand and value. Unused fields are 0.
use Rattle.std.specs.Prelude.{ℕ, Bool, cond, ◌&&◌, ◌||◌, List, [], ◌∷◌, eqb, leb, ltb, get_or, Float}
use Rattle.std.specs.Float.{binary64}
use Rattle.std.specs.Float.Ieee.{of_bits, to_bits}
use Rattle.limits.specs.Limits.{slots}
use Rattle.records.specs.declared.Instr.{Instr}
use Rattle.records.specs.declared.Instr.TheVariants.{Constant, Initial, Value, Slot, Add, Sub, Mul, Div}
use Rattle.records.specs.declared.Instr.TheVariants.{Neg, Insw, Limit, Compar, Store, Deriv, StoreAgain, Bad}
use Rattle.records.specs.Shape.{value, slot, Shape, constant, initial, push, fold, store, derivative}
use Rattle.records.specs.Shape.{store_again, bad, listed, shape_of}

-- ---- from an instruction to its fields

-- operand and bits of a record
pub record Fields : Type 0 where
  pub operand : ℕ
  pub bits : ℕ

abbrev fields : ℕ → ℕ → Fields
fields s b = record { operand = s; bits = b }

-- the slot and the bits of the value, each 0 where there is none
abbrev pub fields_of : Shape → Fields
fields_of (constant s x) = fields s (to_bits binary64 x)
fields_of (initial s x) = fields s (to_bits binary64 x)
fields_of (push (value x)) = fields 0 (to_bits binary64 x)
fields_of (push (slot s)) = fields s 0
fields_of (fold o) = fields 0 0
fields_of (store s) = fields s 0
fields_of (derivative s) = fields s 0
fields_of (store_again s) = fields s 0
fields_of bad = fields 0 0

abbrev pub kind_of : Instr → ℕ
kind_of x = (listed x).number

abbrev pub operand_of : Instr → ℕ
operand_of x = (fields_of (shape_of x)).operand

abbrev pub bits_of : Instr → ℕ
bits_of x = (fields_of (shape_of x)).bits

-- ---- from fields to an instruction

-- kinds 1, 2, 4 and 13 to 15 have a slot, kinds 1, 2 and 3 a value
abbrev pub has_slot : ℕ → Bool
has_slot k = (leb 1 k && leb k 2) || (eqb k 4 || (leb 13 k && leb k 15))

abbrev pub has_value : ℕ → Bool
has_value k = leb 1 k && leb k 3

-- the kinds in their order, from 0 on, which is none
abbrev pub kinds : ℕ → Float → List Instr
kinds s x =
    Bad ∷ Constant s x ∷ Initial s x ∷ Value x ∷ Slot s ∷ Add ∷ Sub ∷ Mul ∷ Div ∷ Neg ∷ Insw ∷ Limit ∷ Compar
    ∷ Store s ∷ Deriv s ∷ StoreAgain s ∷ []

-- by kind; no kind but 1 to 15 is known
unfoldable pub by_kind : ℕ → ℕ → Float → Instr
by_kind k s x = get_or (kinds s x) k Bad

-- a field that is not used is 0, and the slot is one of n slots
abbrev pub fields_fine : ℕ → Bool → Bool → ℕ → ℕ → Bool
fields_fine n slotted valued s b = (slotted || eqb s 0) && ((valued || eqb b 0) && ltb s n)

-- and byte 1 is 0
abbrev pub in_order : ℕ → ℕ → ℕ → ℕ → ℕ → Bool
in_order n k z s b = eqb z 0 && fields_fine n (has_slot k) (has_value k) s b

-- with n slots, the instruction of the fields kind, byte 1, operand and bits; every NaN pattern reads as NaN
unfoldable pub instr_within : ℕ → ℕ → ℕ → ℕ → ℕ → Instr
instr_within n k z s b = cond (in_order n k z s b) (by_kind k s (of_bits binary64 b)) Bad

-- with the slots that there are
abbrev pub instr_of : ℕ → ℕ → ℕ → ℕ → Instr
instr_of k z s b = instr_within slots k z s b
