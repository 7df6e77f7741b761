-- The fields of a record as numbers of its bytes.
use Prim.Native.Nat.{ℕ, suc, ◌+◌, ◌*◌, ◌≤◌}
use mathlib.Core.Path.{◌≡◌, ◌∙◌}
use mathlib.Core.List.{List, [], ◌∷◌}
use native.Mathlib.Numerals.{add-one}
use native.Mathlib.Omega.{arith}
use lib.ListN.{length, get_or, take, drop}
use lib.Seq.{drop-cons, drop-drop}
use Rattle.std.specs.Int.{w16, w64, from_le_bytes}
use Rattle.bits.specs.Low.{low_word}
use Rattle.records.specs.Record.{field}

-- bytes 0 and 1, 2 and 3, and 8 to 15
abbrev pub kind_bytes : List ℕ → List ℕ
kind_bytes r = get_or r 0 0 ∷ get_or r 1 0 ∷ []

abbrev pub slot_bytes : List ℕ → List ℕ
slot_bytes r = get_or r 2 0 ∷ get_or r 3 0 ∷ []

abbrev pub value_bytes : List ℕ → List ℕ
value_bytes r =
    get_or r 8 0 ∷ get_or r 9 0 ∷ get_or r 10 0 ∷ get_or r 11 0
    ∷ get_or r 12 0 ∷ get_or r 13 0 ∷ get_or r 14 0 ∷ get_or r 15 0 ∷ []

-- as numbers, of a record r
pub record Numbers (r : List ℕ) : Type 0 where
  pub kind : from_le_bytes w16 (kind_bytes r) ≡ low_word (take 2 r)
  pub slot : from_le_bytes w16 (slot_bytes r) ≡ low_word (take 2 (drop 2 r))
  pub value : from_le_bytes w64 (value_bytes r) ≡ low_word (take 8 (drop 8 r))

numbers : (r : List ℕ) → 16 ≤ length r → Numbers r
unfolding low_word
numbers (a ∷ b ∷ c ∷ d ∷ e ∷ f ∷ g ∷ h ∷ i ∷ j ∷ k ∷ l ∷ m ∷ n ∷ o ∷ p ∷ r) z =
    record { kind = omega arith; slot = omega arith; value = omega arith }
numbers _ z = absurd (omega arith)

-- of a record r that begins at place o of p
module _ (p : List ℕ) (o : ℕ) {r : List ℕ} (e : r ≡ drop o p) (h : 16 ≤ length r) where
  pub kind_read : from_le_bytes w16 (kind_bytes r) ≡ field p o 2
  kind_read = (numbers r h).kind ∙ rw e

  pub slot_read : from_le_bytes w16 (slot_bytes r) ≡ field p (o + 2) 2
  slot_read = (numbers r h).slot ∙ rw (e, drop-drop)

  pub value_read : from_le_bytes w64 (value_bytes r) ≡ field p (o + 8) 8
  value_read = (numbers r h).value ∙ rw (e, drop-drop)

-- two bytes of p from place o on
pub field_two : (p : List ℕ) (o : ℕ) → o + 2 ≤ length p → field p o 2 ≡ get_or p o 0 + 256 * get_or p (o + 1) 0
unfolding low_word
field_two p o h =
    let a : drop o p ≡ get_or p o 0 ∷ drop (o + 1) p = drop-cons p o 0 (omega arith) ∙ rw (add-one o) in
    let b : drop (o + 1) p ≡ get_or p (o + 1) 0 ∷ drop (suc (o + 1)) p = drop-cons p (o + 1) 0 (omega arith) in
    rw (a, b) (omega arith)
