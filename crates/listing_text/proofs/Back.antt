-- Faults read back from the bytes of a fault list.
use Prim.Native.Nat.{ℕ, ◌+◌, ◌*◌, ◌^◌, ◌≤◌, ◌<◌}
use mathlib.Core.Path.{◌≡◌, refl, sym, ap, ◌∙◌}
use mathlib.Core.List.{List, [], ◌∷◌, ◌++◌, append_assoc}
use native.Mathlib.Nat.{suc-mul}
use native.Mathlib.Omega.{arith}
use lib.ListN.{length, drop, length-append}
use lib.Seq.{sets, sets-eq, take_at, drop_at, drop-drop}
use Rattle.laws.specs.Every.{Every}
use Rattle.laws.proofs.Every.{every_inside}
use Rattle.limits.specs.Limits.{fault_bytes}
use Rattle.laws.specs.Lists.{concat_map}
use Rattle.laws.specs.Places.{gather}
use Rattle.laws.proofs.Along.{gather_over}
use Rattle.laws.proofs.Lists.{concat_append}
use Rattle.bits.specs.Low.{low_bytes, low_word}
use Rattle.bits.proofs.Lows.{length_low, word_bytes}
use Rattle.records.specs.Record.{field}
use Rattle.sheet.specs.Sheet.{Fault, fault_entry, fault_list}
use Rattle.listing_text.specs.Listing.{fault_line4}
use Rattle.listing_text.specs.Written.{fault_at}
use Rattle.model.proofs.NumbersBelow.{FaultBelow}

-- ---- fields of bytes that are known from a place on

-- what stands further on
further : (p x y : List ℕ) (o k : ℕ) → drop o p ≡ x ++ y → length x ≡ k → drop (o + k) p ≡ y
further p x y o k e h = sym (drop-drop k o p) ∙ ap (drop k) e ∙ drop_at x y k h

-- a number of n bytes
number_back : (p y : List ℕ) (o n v : ℕ) → drop o p ≡ low_bytes n v ++ y → v < 256 ^ n → field p o n ≡ v
number_back p y o n v e h = rw (e, take_at (low_bytes n v) y n (length_low n v)) (word_bytes n v h)

-- one byte
byte_back : (p y : List ℕ) (o b : ℕ) → drop o p ≡ b ∷ y → field p o 1 ≡ b
unfolding low_word
byte_back p y o b e = rw e (omega arith)

-- ---- rows of w bytes
module _ {A : Type 0} (f : A → List ℕ) (w : ℕ) (even : (a : A) → length (f a) ≡ w) where
  -- there are w for each
  length_rows : (l : List A) → length (concat_map f l) ≡ length l * w
  unfolding concat_map
  length_rows [] = omega arith
  length_rows (a ∷ l) = rw suc-mul (omega (arith, length-append (f a) (concat_map f l), even a, length_rows l))

  -- what stands from the row of s on
  row_at : (a : List A) (s : A) (b : List A) (rest : List ℕ)
      → drop (length a * w) (concat_map f (a ++ s ∷ b) ++ rest) ≡ f s ++ (concat_map f b ++ rest)
  unfolding concat_map
  row_at a s b rest =
      rw (concat_append f a (s ∷ b), append_assoc (concat_map f a), append_assoc (f s))
      (drop_at (concat_map f a) (f s ++ (concat_map f b ++ rest)) (length a * w) (length_rows a))

-- rows that fit are written at the front, and something stands behind them
pub front : (l vs : List ℕ) → length vs ≤ length l → sets l 0 vs ≡ vs ++ drop (0 + length vs) l
front l vs h = sets-eq vs l 0 (omega arith)

-- ---- faults

-- the bytes of a fault
length_entry : (f : Fault) → length (fault_entry f) ≡ fault_bytes
unfolding fault_entry
length_entry f = simp (length-append, length_low)

-- its four numbers are read back
fault_back : (list rest : List ℕ) (i : ℕ) (f : Fault) → drop (i * fault_bytes) list ≡ fault_entry f ++ rest
    → FaultBelow 65536 f
    → fault_at list i ≡ fault_line4 f
unfolding fault_entry
fault_back list rest i f e h =
    let o = i * fault_bytes in
    let first = low_bytes 2 f.line in
    let third = low_bytes 2 f.place in
    let last = low_bytes 2 f.column in
    let behind_code = third ++ (last ++ rest) in
    let at_line : drop o list ≡ first ++ (f.code ∷ 0 ∷ behind_code) = e ∙ simp append_assoc in
    let at_code : drop (o + 2) list ≡ f.code ∷ 0 ∷ behind_code =
    further list first (f.code ∷ 0 ∷ behind_code) o 2 at_line (length_low 2 f.line) in
    let four : o + 2 + 2 ≡ o + 4 = omega arith in
    let at_place : drop (o + 4) list ≡ behind_code =
    rw four at (further list (f.code ∷ 0 ∷ []) behind_code (o + 2) 2 at_code refl) in
    let six : o + 4 + 2 ≡ o + 6 = omega arith in
    let at_column : drop (o + 6) list ≡ last ++ rest =
    rw six at (further list third (last ++ rest) (o + 4) 2 at_place (length_low 2 f.place)) in
    rw (
      number_back list (f.code ∷ 0 ∷ behind_code) o 2 f.line at_line h.0,
      byte_back list (0 ∷ behind_code) (o + 2) f.code at_code,
      number_back list (last ++ rest) (o + 4) 2 f.place at_place h.1,
      number_back list rest (o + 6) 2 f.column at_column h.2,
    )
    refl

-- .. of each fault of a list
pub faults_back : (fs : List Fault) (rest : List ℕ) → Every (FaultBelow 65536) fs
    → gather (fault_at (fault_list fs ++ rest)) (length fs) 0 ≡ concat_map fault_line4 fs
unfolding fault_list
faults_back fs rest p =
    gather_over (fault_at (fault_list fs ++ rest)) fault_line4 fs
    (λ a f b e. fault_back (fault_list fs ++ rest) (fault_list b ++ rest) (length a) f
    (rw e (row_at fault_entry fault_bytes length_entry a f b rest)) (every_inside (FaultBelow 65536) a f b (rw e at p)))
