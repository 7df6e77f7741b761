-- Bytes low first: the turns of the two loops, and the way there and back.
use Prim.Native.Nat.{ℕ, zero, suc, zero-le, ◌+◌, ◌-◌, ◌*◌, ◌/◌, ◌%◌, ◌^◌, ◌≤◌, ◌<◌, min}
use mathlib.Core.Path.{◌≡◌, refl, sym, ap, ap₂, ◌∙◌}
use mathlib.Core.Logic.{⊎_elim}
use mathlib.Core.List.{List, ◌∷◌, ◌++◌}
use native.Mathlib.Nat.{zero-add, add-zero, sub-zero, suc-add, pow-suc, pow-succ', pow-le-pow_right, lt_of_lt_of_le}
use native.Mathlib.Nat.{div-one, div-lt_iff_lt-mul, div-div-eq-div-mul}
use native.Mathlib.Omega.{arith}
use lib.Dec.{lit<}
use lib.ListN.{length, get_or, set, take, drop, length-take, length-set, drop_of_length-le}
use lib.Seq.{sets, drop-cons, get_or-take}
use Rattle.laws.proofs.Sets.{sets_out, sets_append}
use Rattle.std.specs.Int.{bytes_low_first}
use Rattle.laws.proofs.Tests.{lt_or_ge}
use Rattle.bits.specs.Low.{low_bytes, low_word}

-- ---- reading: `word` is the number of the bytes from place i on, of the first m of s
pub record Reading (s : List ℕ) (m i word : ℕ) : Type 0 where
  pub within : i ≤ min (length s) m
  pub value : word ≡ low_word (drop i (take m s))
  pub small : word < 256 ^ (m - i)

-- at the end of the bytes nothing is read
pub reading_first : (s : List ℕ) (m i : ℕ) → i ≡ min (length s) m → Reading s m i 0
unfolding low_word
reading_first s m i e =
    let h : length (take m s) ≤ i = omega (arith, length-take m s) in
    record {
      within = omega arith;
      value = rw (drop_of_length-le (take m s) h);
      small = lt_of_lt_of_le (lit< tt) (pow-le-pow_right (lit< tt) zero-le);
    }

-- one byte more, below those that are read
pub reading_next : (s : List ℕ) (m i word b : ℕ) → 0 < i → b ≡ get_or s (i - 1) 0 → b < 256 → Reading s m i word
    → Reading s m (i - 1) (b + 256 * word)
unfolding low_word
reading_next s m i word b p e h r =
    let front = take m s in
    let f : suc (i - 1) ≡ i = omega arith in
    let g : m - (i - 1) ≡ suc (m - i) = omega (arith, r.within) in
    let l : i - 1 < length front = omega (arith, length-take m s, r.within) in
    let d : drop (i - 1) front ≡ b ∷ drop i front =
    drop-cons front (i - 1) 0 l
    ∙ ap₂ ◌∷◌ (get_or-take m s (i - 1) 0 (omega (arith, r.within)) ∙ sym e) (ap (λ (k : ℕ). drop k front) f) in
    record {
      within = omega (arith, r.within);
      value = rw (d, ← r.value);
      small = rw (g, pow-suc 256 (m - i)) (omega (arith, r.small));
    }

-- at most eight bytes fit
pub reading_fits : (s : List ℕ) (m i word : ℕ) → m ≤ 8 → 0 < i → Reading s m i word → word < 256 ^ 7
reading_fits s m i word h p r =
    let e : m - i ≤ 7 = omega arith in lt_of_lt_of_le r.small (pow-le-pow_right (lit< tt) e)

-- at the front all are read
pub reading_last : (s : List ℕ) (m i word : ℕ) → i ≤ 0 → Reading s m i word
    → (word ≡ low_word (take m s)) × (word < 256 ^ m)
reading_last s m i word h r =
    let z : i ≡ 0 = omega arith in
    let y : m - i ≡ m = omega arith in
    (r.value ∙ ap (λ (k : ℕ). low_word (drop k (take m s))) z, rw y at r.small)

-- ---- writing: the bytes of `rest` are left to be written from place at + i on
pub record Writing (l₀ l : List ℕ) (at n v rest i : ℕ) : Type 0 where
  pub long : length l ≡ length l₀
  pub left : sets l (at + i) (low_bytes (n - i) rest) ≡ sets l₀ at (low_bytes n v)

-- at the front all are left
pub writing_first : (l : List ℕ) (at n v : ℕ) → Writing l l at n v v 0
writing_first l at n v = record { long = refl; left = simp (add-zero, sub-zero) }

-- one byte more is written
pub writing_next : (l₀ l : List ℕ) (at n v rest i : ℕ) → i < n → Writing l₀ l at n v rest i
    → Writing l₀ (set l (at + i) (rest % 256)) at n v (rest / 256) (i + 1)
unfolding low_bytes
writing_next l₀ l at n v rest i h w =
    let e : n - i ≡ suc (n - (i + 1)) = omega arith in
    let f : suc (at + i) ≡ at + (i + 1) = omega arith in
    record {
      long = length-set l (at + i) (rest % 256) ∙ w.long;
      left =
          ap (λ (k : ℕ). sets (set l (at + i) (rest % 256)) k (low_bytes (n - (i + 1)) (rest / 256))) (sym f)
          ∙ sym (ap (λ (k : ℕ). sets l (at + i) (low_bytes k rest)) e)
          ∙ w.left;
    }

-- all are written, or the others lie behind the end
pub writing_last : (l₀ l : List ℕ) (at n v rest i : ℕ) → min (length l₀ - at) n ≤ i → Writing l₀ l at n v rest i
    → l ≡ sets l₀ at (low_bytes n v)
unfolding low_bytes
writing_last l₀ l at n v rest i h w = ⊎_elim (λ a. behind a ∙ w.left) (λ a. done a ∙ w.left) (lt_or_ge i n)
  where
    behind : i < n → l ≡ sets l (at + i) (low_bytes (n - i) rest)
    behind a = sym (sets_out l (at + i) (low_bytes (n - i) rest) (omega (arith, w.long)))

    done : n ≤ i → l ≡ sets l (at + i) (low_bytes (n - i) rest)
    done a = let z : 0 ≡ n - i = omega arith in ap (λ (k : ℕ). sets l (at + i) (low_bytes k rest)) z

-- ---- there and back
pub length_low : (n v : ℕ) → length (low_bytes n v) ≡ n
unfolding low_bytes
length_low zero v = refl
length_low (suc n) v = ap suc (length_low n (v / 256))

-- the number of the bytes of a number that has at most n of them
pub word_bytes : (n v : ℕ) → v < 256 ^ n → low_word (low_bytes n v) ≡ v
unfolding low_bytes low_word
word_bytes zero v h = omega arith
word_bytes (suc n) v h =
    let q : v / 256 < 256 ^ n = (div-lt_iff_lt-mul (lit< tt)).1 (rw (pow-suc 256 n) at h) in
    rw (word_bytes n (v / 256) q) (omega arith)

-- ---- the machine's bytes
pub eight_bytes : (v : ℕ) → bytes_low_first 0 8 v ≡ low_bytes 8 v
unfolding low_bytes
eight_bytes v = simp div-div-eq-div-mul

-- ---- one number behind another

-- the lowest m bytes and then n of the rest
pub low_append : (m n v : ℕ) → low_bytes (m + n) v ≡ low_bytes m v ++ low_bytes n (v / 256 ^ m)
unfolding low_bytes
low_append zero n v = rw (zero-add, div-one)
low_append (suc m) n v =
    rw (suc-add m n, low_append m n (v / 256), div-div-eq-div-mul v 256 (256 ^ m), ← (pow-succ' 256 m))

-- one behind the other
pub low_both : (l half whole : List ℕ) (at m n v : ℕ) → half ≡ sets l at (low_bytes m v)
    → whole ≡ sets half (at + m) (low_bytes n (v / 256 ^ m))
    → whole ≡ sets l at (low_bytes (m + n) v)
low_both l half whole at m n v p q = q ∙ rw (p, low_append m n v, sets_append l at (low_bytes m v), length_low m v)
