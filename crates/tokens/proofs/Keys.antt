-- Names with one key are one name.
use Prim.Native.Nat.{ℕ, ◌^◌, ◌<◌}
use mathlib.Core.Path.{◌≡◌, refl, ap₂}
use mathlib.Core.Bool.{true}
use mathlib.Core.List.{List, [], ◌∷◌}
use mathlib.Core.Logic.{⊎_elim}
use native.Mathlib.Nat.{pow-suc}
use native.Mathlib.Omega.{arith}
use borrow.Author.Tests.{leb-true}
use lib.Dec.{leb, lit<}
use lib.ListN.{length}
use Rattle.laws.specs.Runs.{front_run}
use Rattle.laws.proofs.Tests.{bool_cases, and_true}
use Rattle.laws.proofs.Runs.{all_pass}
use Rattle.bits.specs.Low.{low_word}
use Rattle.tokens.specs.Bytes.{is_letter, is_digit, is_word}
use Rattle.tokens.specs.Symbol.{key_of}

-- a letter or a digit is a byte, and not 0
word_byte : (x : ℕ) → is_word x ≡ true → (0 < x) × (x < 256)
word_byte x t = ⊎_elim letter (λ f. digit (rw f at t)) (bool_cases (is_letter x))
  where
    letter : is_letter x ≡ true → (0 < x) × (x < 256)
    letter l = let a = and_true (leb 65 x) (leb x 90) l in omega (arith, leb-true 65 x a.0, leb-true x 90 a.1)

    digit : is_digit x ≡ true → (0 < x) × (x < 256)
    digit d = let a = and_true (leb 48 x) (leb x 57) d in omega (arith, leb-true 48 x a.0, leb-true x 57 a.1)

-- where all members are letters and digits, the first is a byte that is not 0
first_byte : (x : ℕ) (xs : List ℕ) → front_run is_word (x ∷ xs) ≡ x ∷ xs → (0 < x) × (x < 256)
first_byte x xs e = word_byte x (all_pass is_word x xs e).0

-- of two lists of letters and digits with one key
pub key_injective : (xs ys : List ℕ) → front_run is_word xs ≡ xs → front_run is_word ys ≡ ys → key_of xs ≡ key_of ys
    → xs ≡ ys
unfolding low_word
key_injective [] [] t u e = refl
key_injective [] (y ∷ ys) t u e = absurd (let z : ⊥ = omega (arith, first_byte y ys u) in z)
key_injective (x ∷ xs) [] t u e = absurd (let z : ⊥ = omega (arith, first_byte x xs t) in z)
key_injective (x ∷ xs) (y ∷ ys) t u e =
    let p = first_byte x xs t in
    let q = first_byte y ys u in
    let a : x ≡ y = omega arith in
    let b : low_word xs ≡ low_word ys = omega arith in
    ap₂ ◌∷◌ a (key_injective xs ys (all_pass is_word x xs t).1 (all_pass is_word y ys u).1 b)

-- a key has no more bytes than its name
pub key_below : (n : List ℕ) → front_run is_word n ≡ n → key_of n < 256 ^ length n
unfolding low_word
key_below [] t = lit< tt
key_below (x ∷ xs) t =
    rw (pow-suc 256 (length xs)) (omega (arith, first_byte x xs t, key_below xs (all_pass is_word x xs t).1))
