-- Two lists of bytes, compared byte by byte.
use Prim.Native.Nat.{ℕ, suc, ◌+◌, ◌<◌, ◌≤◌}
use mathlib.Core.Path.{◌≡◌, refl, ap}
use mathlib.Core.Bool.{Bool, true, false, ◌&&◌}
use mathlib.Core.List.{List, [], ◌∷◌}
use native.Mathlib.Numerals.{add-one}
use borrow.Author.Tests.{eq-eqb, ne_eqb}
use lib.Dec.{eqb}
use lib.ListN.{length, get_or, drop, drop_of_length-le}
use lib.Seq.{drop-cons}
use Rattle.laws.specs.Lists.{same_bytes}

-- lists of other lengths differ
pub other_length : (xs ys : List ℕ) → (length xs ≡ length ys → ⊥) → same_bytes xs ys ≡ false
unfolding same_bytes
other_length [] [] h = absurd (h refl)
other_length [] (y ∷ ys) h = refl
other_length (x ∷ xs) [] h = refl
other_length (x ∷ xs) (y ∷ ys) h = rw (other_length xs ys (λ e. h (ap suc e))) (both (eqb x y))
  where
    both : (b : Bool) → (b && false) ≡ false
    both true = refl
    both false = refl

module _ (xs ys : List ℕ) (i : ℕ) where
  module _ (h : i < length xs) (k : i < length ys) where
    -- from a place on: the bytes there, and those behind
    same_step : same_bytes (drop i xs) (drop i ys)
        ≡ (eqb (get_or xs i 0) (get_or ys i 0) && same_bytes (drop (i + 1) xs) (drop (i + 1) ys))
    unfolding same_bytes
    same_step = rw (add-one, drop-cons xs i 0 h, drop-cons ys i 0 k)

    -- where they differ, the lists do
    pub same_stop : (get_or xs i 0 ≡ get_or ys i 0 → ⊥) → same_bytes (drop i xs) (drop i ys) ≡ false
    same_stop n = rw (same_step, ne_eqb _ _ n)

    -- else those behind decide
    pub same_pass : get_or xs i 0 ≡ get_or ys i 0
        → same_bytes (drop i xs) (drop i ys) ≡ same_bytes (drop (i + 1) xs) (drop (i + 1) ys)
    same_pass e = rw (same_step, eq-eqb _ _ e)

  -- behind the last nothing differs
  pub same_end : length xs ≤ i → length ys ≤ i → same_bytes (drop i xs) (drop i ys) ≡ true
  unfolding same_bytes
  same_end h k = rw (drop_of_length-le xs h, drop_of_length-le ys k)
