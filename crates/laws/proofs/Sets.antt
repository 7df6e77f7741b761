-- Values written from a place on.
use Prim.Native.Nat.{ℕ, suc, ◌+◌, ◌≤◌}
use mathlib.Core.Path.{◌≡◌, refl}
use mathlib.Core.List.{List, [], ◌∷◌, ◌++◌, append_assoc}
use native.Mathlib.Nat.{add-suc, suc-add, add-zero}
use native.Mathlib.Omega.{arith}
use lib.ListN.{length, set, take, drop}
use lib.Seq.{sets, sets-eq, set_out, drop_at, length-take-le, take-append_seam}

module _ {A : Type 0} where
  -- behind the end nothing is written
  pub sets_out : (l : List A) (i : ℕ) (vs : List A) → length l ≤ i → sets l i vs ≡ l
  sets_out l i [] h = refl
  sets_out l i (a ∷ vs) h = rw (set_out l i a h) (sets_out l (suc i) vs (omega arith))

  -- one row behind another
  pub sets_append : (l : List A) (i : ℕ) (x y : List A) → sets l i (x ++ y) ≡ sets (sets l i x) (i + length x) y
  sets_append l i [] y = rw add-zero
  sets_append l i (a ∷ x) y = rw (sets_append (set l i a) (suc i) x y, add-suc, suc-add)

  -- what was written stands there
  pub sets_back : (l : List A) (i : ℕ) (vs : List A) → i + length vs ≤ length l
      → take (length vs) (drop i (sets l i vs)) ≡ vs
  sets_back l i vs h =
      let e : length (take i l) ≡ i = length-take-le i l (omega arith) in
      rw (sets-eq vs l i h, append_assoc, drop_at (take i l) (vs ++ drop (i + length vs) l) i e)
      (take-append_seam vs (drop (i + length vs) l))
