-- The values that a stack holds, after a value was put on it.
use Prim.Native.Nat.{ℕ, zero, suc, ◌+◌, ◌-◌, ◌≤◌, ◌<◌}
use mathlib.Core.Path.{◌≡◌, refl, ◌∙◌}
use mathlib.Core.List.{List, ◌∷◌}
use native.Mathlib.Numerals.{add-one}
use native.Mathlib.Omega.{arith}
use lib.ListN.{length, get_or, set, drop, length-set}
use lib.Seq.{get_or-set_same, get_or-set_other}
use lib.Ieee.{Float, nan}
use Rattle.evaluator.specs.Stack.{down, HasPlace, Yields}

-- what is written above the first n items does not change them
down_set : (l : List Float) (n i : ℕ) (x : Float) → n ≤ i → down (set l i x) n ≡ down l n
unfolding down
down_set l zero i x h = refl
down_set l (suc n) i x h = rw (get_or-set_other l i n x nan (λ e. omega arith), down_set l n i x (omega arith))

-- what is written behind them is the topmost of one more
down_put : (l : List Float) (n : ℕ) (x : Float) → n < length l → down (set l n x) (n + 1) ≡ x ∷ down l n
unfolding down
down_put l n x h = rw (add-one, get_or-set_same l n x nan h, down_set l n n x (omega arith))

-- without the k topmost
pub down_drop : (l : List Float) (n k : ℕ) → drop k (down l n) ≡ down l (n - k)
unfolding down
down_drop l n zero = let e : n - 0 ≡ n = omega arith in rw e
down_drop l zero (suc k) = let e : 0 - suc k ≡ 0 = omega arith in rw e
down_drop l (suc n) (suc k) = let e : suc n - suc k ≡ n - k = omega arith in rw e (down_drop l n k)

-- the value that k others stand on
pub down_at : (l : List Float) (n k : ℕ) → k < n → get_or l (n - (k + 1)) nan ≡ get_or (down l n) k nan
unfolding down
down_at l zero k h = absurd (omega arith)
down_at l (suc n) zero h = let e : suc n - (0 + 1) ≡ n = omega arith in rw e
down_at l (suc n) (suc k) h =
    let e : suc n - (suc k + 1) ≡ n - (k + 1) = omega arith in
    rw e (down_at l n k (omega arith))

-- x is put for the k topmost
pub put_done : (k : ℕ) (l : List Float) (n : ℕ) (x : Float) → HasPlace k l n
    → Yields k l n x (set l (n - k) x) (n - k + 1)
put_done k l n x h =
    record {
      stack = down_put l (n - k) x (omega (arith, h.high, h.full)) ∙ rw (down_drop l n k);
      count = refl;
      full = length-set l (n - k) x ∙ h.full;
    }
