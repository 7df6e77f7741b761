-- How often a number stands in a list in which one place was set.
use Prim.Native.Nat.{ℕ, zero, suc, zero-le, ◌+◌, ◌≤◌, ◌<◌}
use mathlib.Core.Path.{◌≡◌}
use mathlib.Core.Bool.{Bool, true, false}
use mathlib.Core.List.{List, [], ◌∷◌}
use native.Mathlib.Omega.{arith}
use lib.Dec.{eqb}
use lib.ListN.{length, get_or, set}
use Rattle.laws.specs.Counts.{once, count}

-- what stood there is lost, what was written is won
pub count_set : (j a : ℕ) (l : List ℕ) (i : ℕ) → i < length l
    → count j (set l i a) + once (eqb j (get_or l i 0)) ≡ count j l + once (eqb j a)
unfolding count
count_set j a [] i h = absurd (omega arith)
count_set j a (b ∷ l) zero h = omega arith
count_set j a (b ∷ l) (suc i) h = omega (arith, count_set j a l i (omega arith))

once_most : (b : Bool) → once b ≤ 1
once_most true = omega arith
once_most false = zero-le

pub count_most : (j : ℕ) (l : List ℕ) → count j l ≤ length l
unfolding count
count_most j [] = zero-le
count_most j (a ∷ l) = omega (arith, count_most j l, once_most (eqb j a))
