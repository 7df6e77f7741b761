-- Laws of rising lists.
use Prim.Native.Nat.{ℕ, zero, suc, ◌≤◌, ◌<◌}
use mathlib.Core.List.{List, [], ◌∷◌}
use native.Mathlib.Omega.{arith}
use lib.ListN.{length, get_or}
use Rattle.laws.specs.Rising.{Rising}

-- a lower bound serves too
pub rising_le : (a b : ℕ) (l : List ℕ) → Rising a l → b ≤ a → Rising b l
rising_le a b [] r h = tt
rising_le a b (x ∷ l) r h = (omega (arith, r.0), r.1)

-- every member is at least the bound
rising_from : (b : ℕ) (l : List ℕ) (i : ℕ) → Rising b l → i < length l → b ≤ get_or l i 0
rising_from b [] i r h = absurd (omega arith)
rising_from b (x ∷ l) zero r h = r.0
rising_from b (x ∷ l) (suc i) r h = omega (arith, r.0, rising_from (suc x) l i r.1 (omega arith))

-- a later member is larger
pub rising_lt : (b : ℕ) (l : List ℕ) (i j : ℕ) → Rising b l → i < j → j < length l → get_or l i 0 < get_or l j 0
rising_lt b [] i j r h k = absurd (omega arith)
rising_lt b (x ∷ l) i zero r h k = absurd (omega arith)
rising_lt b (x ∷ l) zero (suc j) r h k = rising_from (suc x) l j r.1 (omega arith)
rising_lt b (x ∷ l) (suc i) (suc j) r h k = rising_lt (suc x) l i j r.1 (omega arith) (omega arith)
