-- Laws of a search for a flag, many at once.
use mathlib.Core.Path.{◌≡◌, refl, ◌∙◌}
use mathlib.Core.Bool.{Bool, true, false, ◌||◌}
use mathlib.Core.List.{List, [], ◌∷◌}
use Prim.Native.Nat.{ℕ, zero, suc, ◌+◌, ◌-◌, ◌≤◌}
use native.Mathlib.Numerals.{add-one}
use native.Mathlib.Nat.{add-zero}
use native.Mathlib.Omega.{arith}
use lib.ListN.{length, get_or, take, drop}
use lib.Seq.{drop-cons}
use Rattle.std.specs.List.{fold}
use Rattle.laws.proofs.Tests.{not_both}
use Rattle.order.specs.Greedy.{first}
use Rattle.order.specs.Marks.{flag}
use Rattle.order.proofs.Searches.{first_pass}

-- once one was set it stays so
fold_true : (l : List Bool) → fold ◌||◌ true l ≡ true
fold_true [] = refl
fold_true (a ∷ l) = fold_true l

-- where none is set the first is not, nor one of the others
none_set : (a : Bool) (l : List Bool) → fold ◌||◌ a l ≡ false → (a ≡ false) × (fold ◌||◌ false l ≡ false)
none_set true l z = absurd (not_both (fold_true l) z)
none_set false l z = (refl, z)

-- where none of k is set, the search goes on behind them
pub skip_clear : (t : List Bool) (n k i : ℕ) → i + k ≤ n → n ≤ length t → fold ◌||◌ false (take k (drop i t)) ≡ false
    → first (flag t) (n - i) i ≡ first (flag t) (n - (i + k)) (i + k)
skip_clear t n zero i h l z = rw (add-zero i)
skip_clear t n (suc k) i h l z =
    let e : drop i t ≡ get_or t i false ∷ drop (suc i) t = drop-cons t i false (omega arith) in
    let both = none_set (get_or t i false) (take k (drop (suc i) t)) (rw e at z) in
    let m : i + suc k ≡ suc i + k = omega arith in
    first_pass (flag t) n i (omega arith) both.0
    ∙ rw (add-one i, m) (skip_clear t n k (suc i) (omega arith) l both.1)
