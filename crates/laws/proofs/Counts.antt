-- Laws of counts and membership.
use Prim.Native.Nat.{ℕ, zero, suc, ◌+◌, ◌<◌}
use mathlib.Core.Path.{◌≡◌, refl, sym}
use mathlib.Core.Bool.{true, false}
use mathlib.Core.Logic.{⊎_elim}
use mathlib.Core.List.{List, [], ◌∷◌, ◌++◌}
use native.Mathlib.Omega.{arith}
use borrow.Author.Tests.{ltb-true, ltb-false, eq-eqb, ne_eqb}
use lib.Dec.{eqb}
use lib.ListN.{length, get_or, take}
use Rattle.laws.specs.Counts.{once, count, ◌∈◌, has}
use Rattle.laws.proofs.Tests.{eq_or_ne}

pub count_append : (j : ℕ) (l m : List ℕ) → count j (l ++ m) ≡ count j l + count j m
unfolding count
count_append j [] m = omega arith
count_append j (a ∷ l) m = omega (arith, count_append j l m)

pub once_same : (a : ℕ) → once (eqb a a) ≡ 1
once_same a = rw (eq-eqb a a refl)

pub once_other : (j a : ℕ) → (j ≡ a → ⊥) → once (eqb j a) ≡ 0
once_other j a h = rw (ne_eqb j a h)

pub count_cons_same : (a : ℕ) (l : List ℕ) → count a (a ∷ l) ≡ suc (count a l)
unfolding count
count_cons_same a l = omega (arith, once_same a)

pub count_snoc_same : (a : ℕ) (l : List ℕ) → count a (l ++ (a ∷ [])) ≡ suc (count a l)
unfolding count
count_snoc_same a l = omega (arith, count_append a l (a ∷ []), once_same a)

pub count_snoc_other : (j a : ℕ) (l : List ℕ) → (j ≡ a → ⊥) → count j (l ++ (a ∷ [])) ≡ count j l
unfolding count
count_snoc_other j a l h = omega (arith, count_append j l (a ∷ []), once_other j a h)

pub has_true : (j : ℕ) (l : List ℕ) → has j l ≡ true → j ∈ l
has_true j l e = ltb-true 0 (count j l) e

pub has_false : (j : ℕ) (l : List ℕ) → has j l ≡ false → count j l ≡ 0
has_false j l e = omega (arith, ltb-false 0 (count j l) e)

-- what stands among the first p of l stands at a place before p
pub place_of : (i p : ℕ) (l : List ℕ) → i ∈ take p l → (r : ℕ) × (r < p) × (r < length l) × (get_or l r 0 ≡ i)
unfolding count
place_of i zero l h = absurd (omega arith)
place_of i (suc p) [] h = absurd (omega arith)
place_of i (suc p) (a ∷ l) h =
    ⊎_elim (λ e. (0, omega arith, omega arith, sym e))
    (λ d. let r = place_of i p l (omega (arith, once_other i a d)) in (suc r.0, omega arith, omega arith, r.3))
    (eq_or_ne i a)
