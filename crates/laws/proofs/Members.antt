-- Laws of members, as tests and as facts.
use Prim.Native.Nat.{ℕ, zero, suc, ◌<◌}
use mathlib.Core.Path.{◌≡◌, refl, ap, ◌∙◌}
use mathlib.Core.Bool.{Bool, true, false, ◌||◌}
use mathlib.Core.Logic.{⊎_elim}
use mathlib.Core.List.{List, [], ◌∷◌, ◌++◌}
use native.Mathlib.Omega.{arith}
use borrow.Author.Tests.{ltb-true, lt-ltb, eq-eqb, ne_eqb}
use lib.Dec.{eqb, ltb}
use lib.ListN.{length, get_or}
use Rattle.laws.specs.Lists.{concat_map}
use Rattle.laws.specs.Counts.{count, ◌∈◌, has}
use Rattle.laws.specs.Places.{gather, only_if}
use Rattle.laws.proofs.Tests.{bool_cases, eq_or_ne, lt_or_ge}
use Rattle.laws.proofs.Counts.{count_append, once_same, once_other, has_true, has_false}

-- the test holds of a member
pub in_has : (j : ℕ) (l : List ℕ) → j ∈ l → has j l ≡ true
in_has j l h = lt-ltb 0 (count j l) h

-- a member of two rows is one of either
pub has_append : (j : ℕ) (x y : List ℕ) → has j (x ++ y) ≡ (has j x || has j y)
has_append j x y =
    ⊎_elim (λ t. rw t (in_has j (x ++ y) (omega (arith, has_true j x t, count_append j x y))))
    (λ t. let e : count j (x ++ y) ≡ count j y = omega (arith, has_false j x t, count_append j x y) in rw t
    (ap (λ n. ltb 0 n) e)) (bool_cases (has j x))

-- .. of a row of one
pub has_one : (j a : ℕ) → has j (a ∷ []) ≡ eqb j a
unfolding count
has_one j a = ⊎_elim (λ e. rw (eq-eqb j a e)) (λ e. rw (ne_eqb j a e)) (eq_or_ne j a)

-- .. of a row and one before it
pub has_cons : (j a : ℕ) (l : List ℕ) → has j (a ∷ l) ≡ (eqb j a || has j l)
has_cons j a l = has_append j (a ∷ []) l ∙ ap (λ b. b || has j l) (has_one j a)

-- what stands at a place stands in the list
pub at_in : (l : List ℕ) (i : ℕ) → i < length l → get_or l i 0 ∈ l
unfolding count
at_in [] i h = absurd (omega arith)
at_in (a ∷ l) zero h = omega (arith, once_same a)
at_in (a ∷ l) (suc i) h = omega (arith, at_in l i (omega arith))

-- ---- all members are below n
abbrev pub Below : ℕ → List ℕ → Type 0
Below n l = (j : ℕ) → j ∈ l → j < n

-- .. of both rows
pub below_append : (n : ℕ) (x y : List ℕ) → Below n x → Below n y → Below n (x ++ y)
below_append n x y p q j h =
    ⊎_elim (λ l. p j l) (λ g. q j (omega (arith, count_append j x y))) (lt_or_ge 0 (count j x))

-- .. of each part of a row
pub below_concat : {A : Type 0} (n : ℕ) (f : A → List ℕ) → ((a : A) → Below n (f a)) → (l : List A)
    → Below n (concat_map f l)
unfolding concat_map count
below_concat n f p [] = λ j h. absurd (omega arith)
below_concat n f p (a ∷ l) = below_append n (f a) (concat_map f l) (p a) (below_concat n f p l)

-- .. of all that is gathered
pub below_gather : (n : ℕ) (f : ℕ → List ℕ) → ((i : ℕ) → Below n (f i)) → (k i : ℕ) → Below n (gather f k i)
unfolding gather count
below_gather n f p zero i = λ j h. absurd (omega arith)
below_gather n f p (suc k) i = below_append n (f i) (gather f k (suc i)) (p i) (below_gather n f p k (suc i))

-- one that is taken only if it is below n
pub below_only : (n a : ℕ) → Below n (only_if (ltb a n) a)
unfolding count
below_only n a = go (ltb a n) refl
  where
    go : (b : Bool) → ltb a n ≡ b → Below n (only_if b a)
    go true t j h =
        ⊎_elim (λ (e : j ≡ a). rw e (ltb-true a n t)) (λ e. absurd (omega (arith, once_other j a e))) (eq_or_ne j a)
    go false t j h = absurd (omega arith)
