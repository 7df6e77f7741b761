-- Unsortable, as a test by chains and as what the greedy order leaves over.
use mathlib.Core.Path.{◌≡◌, refl}
use mathlib.Core.Bool.{Bool, true, false, ◌&&◌}
use mathlib.Core.Logic.{⊎_elim, ◌↔◌}
use mathlib.Core.List.{List, [], ◌∷◌}
use Prim.Native.Nat.{ℕ, zero, suc, ◌<◌}
use native.Mathlib.Nat.{eq-or-lt_of_le}
use native.Mathlib.Omega.{arith}
use borrow.Author.Tests.{ltb-true, lt-ltb, le-ltb, not-true}
use lib.Dec.{ltb}
use lib.ListN.{length}
use Rattle.laws.specs.Counts.{count, has}
use Rattle.laws.proofs.Tests.{bool_cases, not_both, and_true, and_both, or_true, or_left, or_right}
use Rattle.laws.proofs.Counts.{has_false}
use Rattle.order.specs.Order.{any, Chain, Unsortable, chained, unsortable}
use Rattle.order.specs.Greedy.{order, left_over}
use Rattle.order.proofs.Sorting.{left_over_iff}

-- ---- `any`
any_true : (k : ℕ) (f : ℕ → Bool) → any k f ≡ true → (j : ℕ) × (j < k) × (f j ≡ true)
unfolding any
any_true zero f e = absurd (not_both e refl)
any_true (suc k) f e =
    ⊎_elim (λ t. (k, omega arith, t)) (λ t. let r = any_true k f t in (r.0, omega arith, r.2))
    (or_true (f k) (any k f) e)

-- and the other way
any_intro : (k : ℕ) (f : ℕ → Bool) (j : ℕ) → j < k → f j ≡ true → any k f ≡ true
unfolding any
any_intro zero f j h e = absurd (omega arith)
any_intro (suc k) f j h e =
    ⊎_elim (λ q. or_left (f k) (any k f) (rw (← q) e)) (λ l. or_right (f k) (any k f) (any_intro k f j l e))
    (eq-or-lt_of_le (omega arith))

module _ (n : ℕ) (uses : ℕ → ℕ → Bool) where
  -- the test finds a chain of k behind i exactly if there is one
  chained_chain : (k i : ℕ) → chained n uses k i ≡ true → (l : List ℕ) × (length l ≡ k) × Chain n uses i l
  unfolding chained
  chained_chain zero i e = ([], refl, ltb-true i n e)
  chained_chain (suc k) i e =
      let a = and_true (ltb i n) _ e in
      let b = any_true n (λ j. uses i j && chained n uses k j) a.1 in
      let c = and_true (uses i b.0) (chained n uses k b.0) b.2 in
      let r = chained_chain k b.0 c.1 in
      (b.0 ∷ r.0, omega (arith, r.1), (ltb-true i n a.0, c.0, r.2))

  chain_member : (j : ℕ) (l : List ℕ) → Chain n uses j l → j < n
  chain_member j [] c = c
  chain_member j (k ∷ l) c = c.0

  chain_chained : (i : ℕ) (l : List ℕ) → Chain n uses i l → chained n uses (length l) i ≡ true
  unfolding chained
  chain_chained i [] c = lt-ltb i n c
  chain_chained i (j ∷ l) c =
      and_both (ltb i n) _ (lt-ltb i n c.0)
      (any_intro n (λ j. uses i j && chained n uses (length l) j) j (chain_member j l c.2)
      (and_both (uses i j) _ c.1 (chain_chained j l c.2)))

  -- UNSORTABLE. The test holds exactly if a chain of n + 1 starts there
  pub unsortable_iff : (i : ℕ) → (unsortable n uses i ≡ true) ↔ Unsortable n uses i
  unsortable_iff i = (
    λ e. let r = chained_chain n i e in (r.0, omega (arith, r.1), r.2),
    λ w. let k : length w.0 ≡ n = omega (arith, w.1) in rw k at (chain_chained i w.0 w.2),
  )

  -- and, of a statement, exactly if the greedy order leaves it over
  pub left_over_unsortable : (i : ℕ) → i < n → left_over n uses i ≡ unsortable n uses i
  left_over_unsortable i h = ⊎_elim left right (bool_cases (left_over n uses i))
    where
      left : left_over n uses i ≡ true → left_over n uses i ≡ unsortable n uses i
      left t =
          let o = (left_over_iff n uses i).0 (h, has_false i (order n uses) (not-true (has i (order n uses)) t)) in
          let u = (unsortable_iff i).1 o in
          cc

      right : left_over n uses i ≡ false → left_over n uses i ≡ unsortable n uses i
      right t =
          let no : unsortable n uses i ≡ true → ⊥ = λ u.
          let o = (left_over_iff n uses i).1 ((unsortable_iff i).0 u) in
          not_both {b = left_over n uses i} (rw (le-ltb 0 (count i (order n uses)) (omega (arith, o.1)))) t in
          ⊎_elim (λ u. absurd (no u)) (λ u. let v = u in cc) (bool_cases (unsortable n uses i))
