-- The numbers of a row that pass a test, from the first to the last.
use Prim.Native.Nat.{ℕ, zero, suc, ◌+◌, ◌≤◌, ◌<◌}
use mathlib.Core.Path.{◌≡◌, refl}
use mathlib.Core.Bool.{Bool, true, false}
use mathlib.Core.Logic.{⊎_elim}
use mathlib.Core.List.{List, ◌++◌}
use native.Mathlib.Nat.{eq-or-lt_of_le}
use native.Mathlib.Omega.{arith}
use Rattle.laws.specs.Counts.{count, ◌∈◌}
use Rattle.laws.specs.Rising.{Rising}
use Rattle.laws.specs.Places.{gather, only_if}
use Rattle.laws.proofs.Tests.{eq_or_ne}
use Rattle.laws.proofs.Counts.{count_append, once_same, once_other}
use Rattle.laws.proofs.Rising.{rising_le}

-- those of the k numbers from i on
abbrev pub chosen : (ℕ → Bool) → ℕ → ℕ → List ℕ
chosen t k i = gather (λ (j : ℕ). only_if (t j) j) k i

module _ (t : ℕ → Bool) where
  -- they rise
  pub chosen_rises : (k i : ℕ) → Rising i (chosen t k i)
  unfolding gather
  chosen_rises zero i = tt
  chosen_rises (suc k) i = go (t i) (chosen_rises k (suc i))
    where
      go : (b : Bool) → Rising (suc i) (chosen t k (suc i)) → Rising i (only_if b i ++ chosen t k (suc i))
      go true r = (omega arith, r)
      go false r = rising_le (suc i) i (chosen t k (suc i)) r (omega arith)

  -- each passes the test, and is one of the k
  pub chosen_passes : (k i j : ℕ) → j ∈ chosen t k i → (t j ≡ true) × (i ≤ j) × (j < i + k)
  unfolding gather count
  chosen_passes zero i j h = absurd (omega arith)
  chosen_passes (suc k) i j h =
      go (t i) refl (λ m. let r = chosen_passes k (suc i) j m in (r.0, omega arith, omega arith)) h
    where
      go : (b : Bool) → t i ≡ b → (j ∈ chosen t k (suc i) → (t j ≡ true) × (i ≤ j) × (j < i + suc k))
          → j ∈ only_if b i ++ chosen t k (suc i)
          → (t j ≡ true) × (i ≤ j) × (j < i + suc k)
      go true e f m =
          ⊎_elim (λ (q : j ≡ i). (rw q e, omega arith, omega arith)) (λ n. f (omega (arith, once_other j i n)))
          (eq_or_ne j i)
      go false e f m = f m

  -- each that passes is chosen
  pub chosen_all : (k i j : ℕ) → t j ≡ true → i ≤ j → j < i + k → j ∈ chosen t k i
  unfolding gather count
  chosen_all zero i j e h l = absurd (omega arith)
  chosen_all (suc k) i j e h l =
      let c = count_append j (only_if (t i) i) (chosen t k (suc i)) in
      ⊎_elim
      (λ (q : i ≡ j). let s : count j (only_if (t i) i) ≡ 1 = rw (q, e) (omega (arith, once_same j)) in omega arith)
      (λ g. let r = chosen_all k (suc i) j e g (omega arith) in omega arith)
      (eq-or-lt_of_le h)
