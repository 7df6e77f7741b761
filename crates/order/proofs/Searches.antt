-- Laws of `first`, for a loop that goes up by one.
use mathlib.Core.Path.{◌≡◌, ◌∙◌}
use mathlib.Core.Bool.{Bool, true, false, cond}
use mathlib.Core.Logic.{⊎_elim}
use Prim.Native.Nat.{ℕ, zero, suc, ◌+◌, ◌-◌, ◌≤◌, ◌<◌}
use native.Mathlib.Nat.{sub-zero}
use native.Mathlib.Numerals.{add-one}
use native.Mathlib.Omega.{arith}
use borrow.Author.Tests.{lt-ltb, le-ltb}
use Rattle.std.specs.Prelude.{Some, None}
use Rattle.laws.proofs.Tests.{lt_or_ge, cond_ind}
use Rattle.order.specs.Greedy.{first}
use Rattle.order.specs.Marks.{below_end}

module _ (f : ℕ → Bool) (n i : ℕ) where
  -- one step of a search
  first_step : i < n → first f (n - i) i ≡ cond (f i) i (first f (n - (i + 1)) (i + 1))
  unfolding first
  first_step h = let e : n - i ≡ suc (n - (i + 1)) = omega arith in rw (e, add-one i)

  -- where the test holds the search stops
  pub first_stop : i < n → f i ≡ true → first f (n - i) i ≡ i
  first_stop h e = rw (first_step h, e)

  -- where it does not, the search goes on
  pub first_pass : i < n → f i ≡ false → first f (n - i) i ≡ first f (n - (i + 1)) (i + 1)
  first_pass h e = rw (first_step h, e)

  -- and at the end it stops
  pub first_none : n ≤ i → first f (n - i) i ≡ i
  unfolding first
  first_none h = let e : n - i ≡ 0 = omega arith in rw e

-- a search may begin where the test has failed so far
pub first_skip : (f : ℕ → Bool) (n i : ℕ) → i ≤ n → ((j : ℕ) → j < i → f j ≡ false) → first f n 0 ≡ first f (n - i) i
first_skip f n zero h z = rw sub-zero
first_skip f n (suc i) h z =
    first_skip f n i (omega arith) (λ j l. z j (omega arith))
    ∙ rw (← add-one i) (first_pass f n i (omega arith) (z i (omega arith)))

-- a search ends no sooner than it begins
pub first_from : (f : ℕ → Bool) (k i : ℕ) → i ≤ first f k i
unfolding first
first_from f zero i = omega arith
first_from f (suc k) i = cond_ind (λ r. i ≤ r) (f i) i _ (λ t. omega arith) (λ t. omega (arith, first_from f k (suc i)))

-- and not past its end
pub first_bound : (f : ℕ → Bool) (k i : ℕ) → first f k i ≤ i + k
unfolding first
first_bound f zero i = omega arith
first_bound f (suc k) i =
    cond_ind (λ r. r ≤ i + suc k) (f i) i _ (λ t. omega arith) (λ t. omega (arith, first_bound f k (suc i)))

-- ---- a place that stands before an end

pub before_found : (n : ℕ) {i : ℕ} → i < n → below_end n i ≡ Some i
before_found n {i} h = rw (lt-ltb i n h)

pub before_past : (n : ℕ) {i : ℕ} → n ≤ i → below_end n i ≡ None
before_past n {i} h = rw (le-ltb i n h)

-- which one it is
pub before_some : (n : ℕ) {i k : ℕ} → Some k ≡ below_end n i → (k ≡ i) × (i < n)
before_some n {i} {k} e =
    ⊎_elim (λ (h : i < n). (let f = before_found n h in cc, h))
    (λ h. let f = before_past n h in absurd (cc)) (lt_or_ge i n)

-- or that it does not
pub before_none : (n : ℕ) {i : ℕ} → None ≡ below_end n i → n ≤ i
before_none n {i} e = ⊎_elim (λ (h : i < n). let f = before_found n h in absurd (cc)) (λ h. h) (lt_or_ge i n)
