-- Laws of rows of places, as loops over them use them, and of loops that write what a row gives.
use Prim.Native.Nat.{ℕ, zero, suc, ◌+◌, ◌-◌, ◌≤◌, ◌<◌}
use mathlib.Core.Path.{◌≡◌, refl, sym, ap, ap₂, ◌∙◌}
use mathlib.Core.Bool.{Bool, true, false, ◌||◌}
use mathlib.Core.Logic.{⊎_elim}
use mathlib.Core.List.{List, [], ◌++◌, append_assoc, append-nil}
use native.Mathlib.Nat.{sub-zero}
use native.Mathlib.Numerals.{add-one}
use native.Mathlib.Omega.{arith}
use lib.ListN.{length, length-append}
use lib.Seq.{sets, length-sets}
use Rattle.laws.specs.Places.{gather, any_in}
use Rattle.laws.proofs.Sets.{sets_append}
use Rattle.laws.proofs.Tests.{not_both, eq_or_ne}

-- ---- a test at one of the places from i on, before b
module _ (f : ℕ → Bool) (b i : ℕ) where
  pub any_step : i < b → any_in f (b - i) i ≡ (f i || any_in f (b - (i + 1)) (i + 1))
  unfolding any_in
  any_step h = let e : b - i ≡ suc (b - (i + 1)) = omega arith in rw (e, add-one i)

  pub any_stop : i < b → f i ≡ true → any_in f (b - i) i ≡ true
  any_stop h e = rw (any_step h, e)

  pub any_pass : i < b → f i ≡ false → any_in f (b - i) i ≡ any_in f (b - (i + 1)) (i + 1)
  any_pass h e = rw (any_step h, e)

  pub any_done : b ≤ i → any_in f (b - i) i ≡ false
  unfolding any_in
  any_done h = let e : b - i ≡ 0 = omega arith in rw e

-- where it holds at no place, it does not at each
pub any_none : (f : ℕ → Bool) (k i : ℕ) → any_in f k i ≡ false → (j : ℕ) → i ≤ j → j < i + k → f j ≡ false
unfolding any_in
any_none f zero i e j a b = absurd (omega arith)
any_none f (suc k) i e j a b = go (f i) refl e (λ e. any_none f k (suc i) e j)
  where
    go : (t : Bool) → f i ≡ t → (t || any_in f k (suc i)) ≡ false
        → (any_in f k (suc i) ≡ false → suc i ≤ j → j < suc i + k → f j ≡ false) → f j ≡ false
    go true p q r = absurd (not_both refl q)
    go false p q r = ⊎_elim (λ (z : i ≡ j). ap f (sym z) ∙ p) (λ z. r q (omega arith) (omega arith)) (eq_or_ne i j)

-- where it does not hold at each place, it holds at no place
pub none_any : (f : ℕ → Bool) (k i : ℕ) → ((j : ℕ) → i ≤ j → j < i + k → f j ≡ false) → any_in f k i ≡ false
unfolding any_in
none_any f zero i h = refl
none_any f (suc k) i h =
    rw (h i (omega arith) (omega arith)) (none_any f k (suc i) (λ j a b. h j (omega arith) (omega arith)))

-- ---- what the places from i on, before n, give
module _ {A : Type 0} (f : ℕ → List A) where
  pub gather_step : (n i : ℕ) → i < n → gather f (n - i) i ≡ f i ++ gather f (n - (i + 1)) (i + 1)
  unfolding gather
  gather_step n i h = let e : n - i ≡ suc (n - (i + 1)) = omega arith in rw (e, add-one i)

  pub gather_done : (n i : ℕ) → n ≤ i → gather f (n - i) i ≡ []
  unfolding gather
  gather_done n i h = let e : n - i ≡ 0 = omega arith in rw e

  -- in two parts
  pub gather_add : (a b i : ℕ) → gather f (a + b) i ≡ gather f a i ++ gather f b (i + a)
  unfolding gather
  gather_add zero b i = let p : 0 + b ≡ b = omega arith in let q : i + 0 ≡ i = omega arith in rw (p, q)
  gather_add (suc a) b i =
      let p : suc a + b ≡ suc (a + b) = omega arith in
      let q : i + suc a ≡ suc i + a = omega arith in
      rw (p, q, gather_add a b (suc i), append_assoc (f i))

  -- of the places from a on, one more
  pub gather_more : (a i : ℕ) → a ≤ i → gather f ((i + 1) - a) a ≡ gather f (i - a) a ++ f i
  unfolding gather
  gather_more a i h =
      let k = i - a in
      let e : (i + 1) - a ≡ k + 1 = omega arith in
      let z : a + k ≡ i = omega arith in
      ap (λ (n : ℕ). gather f n a) e ∙ gather_add k 1 a
      ∙ ap (λ (r : List A). gather f k a ++ r) (append-nil (f (a + k)) ∙ ap f z)

  -- nothing, where each place gives nothing
  pub gather_none : (k i : ℕ) → ((j : ℕ) → i ≤ j → j < i + k → f j ≡ []) → gather f k i ≡ []
  unfolding gather
  gather_none zero i h = refl
  gather_none (suc k) i h =
      rw (h i (omega arith) (omega arith)) (gather_none k (suc i) (λ j a b. h j (omega arith) (omega arith)))

  -- a row of at most one at each place
  pub gather_short : ((i : ℕ) → length (f i) ≤ 1) → (k i : ℕ) → length (gather f k i) ≤ k
  unfolding gather
  gather_short h zero i = omega arith
  gather_short h (suc k) i = omega (arith, length-append (f i) (gather f k (suc i)), h i, gather_short h k (suc i))

-- two that agree at each place
pub gather_same : {A : Type 0} (f g : ℕ → List A) (k i : ℕ) → ((j : ℕ) → i ≤ j → j < i + k → f j ≡ g j)
    → gather f k i ≡ gather g k i
unfolding gather
gather_same f g zero i h = refl
gather_same f g (suc k) i h =
    ap₂ ◌++◌ (h i (omega arith) (omega arith)) (gather_same f g k (suc i) (λ j a b. h j (omega arith) (omega arith)))

-- ---- a loop that writes what f gives, one after the other, from place w₀ on: it stands at place i, and has written up
-- to w
pub record Writes {A : Type 0} (f : ℕ → List A) (n a i w₀ w : ℕ) (buf₀ buf : List A) : Type 0 where
  pub long : length buf ≡ length buf₀
  pub left : w + length (gather f (n - i) i) ≡ w₀ + length (gather f (n - a) a)
  pub same : sets buf w (gather f (n - i) i) ≡ sets buf₀ w₀ (gather f (n - a) a)

pub writes_first : {A : Type 0} (f : ℕ → List A) (n a w : ℕ) (buf : List A) → Writes f n a a w w buf buf
writes_first f n a w buf = record { long = refl; left = refl; same = refl }

module _ {A : Type 0} {f : ℕ → List A} {n a i w₀ w : ℕ} {buf₀ buf : List A} where
  pub writes_next : Writes f n a i w₀ w buf₀ buf → i < n → (r : ℕ) (last : List A) → r ≡ w + length (f i)
      → last ≡ sets buf w (f i)
      → Writes f n a (i + 1) w₀ r buf₀ last
  writes_next v h r last p q =
      let rest = gather f (n - (i + 1)) (i + 1) in
      record {
        long = ap length q ∙ length-sets buf w (f i) ∙ v.long;
        left = omega (arith, v.left, p, ap length (gather_step f n i h), length-append (f i) rest);
        same = rw (q, p, ← (sets_append buf w (f i) rest), ← (gather_step f n i h)) v.same;
      }

  pub writes_count : Writes f n a i w₀ w buf₀ buf → n ≤ i → w ≡ w₀ + length (gather f (n - a) a)
  writes_count v h = omega (arith, v.left, ap length (gather_done f n i h))

  pub writes_all : Writes f n a i w₀ w buf₀ buf → n ≤ i → buf ≡ sets buf₀ w₀ (gather f (n - a) a)
  writes_all v h = rw (gather_done f n i h) at v.same

-- the same for a loop from place 0 on, and for what stands written at the front
module _ {A : Type 0} {f : ℕ → List A} {n i w : ℕ} {buf₀ buf : List A} where
  pub whole_count : Writes f n 0 i 0 w buf₀ buf → n ≤ i → w ≡ length (gather f n 0)
  whole_count v h = omega (arith, writes_count v h, ap (λ (k : ℕ). length (gather f k 0)) (sub-zero n))

  pub whole_all : Writes f n 0 i 0 w buf₀ buf → n ≤ i → buf ≡ sets buf₀ 0 (gather f n 0)
  whole_all v h = writes_all v h ∙ ap (λ (k : ℕ). sets buf₀ 0 (gather f k 0)) (sub-zero n)

-- one place further on
pub gather_shift : {A : Type 0} (f : ℕ → List A) (k i : ℕ) → gather f k (suc i) ≡ gather (λ j. f (suc j)) k i
unfolding gather
gather_shift f zero i = refl
gather_shift f (suc k) i = ap (λ r. f (suc i) ++ r) (gather_shift f k (suc i))
