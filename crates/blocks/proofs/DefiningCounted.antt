-- The drafts that define a name, counted one by one, and part by part.
use Prim.Native.Nat.{ℕ, zero, suc, ◌+◌, ◌≤◌, ◌<◌}
use mathlib.Core.Path.{◌≡◌, refl, sym, ap, ◌∙◌}
use mathlib.Core.Bool.{Bool, true, false}
use mathlib.Core.List.{List, [], ◌∷◌, ◌++◌}
use native.Mathlib.Nat.{add-zero}
use native.Mathlib.Omega.{arith}
use lib.ListN.{length, get_or, length-append}
use Rattle.std.specs.List.{sum_by}
use Rattle.std.proofs.lemmas.List.Recursion.{is_sum_by}
use Rattle.laws.specs.Places.{gather, only_if}
use Rattle.laws.specs.Counts.{once}
use Rattle.drafts.specs.Kinds.{defines}
use Rattle.blocks.specs.Places.{defining_in}

-- the place of a draft, if it defines a name
abbrev pub defining_at : List ℕ → ℕ → List ℕ
defining_at kinds i = only_if (defines (get_or kinds i 0)) i

pub only_once : {A : Type 0} (b : Bool) (a : A) → length (only_if b a) ≡ once b
only_once true a = refl
only_once false a = refl

pub once_few : (b : Bool) → once b ≤ 1
once_few true = omega arith
once_few false = omega arith

pub only_length : {A : Type 0} (b : Bool) (a : A) → length (only_if b a) ≤ 1
only_length b a = omega (arith, only_once b a, once_few b)

-- as many are gathered from place i on as from place j on, where the tests agree, whatever is taken at each place
pub as_many : (s t : ℕ → Bool) (f g : ℕ → ℕ) (k i j : ℕ) → ((m : ℕ) → m < k → s (i + m) ≡ t (j + m))
    → length (gather (λ n. only_if (s n) (f n)) k i) ≡ length (gather (λ n. only_if (t n) (g n)) k j)
unfolding gather
as_many s t f g zero i j h = refl
as_many s t f g (suc k) i j h =
    let here : s i ≡ t j = rw (add-zero i, add-zero j) at (h 0 (omega arith)) in
    let next : (n m : ℕ) → suc n + m ≡ n + suc m = λ n m. omega arith in
    omega (
      arith,
      length-append (only_if (s i) (f i)) (gather (λ n. only_if (s n) (f n)) k (suc i)),
      length-append (only_if (t j) (g j)) (gather (λ n. only_if (t n) (g n)) k (suc j)),
      only_once (s i) (f i) ∙ ap once here ∙ sym (only_once (t j) (g j)),
      as_many s t f g k (suc i) (suc j) (λ m l. rw (next i m, next j m) (h (suc m) (omega arith))),
    )

-- one by one
defining_cons : (k : ℕ) (ks : List ℕ) → length (defining_in (k ∷ ks)) ≡ once (defines k) + length (defining_in ks)
unfolding defining_in gather
defining_cons k ks =
    omega (
      arith,
      length-append (only_if (defines k) 0) (gather (defining_at (k ∷ ks)) (length ks) 1),
      only_once {A = ℕ} (defines k) 0,
      as_many (λ j. defines (get_or (k ∷ ks) j 0)) (λ j. defines (get_or ks j 0)) (λ j. j) (λ j. j) (length ks) 1 0
          (λ m h. let e : 1 + m ≡ suc m = omega arith in let z : 0 + m ≡ m = omega arith in rw (e, z)),
    )

pub defining_nil : length (defining_in []) ≡ 0
unfolding defining_in gather
defining_nil = refl

pub defining_sum : (ks : List ℕ) → length (defining_in ks) ≡ sum_by (λ (k : ℕ). once (defines k)) ks
defining_sum ks =
    is_sum_by (λ (ks : List ℕ). length (defining_in ks)) (λ (k : ℕ). once (defines k)) defining_nil defining_cons ks

-- part by part
pub defining_append : (x y : List ℕ)
    → length (defining_in (x ++ y)) ≡ length (defining_in x) + length (defining_in y)
defining_append [] y = omega (arith, defining_nil)
defining_append (k ∷ x) y = omega (arith, defining_cons k (x ++ y), defining_cons k x, defining_append x y)

-- no more than all drafts
pub defining_le : (ks : List ℕ) → length (defining_in ks) ≤ length ks
defining_le [] = omega (arith, defining_nil)
defining_le (k ∷ ks) = omega (arith, defining_cons k ks, once_few (defines k), defining_le ks)
