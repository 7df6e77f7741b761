-- Runs from a place on, one step at a time, for a loop that goes by an index and reads 0 past the end.
use Prim.Native.Nat.{ℕ, zero-le, suc-le-suc, ◌+◌, ◌≤◌, ◌<◌}
use mathlib.Core.Path.{◌≡◌, refl, sym, ap, ◌∙◌}
use mathlib.Core.Bool.{Bool, true, false, cond}
use mathlib.Core.List.{List, [], ◌∷◌, ◌++◌, map}
use mathlib.Core.Logic.{⊎_elim}
use native.Mathlib.Numerals.{add-one}
use native.Mathlib.Omega.{arith}
use borrow.Author.Tests.{eq-eqb}
use lib.Dec.{eqb}
use lib.ListN.{length, get_or, take, drop, length-drop, drop_of_length-le, take-append-drop}
use lib.ListN.{get_or-eq_default}
use lib.Seq.{drop-cons}
use Rattle.laws.specs.Runs.{front_run, EndOrSpace}
use Rattle.laws.proofs.Tests.{bool_cases, not_both, lt_or_ge, cond_ind}

module _ (p : ℕ → Bool) (s : List ℕ) (i : ℕ) where
  -- a member that passes, where 0 does not, stands before the end
  pub inside : p 0 ≡ false → p (get_or s i 0) ≡ true → i < length s
  inside z h =
      ⊎_elim (λ l. l) (λ g. absurd (not_both h (ap p (get_or-eq_default s 0 g) ∙ z))) (lt_or_ge i (length s))

  -- a member that passes is the first of the run
  pub run_more : p 0 ≡ false → p (get_or s i 0) ≡ true
      → front_run p (drop i s) ≡ get_or s i 0 ∷ front_run p (drop (i + 1) s)
  unfolding front_run
  run_more z h = let l = inside z h in rw (add-one, drop-cons s i 0 l, h)

  -- one that does not pass begins no run
  pub run_stop : p (get_or s i 0) ≡ false → front_run p (drop i s) ≡ []
  unfolding front_run
  run_stop h = ⊎_elim (λ l. rw (drop-cons s i 0 l, h)) (λ g. rw (drop_of_length-le s g)) (lt_or_ge i (length s))

  -- the same, of the place behind the run
  pub run_len : p 0 ≡ false → p (get_or s i 0) ≡ true
      → i + length (front_run p (drop i s)) ≡ i + 1 + length (front_run p (drop (i + 1) s))
  run_len z h = omega (arith, ap length (run_more z h))

  pub run_end : p (get_or s i 0) ≡ false → i + length (front_run p (drop i s)) ≡ i
  run_end h = omega (arith, ap length (run_stop h))

-- what reads as a byte other than 0 stands before the end
pub held : (b : ℕ) (s : List ℕ) (i : ℕ) → eqb 0 b ≡ false → get_or s i 0 ≡ b → i < length s
held b s i z h = inside (λ (x : ℕ). eqb x b) s i z (eq-eqb (get_or s i 0) b h)

module _ (p : ℕ → Bool) where
  -- a run is no longer than its list
  pub run_short : (xs : List ℕ) → length (front_run p xs) ≤ length xs
  unfolding front_run
  run_short [] = zero-le
  run_short (x ∷ xs) =
      cond_ind (λ (l : List ℕ). length l ≤ length (x ∷ xs)) (p x) (x ∷ front_run p xs) []
      (λ _. suc-le-suc (run_short xs)) (λ _. zero-le)

  -- so the place behind it is not past the end
  pub run_room : (s : List ℕ) (i : ℕ) → i ≤ length s → i + length (front_run p (drop i s)) ≤ length s
  run_room s i h = omega (arith, run_short (drop i s), length-drop i s)

  -- all members of a run pass: it is its own run
  pub run_run : (xs : List ℕ) → front_run p (front_run p xs) ≡ front_run p xs
  unfolding front_run
  run_run [] = refl
  run_run (x ∷ xs) = cond_ind (λ (l : List ℕ). front_run p l ≡ l) (p x) (x ∷ front_run p xs) []
      (λ t. rw t (ap (λ (l : List ℕ). x ∷ l) (run_run xs))) (λ _. refl)

  -- where all members pass, the first does, and so do the others
  pub all_pass : (x : ℕ) (xs : List ℕ) → front_run p (x ∷ xs) ≡ x ∷ xs → (p x ≡ true) × (front_run p xs ≡ xs)
  unfolding front_run
  all_pass x xs e = ⊎_elim (λ t. (t, both t)) (λ t. absurd (none t)) (bool_cases (p x))
    where
      both : p x ≡ true → front_run p xs ≡ xs
      both t = let f : x ∷ front_run p xs ≡ x ∷ xs = rw t at e in cc

      none : p x ≡ false → ⊥
      none t = let f : [] ≡ x ∷ xs = rw t at e in let z : ◌≡◌ {A = ℕ} 0 1 = cc in omega arith

  -- behind a run none begins
  pub run_behind : (xs : List ℕ) → front_run p (drop (length (front_run p xs)) xs) ≡ []
  unfolding front_run
  run_behind [] = refl
  run_behind (x ∷ xs) = go (p x) refl (run_behind xs)
    where
      go : (b : Bool) → p x ≡ b → front_run p (drop (length (front_run p xs)) xs) ≡ []
          → front_run p (drop (length (cond b (x ∷ front_run p xs) [])) (x ∷ xs)) ≡ []
      go true e ih = ih
      go false e ih = rw e

  -- what stands apart is no part of it, where a space does not pass
  pub run_apart : p 32 ≡ false → (xs r : List ℕ) → EndOrSpace r → front_run p (xs ++ r) ≡ front_run p xs
  unfolding front_run
  run_apart z [] r a = ⊎_elim (λ e. rw e) (λ e. rw (e.1, z)) a
  run_apart z (x ∷ xs) r a = rw (run_apart z xs r a)

  -- and reads as what does not pass
  pub head_apart : p 0 ≡ false → p 32 ≡ false → (xs r : List ℕ) → EndOrSpace r
      → p (get_or (xs ++ r) 0 0) ≡ p (get_or xs 0 0)
  head_apart o z [] r a = ⊎_elim (λ e. rw e) (λ e. rw e.1 (z ∙ sym o)) a
  head_apart o z (x ∷ xs) r a = refl

-- ---- of a list of anything
module _ {A : Type 0} (p : A → Bool) where
  -- a run is the front of its list
  pub run_take : (xs : List A) → take (length (front_run p xs)) xs ≡ front_run p xs
  unfolding front_run
  run_take [] = refl
  run_take (x ∷ xs) = go (p x) (run_take xs)
    where
      go : (b : Bool) → take (length (front_run p xs)) xs ≡ front_run p xs
          → take (length (cond b (x ∷ front_run p xs) [])) (x ∷ xs) ≡ cond b (x ∷ front_run p xs) []
      go true ih = ap (λ (l : List A). x ∷ l) ih
      go false ih = refl

  -- so the list is its run and what stands behind it
  pub run_parts : (xs : List A) → front_run p xs ++ drop (length (front_run p xs)) xs ≡ xs
  run_parts xs =
      let n = length (front_run p xs) in
      ap (λ (l : List A). l ++ drop n xs) (sym (run_take xs)) ∙ take-append-drop n xs

  -- the run of a mapped list
  pub run_mapped : {B : Type 0} (f : B → A) (xs : List B)
      → front_run p (map f xs) ≡ map f (front_run (λ (b : B). p (f b)) xs)
  unfolding front_run
  run_mapped f [] = refl
  run_mapped f (x ∷ xs) = go (p (f x)) (run_mapped f xs)
    where
      go : (b : Bool) → front_run p (map f xs) ≡ map f (front_run (λ b. p (f b)) xs)
          → cond b (f x ∷ front_run p (map f xs)) [] ≡ map f (cond b (x ∷ front_run (λ b. p (f b)) xs) [])
      go true ih = ap (λ (l : List A). f x ∷ l) ih
      go false ih = refl
