-- The front run of a list is as long as the library's prefix that passes.
use Rattle.std.proofs.Common.{◌≡◌, ℕ, zero, suc, ◌+◌, ◌-◌, ◌≤◌, min, Bool, true, false, cond, List, [], ◌∷◌, length}
use Rattle.std.proofs.Common.{take, drop, take_all, length-drop, refl, ◌∙◌, arith}
use lib.ListN.{drop_of_length-le}
use Rattle.std.specs.List.{prefix_len}
use Rattle.std.proofs.lemmas.List.Folds.{length-prefix_len}
use Rattle.laws.specs.Runs.{front_run}

run_long : (p : ℕ → Bool) (xs : List ℕ) → prefix_len p xs ≡ length (front_run p xs)
unfolding front_run
run_long p [] = refl
run_long p (x ∷ xs) = go (p x) (run_long p xs)
  where
    go : (b : Bool) → prefix_len p xs ≡ length (front_run p xs)
        → cond b (1 + prefix_len p xs) 0 ≡ length (cond b (x ∷ front_run p xs) [])
    go true e = rw e (omega arith)
    go false e = refl

-- so it has as many members as `take_while` gives
pub run_taken : (p : ℕ → Bool) (xs : List ℕ) → length (take (prefix_len p xs) xs) ≡ length (front_run p xs)
run_taken p xs = length-prefix_len p xs ∙ run_long p xs

-- past the end none begins
pub run_past : (p : ℕ → Bool) (xs : List ℕ) (i : ℕ) → length xs ≤ i → i ≡ i + length (front_run p (drop i xs))
unfolding front_run
run_past p xs i h = rw (drop_of_length-le xs h) (omega arith)

-- the run of a front part is that of the list, up to the part's end
pub run_front : (p : ℕ → Bool) (n : ℕ) (xs : List ℕ)
    → length (front_run p (take n xs)) ≡ min n (length (front_run p xs))
unfolding front_run
run_front p zero xs = omega arith
run_front p (suc n) [] = omega arith
run_front p (suc n) (x ∷ xs) = go (p x) (run_front p n xs)
  where
    go : (b : Bool) → length (front_run p (take n xs)) ≡ min n (length (front_run p xs))
        → length (cond b (x ∷ front_run p (take n xs)) []) ≡ min (suc n) (length (cond b (x ∷ front_run p xs) []))
    go true e = omega arith
    go false e = omega arith

-- what stands behind a place is all of it
pub all_behind : (xs : List ℕ) (i : ℕ) → take (length xs - i) (drop i xs) ≡ drop i xs
all_behind xs i = take_all (length xs - i) (drop i xs) (omega (arith, length-drop i xs))
