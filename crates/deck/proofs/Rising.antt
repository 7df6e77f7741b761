-- The first lines of a text's statements rise, and are among the lines that were read.
use Prim.Native.Nat.{ℕ, suc, ◌+◌, ◌≤◌, ◌<◌}
use mathlib.Core.Path.{◌≡◌}
use mathlib.Core.Bool.{Bool, true, false, cond}
use mathlib.Core.List.{List, [], ◌∷◌, ◌++◌, map}
use native.Mathlib.Omega.{arith}
use native.Mathlib.Nat.{add-zero}
use lib.ListN.{length}
use Rattle.laws.specs.Every.{Every}
use Rattle.laws.proofs.Every.{every_append, every_map}
use Rattle.laws.specs.Rising.{Rising}
use Rattle.laws.proofs.Rising.{rising_le}
use Rattle.deck.specs.Lines.{Line, passed}
use Rattle.deck.specs.Reading.{Statement, State, fresh, inside, leaves_open, goes_on, just_closed, after, ended}
use Rattle.deck.specs.Reading.{left, reading, closed_in, state_after}

-- their first lines
abbrev pub firsts : List Statement → List ℕ
firsts ss = map (λ (s : Statement). s.first) ss

-- the least number that a statement from here on can have: that of the next line, or of the statement that is open
abbrev least : State → ℕ → ℕ
least fresh n = n
least (inside f cs) n = f

-- a statement that is open starts before line n
abbrev pub Before : State → ℕ → Type 0
Before fresh n = Unit {0}
Before (inside f cs) n = f < n

-- the first lines of a reading rise from there
pub reading_rises : (s : State) (n : ℕ) (ls : List Line) → Before s n → Rising (least s n) (firsts (reading s n ls))
unfolding reading left after ended
reading_rises fresh n [] b = tt
reading_rises (inside f cs) n [] b = (omega arith, tt)
reading_rises fresh n (l ∷ ls) b = go (passed l) (leaves_open l) (λ s b. reading_rises s (suc n) ls b)
  where
    go : (p d : Bool) → ((s : State) → Before s (suc n) → Rising (least s (suc n)) (firsts (reading s (suc n) ls)))
        → Rising n
        (firsts (cond p [] (just_closed d n (l ∷ [])) ++ reading (cond p fresh (goes_on d n (l ∷ []))) (suc n) ls))
    go true d ih = rising_le (suc n) n (firsts (reading fresh (suc n) ls)) (ih fresh tt) (omega arith)
    go false true ih = ih (inside n (l ∷ [])) (omega arith)
    go false false ih = (omega arith, ih fresh tt)
reading_rises (inside f cs) n (l ∷ ls) b = go (leaves_open l) (λ s b. reading_rises s (suc n) ls b)
  where
    go : (d : Bool) → ((s : State) → Before s (suc n) → Rising (least s (suc n)) (firsts (reading s (suc n) ls)))
        → Rising f (firsts (just_closed d f (cs ++ (l ∷ [])) ++ reading (goes_on d f (cs ++ (l ∷ []))) (suc n) ls))
    go true ih = ih (inside f (cs ++ (l ∷ []))) (omega arith)
    go false ih =
        (omega arith, rising_le (suc n) (suc f) (firsts (reading fresh (suc n) ls)) (ih fresh tt) (omega arith))

-- ---- the lines that were read are those from n on

-- rising numbers are at least the bound
firsts_from : (n : ℕ) (ss : List Statement) → Rising n (firsts ss) → Every (λ (s : Statement). n ≤ s.first) ss
firsts_from n [] r = tt
firsts_from n (s ∷ ss) r =
    (r.0, firsts_from n ss (rising_le (suc s.first) n (firsts ss) r.1 (omega (arith, r.0))))

-- statements of a fresh reading start on its first line at the earliest
pub reading_from : (n : ℕ) (ls : List Line) → Every (λ (s : Statement). n ≤ s.first) (reading fresh n ls)
reading_from n ls = firsts_from n (reading fresh n ls) (reading_rises fresh n ls tt)

-- a statement that line n ends starts there at the latest
ended_before : (s : State) (n : ℕ) (l : Line) → Before s n → Every (λ (t : Statement). t.first < suc n) (ended s n l)
unfolding ended
ended_before fresh n l b = go (passed l) (leaves_open l)
  where
    go : (p d : Bool) → Every (λ (t : Statement). t.first < suc n) (cond p [] (just_closed d n (l ∷ [])))
    go true d = tt
    go false true = tt
    go false false = (omega arith, tt)
ended_before (inside f cs) n l b = go (leaves_open l)
  where
    go : (d : Bool) → Every (λ (t : Statement). t.first < suc n) (just_closed d f (cs ++ (l ∷ [])))
    go true = tt
    go false = (omega arith, tt)

-- so does one that is open behind it
after_before : (s : State) (n : ℕ) (l : Line) → Before s n → Before (after s n l) (suc n)
unfolding after
after_before fresh n l b = go (passed l) (leaves_open l)
  where
    go : (p d : Bool) → Before (cond p fresh (goes_on d n (l ∷ []))) (suc n)
    go true d = tt
    go false true = omega arith
    go false false = tt
after_before (inside f cs) n l b = go (leaves_open l)
  where
    go : (d : Bool) → Before (goes_on d f (cs ++ (l ∷ []))) (suc n)
    go true = omega arith
    go false = tt

-- and one that is open behind all of these
pub state_before : (s : State) (n : ℕ) (ls : List Line) → Before s n → Before (state_after s n ls) (n + length ls)
unfolding state_after
state_before s n [] b = rw add-zero b
state_before s n (l ∷ ls) b =
    let number : suc n + length ls ≡ n + suc (length ls) = omega arith in
    rw (← number) (state_before (after s n l) (suc n) ls (after_before s n l b))

-- statements that lines end start on the last of these at the latest
closed_before : (s : State) (n : ℕ) (ls : List Line) → Before s n
    → Every (λ (t : Statement). t.first < n + length ls) (closed_in s n ls)
unfolding closed_in
closed_before s n [] b = tt
closed_before s n (l ∷ ls) b =
    every_append (λ (t : Statement). t.first < n + length (l ∷ ls)) (ended s n l) (closed_in (after s n l) (suc n) ls)
    (every_map _ _ (ended s n l) (λ t h. omega arith) (ended_before s n l b))
    (every_map _ _ (closed_in (after s n l) (suc n) ls) (λ t h. omega arith)
    (closed_before (after s n l) (suc n) ls (after_before s n l b)))

-- so those that a text's first lines end start on one of these
pub closed_among : (ls : List Line) → Every (λ (s : Statement). s.first ≤ length ls) (closed_in fresh 1 ls)
closed_among ls = every_map _ _ (closed_in fresh 1 ls) (λ t h. omega arith) (closed_before fresh 1 ls tt)
