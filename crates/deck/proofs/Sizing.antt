-- How many statements and lines there can be.
use Prim.Native.Nat.{ℕ, suc, ◌+◌, ◌≤◌}
use mathlib.Core.Bool.{Bool, true, false, cond}
use mathlib.Core.List.{List, [], ◌∷◌, ◌++◌}
use native.Mathlib.Omega.{arith}
use lib.Dec.{eqb}
use lib.ListN.{length}
use Rattle.deck.specs.Lines.{Line, cut, lines_of, passed}
use Rattle.deck.specs.Reading.{State, fresh, inside, leaves_open, goes_on, just_closed, after, ended, left, reading}

-- ---- there are no more statements than lines, and no more lines than bytes

-- the count of open statements
abbrev owed : State → ℕ
owed fresh = 0
owed (inside f ls) = 1

-- a reading has the statement that is open, and at most one for each line
reading_few : (s : State) (n : ℕ) (ls : List Line) → length (reading s n ls) ≤ owed s + length ls
unfolding reading left after ended
reading_few fresh n [] = omega arith
reading_few (inside f ls) n [] = omega arith
reading_few fresh n (l ∷ ls) = go (passed l) (leaves_open l) (λ s. reading_few s (suc n) ls)
  where
    go : (p o : Bool) → ((s : State) → length (reading s (suc n) ls) ≤ owed s + length ls)
        → length (cond p [] (just_closed o n (l ∷ [])) ++ reading (cond p fresh (goes_on o n (l ∷ []))) (suc n) ls)
        ≤ 0 + suc (length ls)
    go true o ih = omega (arith, ih fresh)
    go false true ih = omega (arith, ih (inside n (l ∷ [])))
    go false false ih = omega (arith, ih fresh)
reading_few (inside f ms) n (l ∷ ls) = go (leaves_open l) (λ s. reading_few s (suc n) ls)
  where
    go : (o : Bool) → ((s : State) → length (reading s (suc n) ls) ≤ owed s + length ls)
        → length (just_closed o f (ms ++ (l ∷ [])) ++ reading (goes_on o f (ms ++ (l ∷ []))) (suc n) ls)
        ≤ 1 + suc (length ls)
    go true ih = omega (arith, ih (inside f (ms ++ (l ∷ []))))
    go false ih = omega (arith, ih fresh)

pub statements_le : (ls : List Line) → length (reading fresh 1 ls) ≤ length ls
statements_le ls = omega (arith, reading_few fresh 1 ls)

pub lines_le : (t : List ℕ) → length (lines_of t) ≤ length t
unfolding lines_of
lines_le [] = omega arith
lines_le (b ∷ t) = go (eqb b 10) (lines_of t) (lines_le t)
  where
    go : (f : Bool) (ls : List Line) → length ls ≤ length t → length (cut f b ls) ≤ suc (length t)
    go true ls h = omega arith
    go false [] h = omega arith
    go false (l ∷ ls) h = omega arith
