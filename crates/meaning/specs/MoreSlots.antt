-- More slots: what n slots accept is accepted with m of them, and does the same in the first n places.
use Rattle.std.specs.Prelude.{ℕ, ◌≤◌, ◌≡◌, List, length, take, drop, Float}
use Rattle.evaluator.specs.Judge.{answer}
use Rattle.evaluator.specs.Evaluate.{RunOutcome, run_outcome, refusal_within, evaluated_within, started_within}
use Rattle.evaluator.specs.Evaluate.{stepped_within}
use Rattle.meaning.specs.RunsAlike.{walked_within}

-- v and d are lent with n slots, w and e with m: program p is not refused with n; w and e have a place for each of m
-- slots; the first n places hold the same
pub record LentAlike (n m : ℕ) (p : List ℕ) (v d w e : List Float) : Type 0 where
  pub accepted : (refusal_within n p v d).number ≡ 0
  pub values_room : m ≤ length w
  pub derivs_room : m ≤ length e
  pub values : take n w ≡ take n v
  pub derivs : take n e ≡ take n d

-- of the outcome o with n slots and q with m: the same answer, the same in the first n places, and from place n on q
-- leaves w and e as they were lent
pub record SameFront (n : ℕ) (w e : List Float) (o q : RunOutcome) : Type 0 where
  pub answer : q.answer ≡ o.answer
  pub values : take n q.values ≡ take n o.values
  pub derivs : take n q.derivs ≡ take n o.derivs
  pub values_stay : drop n q.values ≡ drop n w
  pub derivs_stay : drop n q.derivs ≡ drop n e

-- MORE SLOTS, of all bytes as a program
pub record MoreSlots (n m : ℕ) (p : List ℕ) : Type 0 where
  -- what n slots accept, from whatever was lent, m accept, from whatever is lent that has room for them
  pub accepted : (v d w e : List Float) → (refusal_within n p v d).number ≡ 0 → m ≤ length w → m ≤ length e
      → refusal_within m p w e ≡ answer 0 0
  -- evaluating, starting and a step of h
  pub evaluates : (v d w e : List Float) → LentAlike n m p v d w e
      → SameFront n w e (evaluated_within n p v d) (evaluated_within m p w e)
  pub starts : (v d w e : List Float) → LentAlike n m p v d w e
      → SameFront n w e (started_within n p v d) (started_within m p w e)
  pub steps : (h : Float) (v d w e : List Float) → LentAlike n m p v d w e
      → SameFront n w e (stepped_within n p h v d) (stepped_within m p h w e)
  -- any number of steps, each of its own h, and such from a start
  pub walks : (hs : List Float) (v d w e : List Float) → LentAlike n m p v d w e
      → SameFront n w e (walked_within n p hs (run_outcome (answer 0 0) v d))
      (walked_within m p hs (run_outcome (answer 0 0) w e))
  pub start_walks : (hs : List Float) (v d w e : List Float) → LentAlike n m p v d w e
      → SameFront n w e (walked_within n p hs (started_within n p v d)) (walked_within m p hs (started_within m p w e))
