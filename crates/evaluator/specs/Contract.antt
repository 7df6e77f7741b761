-- The contracts of evaluate, start and step: on program p, with values v and derivatives d lent, the answer r and what
-- the buffers then hold.
use Rattle.std.specs.Prelude.{ℕ, ◌≡◌, List, Float, Result, Ok, Err}
use Rattle.evaluator.specs.Evaluate.{run_outcome, evaluated, started, stepped}
use Rattle.evaluator.specs.Judge.{Answer, answer}
use Rattle.evaluator.specs.declared.Refusal.{Refusal}
use Rattle.evaluator.specs.declared.Refusal.TheVariants.{ShortRoom, WrongSize, BadRecord, Unfinished}

-- the number and the record number for each case of the answer
abbrev pub answer_in : Result (Unit {0}) Refusal → Answer
answer_in (Ok done) = answer 0 0
answer_in (Err ShortRoom) = answer 1 0
answer_in (Err WrongSize) = answer 2 0
answer_in (Err (BadRecord i)) = answer 3 i
answer_in (Err Unfinished) = answer 4 0

-- `number`, `place`: the two of a refusal
abbrev pub AnswersNumber : Refusal → ℕ → Type 0
AnswersNumber a r = r ≡ (answer_in (Err a)).number

abbrev pub AnswersPlace : Refusal → ℕ → Type 0
AnswersPlace a r = r ≡ (answer_in (Err a)).place

-- `evaluate`: the judge's answer; the buffers are as lent if that is a refusal, else what the run leaves
pub record Evaluated (p : List ℕ) (v d : List Float) (r : Result (Unit {0}) Refusal) (v' d' : List Float) : Type 0 where
  pub meets : run_outcome (answer_in r) v' d' ≡ evaluated p v d

-- `start`: the same answer; slot 0 is 0, and each state has its initial value
pub record Started (p : List ℕ) (v d : List Float) (r : Result (Unit {0}) Refusal) (v' d' : List Float) : Type 0 where
  pub meets : run_outcome (answer_in r) v' d' ≡ started p v d

-- `step`: the same answer; what evaluating leaves, each state and slot 0 moved by h
pub record Stepped (p : List ℕ) (h : Float) (v d : List Float) (r : Result (Unit {0}) Refusal) (v' d' : List Float) :
    Type 0 where
  pub meets : run_outcome (answer_in r) v' d' ≡ stepped p h v d
