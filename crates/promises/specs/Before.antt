-- Programs from before request 9, as those see it who call the entries now.
use Rattle.std.specs.Prelude.{ℕ, List, Result, Float}
use Rattle.limits.specs.Before.{slots_before}
use Rattle.evaluator.specs.declared.Refusal.{Refusal}
use Rattle.evaluator.specs.Judge.{answer}
use Rattle.evaluator.specs.Evaluate.{run_outcome, evaluated_within, started_within, stepped_within}
use Rattle.evaluator.specs.Contract.{answer_in, Evaluated, Started, Stepped}
use Rattle.floesedge.specs.declared.CAnswer.{CAnswer}
use Rattle.floesedge.specs.Contract.{EvaluatesFixed, StartsFixed, StepsFixed}
use Rattle.meaning.specs.MoreSlots.{SameFront}

-- with v and d lent before and w and e lent now: whatever outcome the contracts allow, it is that of before
module _ (p : List ℕ) (v d w e : List Float) where
  pub record AsBefore : Type 0 where
    pub evaluates : (r : Result (Unit {0}) Refusal) (w' e' : List Float) → Evaluated p w e r w' e'
        → SameFront slots_before w e (evaluated_within slots_before p v d) (run_outcome (answer_in r) w' e')
    pub starts : (r : Result (Unit {0}) Refusal) (w' e' : List Float) → Started p w e r w' e'
        → SameFront slots_before w e (started_within slots_before p v d) (run_outcome (answer_in r) w' e')
    pub steps : (h : Float) (r : Result (Unit {0}) Refusal) (w' e' : List Float) → Stepped p h w e r w' e'
        → SameFront slots_before w e (stepped_within slots_before p h v d) (run_outcome (answer_in r) w' e')

  -- the same at the boundary to other languages
  pub record LinkedAsBefore : Type 0 where
    pub evaluates : (r : CAnswer) (w' e' : List Float) → EvaluatesFixed p w e r w' e'
        → SameFront slots_before w e (evaluated_within slots_before p v d)
        (run_outcome (answer r.number r.record) w' e')
    pub starts : (r : CAnswer) (w' e' : List Float) → StartsFixed p w e r w' e'
        → SameFront slots_before w e (started_within slots_before p v d)
        (run_outcome (answer r.number r.record) w' e')
    pub steps : (h : Float) (r : CAnswer) (w' e' : List Float) → StepsFixed p h w e r w' e'
        → SameFront slots_before w e (stepped_within slots_before p h v d)
        (run_outcome (answer r.number r.record) w' e')
