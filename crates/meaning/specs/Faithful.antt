-- What holds of every text that is translated, and of the program that is handed on.
use Rattle.std.specs.Prelude.{ℕ, ◌*◌, ◌≤◌, ◌≡◌, List, Result, length, take, Float}
use Rattle.limits.specs.Limits.{slots, record_bytes}
use Rattle.model.specs.Text.{text_units}
use Rattle.records.specs.Record.{Rec, program_bytes}
use Rattle.evaluator.specs.declared.Refusal.{Refusal}
use Rattle.evaluator.specs.Judge.{answer}
use Rattle.evaluator.specs.Evaluate.{refusal, RunOutcome, run_outcome}
use Rattle.evaluator.specs.Contract.{answer_in, Evaluated, Started, Stepped}
use Rattle.meaning.specs.Statements.{Solution, Beginning, Stepping}
use Rattle.meaning.specs.Recorded.{NothingLost}

-- the lent program buffer, cut to its written bytes: as many records as the count says
abbrev pub handed_on : ℕ → List ℕ → List ℕ
handed_on count lent = take (count * record_bytes) lent

-- evaluating, with v and d lent: no refusal, and the buffers then hold the solution of the text's units
pub record Evaluates (text : List ℕ) (v d : List Float) (o : RunOutcome) : Type 0 where
  pub accepted : o.answer ≡ answer 0 0
  pub solved : Solution (text_units text) v d o.values o.derivs

-- starting, with v and d lent: no refusal, the values are the beginning's, and the derivatives stay
pub record Starts (text : List ℕ) (v d : List Float) (o : RunOutcome) : Type 0 where
  pub accepted : o.answer ≡ answer 0 0
  pub begun : Beginning (text_units text) v o.values
  pub kept : o.derivs ≡ d

-- a step of h, with v and d lent: no refusal; the solution u, and then the step from it
pub record Steps (text : List ℕ) (h : Float) (v d : List Float) (o : RunOutcome) : Type 0 where
  pub accepted : o.answer ≡ answer 0 0
  pub u : List Float
  pub solved : Solution (text_units text) v d u o.derivs
  pub moved : Stepping (text_units text) h u o.derivs o.values

-- two buffers have a place for each slot
pub record HasSlots (v d : List Float) : Type 0 where
  pub values : slots ≤ length v
  pub derivs : slots ≤ length d

-- the evaluator accepts a program: with such buffers lent it is not refused
abbrev pub Accepted : List ℕ → Type 0
Accepted program = (v d : List Float) → HasSlots v d → refusal program v d ≡ answer 0 0

-- OF A TRANSLATED TEXT, as those see it who call the entries: the program that was handed on is accepted, evaluates,
-- starts and steps; there is one solution; and nothing is lost
pub record Faithful (text program : List ℕ) : Type 0 where
  pub accepted : Accepted program
  pub evaluates : (v d : List Float) → HasSlots v d → (r : Result (Unit {0}) Refusal) (v' d' : List Float)
      → Evaluated program v d r v' d'
      → Evaluates text v d (run_outcome (answer_in r) v' d')
  pub starts : (v d : List Float) → HasSlots v d → (r : Result (Unit {0}) Refusal) (v' d' : List Float)
      → Started program v d r v' d'
      → Starts text v d (run_outcome (answer_in r) v' d')
  pub steps : (h : Float) (v d : List Float) → HasSlots v d → (r : Result (Unit {0}) Refusal) (v' d' : List Float)
      → Stepped program h v d r v' d'
      → Steps text h v d (run_outcome (answer_in r) v' d')
  pub one_solution : (v d v₁ d₁ v₂ d₂ : List Float) → Solution (text_units text) v d v₁ d₁
      → Solution (text_units text) v d v₂ d₂
      → (v₁ ≡ v₂) × (d₁ ≡ d₂)
  pub records : List Rec
  pub written : program ≡ program_bytes records
  pub nothing_lost : NothingLost text records
