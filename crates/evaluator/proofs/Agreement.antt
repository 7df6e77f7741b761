-- Any two outcomes that the contract of an open entry allows are equal.
use Prim.Native.Nat.{ℕ}
use Rattle.std.specs.Prelude.{cond, eqb, Result, Ok, Err}
use mathlib.Core.Path.{◌≡◌, refl, sym, ap, ◌∙◌}
use mathlib.Core.List.{List}
use lib.Ieee.{Float}
use Rattle.laws.specs.Agree.{Agree, Agree3}
use Rattle.evaluator.specs.Judge.{Answer}
use Rattle.evaluator.specs.Evaluate.{RunOutcome, run_outcome}
use Rattle.evaluator.specs.declared.Refusal.{Refusal}
use Rattle.evaluator.specs.declared.Refusal.TheVariants.{ShortRoom, WrongSize, BadRecord, Unfinished}
use Rattle.evaluator.specs.Contract.{answer_in, AnswersNumber, AnswersPlace, Evaluated, Started, Stepped}

-- the case that a number and a record number stand for
abbrev back : Answer → Result (Unit {0}) Refusal
back a =
    cond (eqb a.number 0) (Ok tt)
    (cond (eqb a.number 1) (Err ShortRoom)
    (cond (eqb a.number 2) (Err WrongSize) (cond (eqb a.number 3) (Err (BadRecord a.place)) (Err Unfinished))))

there : (r : Result (Unit {0}) Refusal) → back (answer_in r) ≡ r
there (Ok done) = refl
there (Err ShortRoom) = refl
there (Err WrongSize) = refl
there (Err (BadRecord i)) = refl
there (Err Unfinished) = refl

-- an outcome is the answer and both buffers
runs : (r s : Result (Unit {0}) Refusal) (v w d e : List Float)
    → run_outcome (answer_in r) v d ≡ run_outcome (answer_in s) w e → (r ≡ s) × (v ≡ w) × (d ≡ e)
runs r s v w d e h = (
  sym (there r) ∙ ap (λ (o : RunOutcome). back o.answer) h ∙ there s,
  ap (λ (o : RunOutcome). o.values) h,
  ap (λ (o : RunOutcome). o.derivs) h,
)

pub number : (a : Refusal) → Agree (AnswersNumber a)
number a r s p q = p ∙ sym q

pub place : (a : Refusal) → Agree (AnswersPlace a)
place a r s p q = p ∙ sym q

pub evaluate : (p : List ℕ) (v d : List Float) → Agree3 (Evaluated p v d)
evaluate p v d r s a b c e x y = runs r s a b c e (x.meets ∙ sym y.meets)

pub start : (p : List ℕ) (v d : List Float) → Agree3 (Started p v d)
start p v d r s a b c e x y = runs r s a b c e (x.meets ∙ sym y.meets)

pub step : (p : List ℕ) (h : Float) (v d : List Float) → Agree3 (Stepped p h v d)
step p h v d r s a b c e x y = runs r s a b c e (x.meets ∙ sym y.meets)
