-- Any two outcomes that the contract of an open entry allows are equal.
use Prim.Native.Nat.{ℕ}
use mathlib.Core.Path.{◌≡◌, sym, ap, ap₂, ◌∙◌}
use mathlib.Core.List.{List}
use lib.Ieee.{Float}
use Rattle.laws.specs.Agree.{Agree3}
use Rattle.evaluator.specs.Evaluate.{RunOutcome, run_outcome}
use Rattle.evaluator.specs.Judge.{answer}
use Rattle.translator.specs.Verdict.{Translation}
use Rattle.translator.specs.Names.{NamesGiven}
use Rattle.floesedge.specs.declared.CAnswer.{CAnswer}
use Rattle.floesedge.specs.Contract.{TranslatesFixed, NamesFixed, EvaluatesFixed, StartsFixed, StepsFixed}

-- a verdict is its two numbers
pub floesedge_translate : (text f p : List ℕ) → Agree3 (TranslatesFixed text f p)
floesedge_translate text f p r s a b c d x y =
    let h = x ∙ sym y in
    let n : r.number ≡ s.number = ap (λ (o : Translation). o.number) h in
    let k : r.count ≡ s.count = ap (λ (o : Translation). o.count) h in (
      ap₂ (λ (i j : ℕ). record { number = i; count = j }) n k,
      ap (λ (o : Translation). o.faults) h,
      ap (λ (o : Translation). o.program) h,
    )

pub floesedge_names : (text f o : List ℕ) → Agree3 (NamesFixed text f o)
floesedge_names text f o r s a b c d x y =
    let h = x ∙ sym y in
    let n : r.number ≡ s.number = ap (λ (g : NamesGiven). g.number) h in
    let k : r.count ≡ s.count = ap (λ (g : NamesGiven). g.count) h in (
      ap₂ (λ (i j : ℕ). record { number = i; count = j }) n k,
      ap (λ (g : NamesGiven). g.faults) h,
      ap (λ (g : NamesGiven). g.roster) h,
    )

-- and so is an answer
runs : (r s : CAnswer) (a b c d : List Float)
    → run_outcome (answer r.number r.record) a c ≡ run_outcome (answer s.number s.record) b d
    → (r ≡ s) × (a ≡ b) × (c ≡ d)
runs r s a b c d h =
    let n : r.number ≡ s.number = ap (λ (o : RunOutcome). o.answer.number) h in
    let p : r.record ≡ s.record = ap (λ (o : RunOutcome). o.answer.place) h in (
      ap₂ (λ (x y : ℕ). record { number = x; «record» = y }) n p,
      ap (λ (o : RunOutcome). o.values) h,
      ap (λ (o : RunOutcome). o.derivs) h,
    )

pub floesedge_evaluate : (p : List ℕ) (v d : List Float) → Agree3 (EvaluatesFixed p v d)
floesedge_evaluate p v d r s a b c e x y = runs r s a b c e (x ∙ sym y)

pub floesedge_start : (p : List ℕ) (v d : List Float) → Agree3 (StartsFixed p v d)
floesedge_start p v d r s a b c e x y = runs r s a b c e (x ∙ sym y)

pub floesedge_step : (p : List ℕ) (h : Float) (v d : List Float) → Agree3 (StepsFixed p h v d)
floesedge_step p h v d r s a b c e x y = runs r s a b c e (x ∙ sym y)
