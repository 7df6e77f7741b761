-- Any two outcomes that the contract of the open entry allows are equal.
use mathlib.Core.Path.{◌≡◌, refl, sym, ap, ◌∙◌}
use mathlib.Core.List.{List}
use Prim.Native.Nat.{ℕ}
use Rattle.std.specs.Prelude.{cond, eqb, Result, Ok, Err}
use Rattle.laws.specs.Agree.{Agree5}
use Rattle.blocks.specs.declared.answer.Refusal.{Refusal}
use Rattle.blocks.specs.declared.answer.Refusal.TheVariants.{ManyDefinitions, Faults, Unfit}
use Rattle.model.specs.declared.answer.Counts.{Counts}
use Rattle.model.specs.Plan.{Plan, Lent, PlanOutcome}
use Rattle.model.specs.Contract.{plan_in, Plans}

-- the answer that has these numbers
answer_of : Plan → Result Counts Refusal
answer_of p =
    cond (eqb p.number 0) (Ok (record { definitions = p.definitions; units = p.units }))
    (cond (eqb p.number 6) (Err ManyDefinitions) (cond (eqb p.number 7) (Err (Faults p.count)) (Err Unfit)))

same_answer : (r : Result Counts Refusal) → answer_of (plan_in r) ≡ r
unfolding answer_of
same_answer (Ok c) = refl
same_answer (Err ManyDefinitions) = refl
same_answer (Err (Faults count)) = refl
same_answer (Err Unfit) = refl

pub plan : (lines bounds ulines ubounds kinds args used faults : List ℕ) (l : Lent)
    → Agree5 (Plans lines bounds ulines ubounds kinds args used faults l)
plan lines bounds ulines ubounds kinds args used faults l r s a b u v f g m n p q =
    let e = parts (p ∙ sym q) in (sym (same_answer r) ∙ ap answer_of e.0 ∙ same_answer s, e.1, e.2, e.3, e.4)
  where
    parts : {x y : PlanOutcome} → x ≡ y
        → (x.plan ≡ y.plan) × (x.args ≡ y.args) × (x.used ≡ y.used) × (x.faults ≡ y.faults)
        × (x.arrays ≡ y.arrays)
    parts e = (cc, cc, cc, cc, cc)
