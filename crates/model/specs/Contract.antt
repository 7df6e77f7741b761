-- What the open entry promises.
use Rattle.std.specs.Prelude.{ℕ, ◌≡◌, List, Result, Ok, Err}
use Rattle.blocks.specs.declared.answer.Refusal.{Refusal}
use Rattle.blocks.specs.declared.answer.Refusal.TheVariants.{ManyDefinitions, Faults, Unfit}
use Rattle.model.specs.declared.answer.Counts.{Counts}
use Rattle.model.specs.Plan.{Plan, Lent, plan_outcome, refused, planned}

-- the number, the count of faults and the two counts for each case of the answer
abbrev pub plan_in : Result Counts Refusal → Plan
plan_in (Ok c) = record { number = 0; count = 0; definitions = c.definitions; units = c.units }
plan_in (Err ManyDefinitions) = refused 6 0
plan_in (Err (Faults count)) = refused 7 count
plan_in (Err Unfit) = refused 9 0

-- `plan`: the answer and the final content of all that was lent are what is planned
abbrev pub Plans : List ℕ → List ℕ → List ℕ → List ℕ → List ℕ → List ℕ → List ℕ → List ℕ → Lent
    → Result Counts Refusal → List ℕ → List ℕ → List ℕ → Lent → Type 0
Plans lines bounds ulines ubounds kinds args used faults l p args' used' faults' l' =
    plan_outcome (plan_in p) args' used' faults' l' ≡ planned lines bounds ulines ubounds kinds args used faults l
