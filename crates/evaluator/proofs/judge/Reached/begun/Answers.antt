use mathlib.Core.Path.{refl}
use Rattle.laws.specs.Counts.{count}
use Rattle.evaluator.proofs.judge.Reached.begun.Goals as goal

pub invariant_of-result-clause-owes : goal.invariant_of-result-clause-owes
unfolding count
invariant_of-result-clause-owes c = refl
