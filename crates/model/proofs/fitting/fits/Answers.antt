-- The tests one after the other.
use Rattle.std.proofs.Common.{rules, arith}
use Rattle.std.proofs.lemmas.Grind.{common_steps}
use Rattle.model.specs.Plan.{fit}
use Rattle.model.proofs.fitting.fits.Goals as goal

pub returns-then-is_in_turn : goal.returns-then-is_in_turn
unfolding fit
returns-then-is_in_turn c = search rules

pub returns-else-is_in_turn : goal.returns-else-is_in_turn
unfolding fit
returns-else-is_in_turn c = grind (arith, common_steps)
