-- One array after the other.
use Rattle.std.proofs.Common.{rules, arith}
use Rattle.std.proofs.lemmas.Grind.{common_steps}
use Rattle.model.specs.Plan.{roomy}
use Rattle.model.proofs.fitting.has_room.Goals as goal

pub returns-then-equated-ge-STATEMENTS : goal.returns-then-equated-ge-STATEMENTS
unfolding roomy
returns-then-equated-ge-STATEMENTS c = search rules

pub returns-else-equated-ge-STATEMENTS : goal.returns-else-equated-ge-STATEMENTS
unfolding roomy
returns-else-equated-ge-STATEMENTS c = grind (arith, common_steps)
