-- One array after the other.
use Rattle.std.proofs.Common.{arith}
use Rattle.std.proofs.lemmas.Bool.Decides.{nat_tests}
use Rattle.blocks.specs.Grouped.{group_roomy}
use Rattle.blocks.proofs.fitting.has_room.Goals as goal

pub returns-then-n-ubounds : goal.returns-then-n-ubounds
unfolding group_roomy
returns-then-n-ubounds c = grind (arith, nat_tests)

pub returns-else-n-ubounds : goal.returns-else-n-ubounds
unfolding group_roomy
returns-else-n-ubounds c = grind (arith, nat_tests)
