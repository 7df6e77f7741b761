-- The tests one after the other.
use Rattle.std.proofs.Common.{arith}
use Rattle.std.proofs.lemmas.Bool.Decides.{nat_tests}
use Rattle.blocks.specs.Grouped.{group_fit}
use Rattle.blocks.proofs.fitting.fits.Goals as goal

pub returns-then-has_room : goal.returns-then-has_room
unfolding group_fit
returns-then-has_room c = grind (arith, nat_tests)

pub returns-else-has_room : goal.returns-else-has_room
unfolding group_fit
returns-else-has_room c = grind (arith, nat_tests)
