-- The three tests one after the other.
use Rattle.std.proofs.Common.{arith}
use Rattle.std.proofs.lemmas.Bool.Decides.{nat_tests}
use Rattle.blocks.specs.Grouped.{in_turn}
use Rattle.blocks.proofs.fitting.is_in_turn.Goals as goal

pub returns-then-short_at-size : goal.returns-then-short_at-size
unfolding in_turn
returns-then-short_at-size c = grind (arith, nat_tests)

pub returns-else-short_at-size : goal.returns-else-short_at-size
unfolding in_turn
returns-else-short_at-size c = grind (arith, nat_tests)
