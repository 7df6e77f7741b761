-- Row by row.
use Rattle.std.proofs.Common.{length, ◌-◌}
use Rattle.test_texts.proofs.wanted.refused.Given as goal

abbrev pub decreases-loop-at : goal.decreases-loop-at
decreases-loop-at g l = length l.table - l.at
