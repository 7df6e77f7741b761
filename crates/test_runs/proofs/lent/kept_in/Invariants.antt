-- No more are counted than are passed.
use Rattle.std.proofs.Common.{◌≤◌}
use Rattle.test_runs.proofs.lent.kept_in.Given as goal

abbrev pub invariant-loop-value : goal.invariant-loop-value
invariant-loop-value l = l.n ≤ l.value-index
