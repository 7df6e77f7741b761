-- The loop counts on what each kind adds.
use Prim.Native.Nat.{◌+◌, ◌≤◌}
use mathlib.Core.Path.{◌≡◌}
use lib.ListN.{drop}
use Rattle.program.specs.Written.{record_count}
use Rattle.program.proofs.count_records.Given as goal

abbrev pub invariant-loop-kind : goal.invariant-loop-kind
invariant-loop-kind l =
    (l.n ≤ l.kind-index) × (l.n + record_count (drop l.kind-index l.kinds) ≡ record_count l.kinds)
