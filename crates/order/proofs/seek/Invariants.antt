-- The loop: the search from `from` on is the search from i on.
use Rattle.std.proofs.Common.{◌≡◌, ◌-◌, ◌≤◌}
use Rattle.order.specs.Greedy.{first}
use Rattle.order.specs.Marks.{flag}
use Rattle.order.proofs.seek.Given as goal

abbrev pub invariant-loop-i : goal.invariant-loop-i
invariant-loop-i l =
    (first (flag l.flags) (l.n - l.from) l.from ≡ first (flag l.flags) (l.n - l.i) l.i) × (l.i ≤ l.n)

abbrev pub decreases-loop-i : goal.decreases-loop-i
decreases-loop-i l =
    l.n - l.i
