-- The loop: the search from `from` on is the search from k on.
use Rattle.std.proofs.Common.{◌≡◌, ◌-◌}
use Rattle.order.specs.Greedy.{first}
use Rattle.order.specs.Marks.{open_at}
use Rattle.order.proofs.Desk.advance.Given as goal

abbrev pub invariant-loop-k : goal.invariant-loop-k
invariant-loop-k g l =
    let f = open_at l.table.used.now l.self.marks in first f (l.end - l.from) l.from ≡ first f (l.end - l.k) l.k
