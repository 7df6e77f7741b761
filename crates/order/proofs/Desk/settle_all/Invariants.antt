-- One statement after the other is settled.
use Rattle.order.specs.Marks.{Begun}
use Rattle.order.proofs.Desk.settle_all.Given as goal

abbrev pub invariant-loop-i : goal.invariant-loop-i
invariant-loop-i g l =
    Begun l.table l.i l.self
