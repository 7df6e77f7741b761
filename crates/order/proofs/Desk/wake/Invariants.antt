-- One after the other of those that wait is settled; each time one less waits for the statement that is placed.
use Rattle.laws.specs.Counts.{count}
use Rattle.order.proofs.Settling.{Waking}
use Rattle.order.proofs.Desk.wake.Given as goal

abbrev pub invariant-loop-waiting : goal.invariant-loop-waiting
invariant-loop-waiting g l =
    Waking l.table l.j l.fn.self.marks l.self l.waiting l.least_ready

abbrev pub decreases-loop-waiting : goal.decreases-loop-waiting
decreases-loop-waiting g l =
    count l.j l.self.waits
