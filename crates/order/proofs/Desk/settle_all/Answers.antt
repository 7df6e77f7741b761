-- One statement after the other is settled.
use Rattle.order.proofs.Settling.{begun_none, begun_ready, begun_wait}
use Rattle.order.proofs.Desk.settle_all.Goals as goal
use Rattle.order.proofs.Desk.settle_all.Goals.{then-settle_first, else-settle_first}

pub loop-i-init : goal.loop-i-init
loop-i-init g c =
    rw c.requires.1 (begun_none c.args.table.now c.requires.0)

pub loop-i-preserved : goal.loop-i-preserved
loop-i-preserved g c =
    let w = c.settle_first.ensures in
    elim c.if-settle_first.branch [
      | then-settle_first b ↦
          rw b.self-is (begun_ready c.loop-i.invariant c.loop-i-test.true (rw b.if-settle_first.true at w))
      | else-settle_first b ↦
          rw b.self-is (begun_wait c.loop-i.invariant c.loop-i-test.true (rw b.if-settle_first.false at w))
    ]
