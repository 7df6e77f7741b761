-- It uses nothing, or it waits for the first that it uses.
use Rattle.order.proofs.Flagging.{start_ready, start_wait}
use Rattle.order.proofs.Desk.settle_first.Goals as goal

pub returns-then-table-i : goal.returns-then-table-i
returns-then-table-i g c =
    let s = c.args in
    start_ready s.table.now s.self.now s.i c.requires.0 c.requires.1 c.if-table-i.true

pub returns : goal.returns
returns g c =
    let s = c.args in
    rw c.attach.ensures (start_wait s.table.now s.self.now s.i c.requires.0 c.requires.1 c.if-table-i.false)
