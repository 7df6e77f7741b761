-- The place that the cursor moves to says whether the statement is ready, or what it waits for.
use mathlib.Core.Path.{sym, ◌∙◌}
use Prim.Native.Nat.{◌+◌, ◌-◌}
use native.Mathlib.Omega.{arith}
use lib.ListN.{get_or}
use Rattle.order.specs.Marks.{open_at}
use Rattle.order.proofs.Searches.{before_some, before_none, first_from}
use Rattle.order.proofs.Flagging.{settled_ready, settled_wait}
use Rattle.order.proofs.Desk.settle.Goals as goal

pub returns-in_default : goal.returns-in_default
returns-in_default g c =
    let s = c.args in
    settled_ready s.table.now s.self.now s.i c.requires (before_none _ (sym c.in_default.is ∙ c.advance.ensures))

pub overflow_sub-self : goal.overflow_sub-self
overflow_sub-self g c =
    let s = c.args in
    let t = s.table.now in
    let from = get_or t.starts.now s.i 0 + get_or s.self.now.cursors s.i 0 in
    let k = before_some _ (sym c.in-Some.is ∙ c.advance.ensures) in
    omega (arith, k.0, first_from (open_at t.used.now s.self.now.marks) (get_or t.starts.now (s.i + 1) 0 - from) from)

pub returns : goal.returns
returns g c =
    let s = c.args in
    let k = before_some _ (sym c.in-Some.is ∙ c.advance.ensures) in
    rw c.attach.ensures (settled_wait s.table.now s.self.now s.i c.requires k.1 k.0)
