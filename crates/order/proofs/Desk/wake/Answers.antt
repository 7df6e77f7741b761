-- One after the other of those that wait is settled; each time one less waits for the statement that is placed.
use mathlib.Core.Bool.{true, false}
use native.Mathlib.Omega.{arith}
use mathlib.Core.Path.{◌≡◌}
use lib.ListN.{length}
use Rattle.std.proofs.Common.{rules}
use Rattle.order.proofs.Settling.{waking_last, waking_one, waking_may, waking_ready, waking_wait}
use Rattle.order.proofs.Settling.{waking_less}
use Rattle.order.proofs.Desk.wake.Goals as goal

pub bounds-self-x : goal.bounds-self-x
bounds-self-x g c =
    let i = c.loop-waiting.invariant in
    let long : length c.loop-waiting.self.links ≡ g.row.N = search rules in
    omega (arith, (waking_one i c.loop-waiting-test.true).0, i.state.lists.room.links_size)

pub bounds-self-x-in-loop-waiting : goal.bounds-self-x-in-loop-waiting
bounds-self-x-in-loop-waiting g c =
    let i = c.loop-waiting.invariant in
    let long : length c.loop-waiting.self.waits ≡ g.row.N = search rules in
    omega (arith, (waking_one i c.loop-waiting-test.true).0, i.state.lists.room.waits_size)

pub settle-requires : goal.settle-requires
settle-requires g c =
    (search rules, waking_may c.loop-waiting.invariant c.loop-waiting-test.true)

pub bounds-self-x-then-settle : goal.bounds-self-x-then-settle
bounds-self-x-then-settle g c =
    let i = c.loop-waiting.invariant in
    let long : length c.loop-waiting.self.ready ≡ g.row.N = search rules in
    omega (arith, (waking_one i c.loop-waiting-test.true).0, i.state.known.flags_size)

pub loop-waiting-smaller-then-settle : goal.loop-waiting-smaller-then-settle
loop-waiting-smaller-then-settle g c =
    waking_less c.loop-waiting.invariant c.loop-waiting-test.true true (rw c.if-settle.true at c.settle.ensures)

pub loop-waiting-preserved-then-settle : goal.loop-waiting-preserved-then-settle
loop-waiting-preserved-then-settle g c =
    rw c.min-least_ready.ensures
    (waking_ready c.loop-waiting.invariant c.loop-waiting-test.true (rw c.if-settle.true at c.settle.ensures))

pub loop-waiting-smaller : goal.loop-waiting-smaller
loop-waiting-smaller g c =
    waking_less c.loop-waiting.invariant c.loop-waiting-test.true false (rw c.if-settle.false at c.settle.ensures)

pub loop-waiting-preserved : goal.loop-waiting-preserved
loop-waiting-preserved g c =
    waking_wait c.loop-waiting.invariant c.loop-waiting-test.true (rw c.if-settle.false at c.settle.ensures)

pub returns : goal.returns
returns g c =
    waking_last c.loop-waiting.invariant c.loop-waiting-test.false
