-- The faults of the statements before statement j are written.
use mathlib.Core.Path.{refl}
use native.Mathlib.Omega.{arith}
use lib.ListN.{length}
use Rattle.blocks.specs.InsidePlaces.{standing_at, fault26_at}
use Rattle.blocks.proofs.FaultsListed.{added_if, reports_first, reports_next, reports_last}
use Rattle.blocks.proofs.InsideFound.{standing_low, standing_next, wrong_single, wrong_found}
use Rattle.blocks.proofs.inside.report_each.Goals as goal

pub loop-j-init : goal.loop-j-init
unfolding standing_at
loop-j-init c =
    let s = c.args.s.now in
    let n = length s.lines.now in
    let free = c.args.free.now.keys.now in
    let one = wrong_single n free s.lines.now s.bounds.now s.kinds.now s.args.now in
    (refl, reports_first (fault26_at n free s.lines.now s.bounds.now s.kinds.now s.args.now) n c.args.faults.now one)

pub is_wrong-requires : goal.is_wrong-requires
is_wrong-requires c =
    let at = c.loop-j in
    let low = standing_low c.args.s.now.bounds.now c.args.s.now.kinds.now at.j in
    (c.requires.0, c.loop-j-test.true, omega (arith, at.invariant.0, low), c.requires.1)

pub loop-j-preserved : goal.loop-j-preserved
loop-j-preserved c =
    let at = c.loop-j in
    let s = c.args.s.now in
    let found = wrong_found (length s.lines.now) c.args.free.now.keys.now s.lines.now s.bounds.now s.kinds.now
    s.args.now at.j at.invariant.0 c.is_wrong.ensures c.index.ensures.0 in
    let few = c.requires.0 in
    let put = added_if _ _ c.then_some-fault.ensures (omega (arith, at.invariant.1.few, at.invariant.1.within, few))
    c.add_fault-count.ensures in (
      standing_next s.bounds.now s.kinds.now at.j at.invariant.0 c.standing_behind-c.ensures,
      reports_next at.invariant.1 c.loop-j-test.true found put,
    )

pub returns : goal.returns
returns c =
    reports_last c.loop-j.invariant.1 c.loop-j-test.false
