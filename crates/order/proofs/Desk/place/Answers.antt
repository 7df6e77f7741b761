-- The loop keeps `Going`.
use mathlib.Core.Path.{sym, ◌∙◌}
use native.Mathlib.Omega.{arith}
use Rattle.std.proofs.Common.{rules}
use Rattle.order.proofs.Searches.{before_some, before_none}
use Rattle.order.proofs.Placing.{going_start, going_end, going_stop, going_woken, going_step}
use Rattle.order.proofs.Desk.place.Goals as goal

pub loop-k-init : goal.loop-k-init
loop-k-init g c =
    going_start c.requires.2 c.settle_all.ensures

pub returns-in_default : goal.returns-in_default
returns-in_default g c =
    going_stop c.loop-k.invariant c.loop-k-test.true (before_none _ (sym c.in_default.is ∙ c.find.ensures))

pub wake-from-requires : goal.wake-from-requires
wake-from-requires g c =
    let i = before_some _ (sym c.in-Some.is ∙ c.find.ensures) in
    (search rules, going_woken c.loop-k.invariant c.in-Some.i i.0 (rw (← i.0) at i.1))

pub loop-k-preserved : goal.loop-k-preserved
loop-k-preserved g c =
    let i = before_some _ (sym c.in-Some.is ∙ c.find.ensures) in
    going_step c.loop-k.invariant c.in-Some.i i.0 (rw (← i.0) at i.1) c.loop-k-test.true c.wake-from.ensures

pub returns : goal.returns
returns g c =
    going_end c.loop-k.invariant (omega arith)
