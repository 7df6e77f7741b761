-- The loop: the search from `from` on is the search from i on.
use mathlib.Core.Path.{sym, ap, ◌∙◌}
use Rattle.order.specs.Marks.{flag, below_end}
use Rattle.order.proofs.Searches.{first_stop, first_pass, first_none, before_found, before_past}
use Rattle.order.proofs.seek_one.Goals as goal

pub returns-then-flags-i : goal.returns-then-flags-i
returns-then-flags-i c =
    let s = c.args in
    let l = c.loop-i in
    let stop = first_stop (flag s.flags.now) s.n l.i c.loop-i-test.true c.if-flags-i.true in
    sym (ap (below_end s.n) (l.invariant ∙ stop) ∙ before_found s.n c.loop-i-test.true)

pub loop-i-preserved : goal.loop-i-preserved
loop-i-preserved c =
    let s = c.args in
    c.loop-i.invariant ∙ first_pass (flag s.flags.now) s.n c.loop-i.i c.loop-i-test.true c.if-flags-i.false

pub returns : goal.returns
returns c =
    let s = c.args in
    let l = c.loop-i in
    sym
    (ap (below_end s.n) (l.invariant ∙ first_none (flag s.flags.now) s.n l.i c.loop-i-test.false)
    ∙ before_past s.n c.loop-i-test.false)
