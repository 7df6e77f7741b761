-- The loop: the search from `from` on is the search from k on.
use mathlib.Core.Path.{sym, ap, ◌∙◌}
use mathlib.Core.Bool.{not}
use Rattle.order.specs.Marks.{open_at, below_end}
use Rattle.order.proofs.Searches.{first_stop, first_pass, first_none, before_found, before_past}
use Rattle.order.proofs.Desk.advance.Goals as goal

pub returns-then-not-self-table : goal.returns-then-not-self-table
returns-then-not-self-table g c =
    let s = c.args in
    let l = c.loop-k in
    let f = open_at s.table.now.used.now s.self.now.marks in
    let stop = first_stop f s.end l.k c.loop-k-test.true (ap not c.if-not-self-table.true) in
    sym (ap (below_end s.end) (l.invariant ∙ stop) ∙ before_found s.end c.loop-k-test.true)

pub loop-k-preserved : goal.loop-k-preserved
loop-k-preserved g c =
    let s = c.args in
    let f = open_at s.table.now.used.now s.self.now.marks in
    c.loop-k.invariant ∙ first_pass f s.end c.loop-k.k c.loop-k-test.true (ap not c.if-not-self-table.false)

pub returns : goal.returns
returns g c =
    let s = c.args in
    let l = c.loop-k in
    let f = open_at s.table.now.used.now s.self.now.marks in
    sym
    (ap (below_end s.end) (l.invariant ∙ first_none f s.end l.k c.loop-k-test.false)
    ∙ before_past s.end c.loop-k-test.false)
