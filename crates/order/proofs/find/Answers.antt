-- The flag at the first place is set, or the search goes on.
use mathlib.Core.Path.{sym, ap, ◌∙◌}
use Rattle.order.specs.Marks.{flag, below_end}
use Rattle.order.proofs.Searches.{first_stop, before_found}
use Rattle.order.proofs.find.Goals as goal

pub returns-then-flags-from : goal.returns-then-flags-from
returns-then-flags-from c =
    let s = c.args in
    let stop = first_stop (flag s.flags.now) s.n s.from c.if-from-n.true c.if-flags-from.true in
    sym (ap (below_end s.n) stop ∙ before_found s.n c.if-from-n.true)
