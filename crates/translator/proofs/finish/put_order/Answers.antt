-- The loop goes over the order, until no place is left.
use Rattle.translator.proofs.Handing.{hands_first, hands_next, hands_full, hands_last}
use Rattle.translator.proofs.finish.put_order.Goals as goal

pub loop-i-init : goal.loop-i-init
loop-i-init c =
    hands_first _ _ _ _

pub returns-then-ordered-i : goal.returns-then-ordered-i
returns-then-ordered-i c =
    hands_full c.loop-i.invariant c.if-ordered-i.true

pub loop-i-preserved : goal.loop-i-preserved
loop-i-preserved c =
    hands_next c.loop-i.invariant c.loop-i-test.true _
    (rw (← c.short_at.ensures.0) c.short_at-in-loop-i.ensures.0)

pub returns : goal.returns
returns c =
    hands_last c.loop-i.invariant c.loop-i-test.false
