-- The kinds before place i are renewed.
use Rattle.blocks.proofs.KindsRenewed.{renewing_first, renewing_next, renewing_last}
use Rattle.blocks.proofs.rewrite.renew.Goals as goal

pub loop-i-init : goal.loop-i-init
loop-i-init c =
    renewing_first _ _ _ _

pub loop-i-preserved : goal.loop-i-preserved
loop-i-preserved c =
    renewing_next c.loop-i.invariant
    c.loop-i-test.true
    c.byte_at-kind.ensures c.role_kind.ensures
    c.put.ensures

pub returns : goal.returns
returns c =
    renewing_last c.loop-i.invariant c.loop-i-test.false
