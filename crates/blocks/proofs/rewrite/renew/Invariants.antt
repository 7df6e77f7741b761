-- The kinds before place i are renewed.
use Rattle.blocks.specs.InsideWorking.{role_in}
use Rattle.blocks.proofs.KindsRenewed.{Renewing}
use Rattle.blocks.proofs.rewrite.renew.Given as goal

abbrev pub invariant-loop-i : goal.invariant-loop-i
invariant-loop-i l =
    Renewing (role_in l.role) l.from l.end l.initial.kinds l.kinds l.i
