-- The kinds of the statements before statement j are renewed.
use mathlib.Core.List.{map}
use lib.ListN.{length}
use Rattle.blocks.specs.InsideWorking.{role_in}
use Rattle.blocks.proofs.KindsRenewed.{RenewingAll}
use Rattle.blocks.proofs.rewrite.renew_all.Given as goal

abbrev pub invariant-loop-j : goal.invariant-loop-j
invariant-loop-j l =
    RenewingAll (map role_in l.roles) l.bounds (length l.roles) l.initial.kinds l.kinds l.j
