-- What the stores before statement j become is noted.
use mathlib.Core.List.{map}
use lib.ListN.{length}
use Rattle.blocks.specs.InsideWorking.{standing_in, role_in}
use Rattle.blocks.proofs.KindsRenewed.{Noting}
use Rattle.blocks.proofs.rewrite.note_roles.Given as goal

abbrev pub invariant-loop-j : goal.invariant-loop-j
invariant-loop-j l =
    Noting l.s.bounds.now l.s.kinds.now l.s.args.now (length l.s.lines.now) (map role_in l.initial.roles)
    (standing_in l.c) l.j (map role_in l.roles)
