-- The statements before j are taken, and what is noted from there on is noted in all.
use mathlib.Core.List.{map}
use lib.ListN.{length}
use Rattle.blocks.specs.Working.{mate_in}
use Rattle.blocks.proofs.MatesNoted.{Mating}
use Rattle.blocks.proofs.pairing.note_mates.Given as goal

abbrev pub invariant-loop-j : goal.invariant-loop-j
invariant-loop-j l =
    Mating (length l.s.lines.now) l.s.bounds.now l.s.kinds.now (map mate_in l.initial.mates) l.stack l.depth l.j
    (map mate_in l.mates)
