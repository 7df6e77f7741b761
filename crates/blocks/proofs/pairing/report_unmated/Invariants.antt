-- The faults of the statements before j are written, and reach is the furthest mate before it.
use mathlib.Core.List.{map}
use mathlib.Core.Path.{◌≡◌}
use lib.ListN.{length}
use Rattle.blocks.specs.Working.{mate_in, furthest, unmated_at}
use Rattle.blocks.proofs.FaultsListed.{Reports}
use Rattle.blocks.proofs.pairing.report_unmated.Given as goal

abbrev pub invariant-loop-j : goal.invariant-loop-j
invariant-loop-j l =
    Reports (unmated_at l.s.lines.now l.s.bounds.now l.s.kinds.now (map mate_in l.mates)) (length l.s.lines.now) l.j
    l.count l.initial.faults l.faults
    × (l.reach ≡ furthest (map mate_in l.mates) l.j)
