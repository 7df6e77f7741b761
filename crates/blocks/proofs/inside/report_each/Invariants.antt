-- The faults of the statements before statement j are written.
use mathlib.Core.Path.{◌≡◌}
use lib.ListN.{length}
use Rattle.blocks.specs.InsidePlaces.{standing_at, fault26_at}
use Rattle.blocks.specs.InsideWorking.{standing_in}
use Rattle.blocks.proofs.FaultsListed.{Reports}
use Rattle.blocks.proofs.inside.report_each.Given as goal

abbrev pub invariant-loop-j : goal.invariant-loop-j
invariant-loop-j l =
    (standing_in l.c ≡ standing_at l.s.bounds.now l.s.kinds.now l.j)
    × Reports
    (fault26_at (length l.s.lines.now) l.free.keys.now l.s.lines.now l.s.bounds.now l.s.kinds.now l.s.args.now)
    (length l.s.lines.now) l.j l.count l.initial.faults l.faults
