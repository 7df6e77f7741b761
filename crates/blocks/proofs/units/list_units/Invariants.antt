-- The units that begin before statement j are written.
use Rattle.blocks.specs.Working.{SameLent}
use Rattle.blocks.proofs.UnitsListed.{Listing}
use Rattle.blocks.proofs.units.list_units.Given as goal

abbrev pub invariant-loop-j : goal.invariant-loop-j
invariant-loop-j l =
    SameLent l.initial.units l.units
    × Listing l.s.lines.now l.s.bounds.now l.s.kinds.now l.inside l.count l.j
    l.initial.units.lines.now l.units.lines.now l.initial.units.bounds.now l.units.bounds.now
    l.initial.units.firsts.now l.units.firsts.now
