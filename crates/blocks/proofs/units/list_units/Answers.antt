-- The units that begin before statement j are written.
use mathlib.Core.Path.{refl, ap}
use Rattle.std.proofs.Common.{rules}
use lib.ListN.{get_or}
use Rattle.blocks.specs.Working.{UnitPut, SameLent}
use Rattle.blocks.specs.Places.{bracket_kind}
use Rattle.blocks.proofs.UnitsListed.{unit_unput, listing_first, listing_next, listing_last}
use Rattle.blocks.proofs.units.list_units.Goals as goal
use Rattle.blocks.proofs.units.list_units.Goals.{then-starts_unit, else-starts_unit}

pub loop-j-init : goal.loop-j-init
loop-j-init c =
    let s = c.args.s.now in (
      search rules,
      listing_first s.lines.now s.bounds.now s.kinds.now c.args.units.now.lines.now c.args.units.now.bounds.now
          c.args.units.now.firsts.now,
    )

pub loop-j-preserved : goal.loop-j-preserved
loop-j-preserved c =
    let s = c.args.s.now in
    let at = c.loop-j in
    let next = c.if-starts_unit in
    let same : SameLent at.units next.units =
    elim next.branch [
      | then-starts_unit w ↦ rw w.units-is w.put.ensures.same
      | else-starts_unit w ↦ rw w.units-is (search rules)
    ] in
    let put : UnitPut c.starts_unit.result (get_or s.lines.now at.j 0) (get_or s.bounds.now at.j 0) at.j at.count
    next.count at.units.lines.now next.units.lines.now at.units.bounds.now next.units.bounds.now
    at.units.firsts.now next.units.firsts.now =
    elim next.branch [
      | then-starts_unit w ↦ rw (w.if-starts_unit.true, w.units-is, w.count-is) w.put.ensures.put
      | else-starts_unit w ↦ rw (w.if-starts_unit.false, w.units-is, w.count-is)
          (unit_unput _ _ at.j at.count at.units.lines.now at.units.bounds.now at.units.firsts.now)
    ] in (
      search rules,
      listing_next s.lines.now s.bounds.now s.kinds.now at.invariant.1 c.loop-j-test.true
          (ap bracket_kind c.leading_kind-kind.ensures) c.starts_unit.ensures c.is_inside-inside.ensures refl refl put,
    )

pub returns-clause-listed : goal.returns-clause-listed
returns-clause-listed c =
    let s = c.args.s.now in
    listing_last s.lines.now s.bounds.now s.kinds.now c.loop-j.invariant.1 c.loop-j-test.false
    refl c.put-2.ensures c.put-3.ensures
