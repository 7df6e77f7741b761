-- The units of the order are held in an array, the owners of their slots noted, and the names resolved.
use native.Mathlib.Omega.{arith}
use lib.ListN.{length}
use Rattle.model.proofs.PlanStages.{equated_few, holds_front, ordered_held, linkable, weighs}
use Rattle.model.proofs.stages.connect.Goals as goal

pub slice_bounds-note_owners-end : goal.slice_bounds-note_owners-end
slice_bounds-note_owners-end c =
    let held = ordered_held c.requires.0 c.collect_ordered-units.ensures c.requires.1 in
    held.room

pub slice_bounds-note_owners-end-2 : goal.slice_bounds-note_owners-end-2
slice_bounds-note_owners-end-2 c =
    let held = ordered_held c.requires.0 c.collect_ordered-units.ensures c.requires.1 in
    (holds_front held).long

pub note_owners-requires : goal.note_owners-requires
note_owners-requires c =
    let held = ordered_held c.requires.0 c.collect_ordered-units.ensures c.requires.1 in
    let few = equated_few (length c.args.lines.now) c.args.bounds.now c.args.kinds.now in (
      omega (arith, (holds_front held).long, held.long, few, c.requires.0.sound.few),
      c.requires.3.none,
      c.requires.0.wide,
    )

pub resolve-usage-requires : goal.resolve-usage-requires
resolve-usage-requires c =
    let held = ordered_held c.requires.0 c.collect_ordered-units.ensures c.requires.1 in
    let noted = rw held.front at c.note_owners.ensures in
    linkable c.requires.0 noted (omega (arith, c.requires.3.room))

pub returns : goal.returns
returns c =
    let held = ordered_held c.requires.0 c.collect_ordered-units.ensures c.requires.1 in
    let linked = rw c.requires.2 at c.resolve-usage.ensures in
    record {
      units_put = c.collect_ordered-units.ensures;
      linked = linked;
      weighs = weighs c.requires.0.sound held linked;
    }
