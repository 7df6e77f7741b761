-- The owners of the slots that the units from the last down to the present one assign are noted.
use Prim.Native.Nat.{◌-◌}
use mathlib.Core.Path.{refl}
use native.Mathlib.Omega.{arith}
use lib.ListN.{length-map}
use Rattle.model.specs.Places.{resolved, assigned_by}
use Rattle.model.proofs.SlotOwners.{assigned_at, owning_next}
use Rattle.model.proofs.units.note_owners.Goals as goal

pub loop-r-preserved : goal.loop-r-preserved
loop-r-preserved c =
    let taken = c.loop-r-test.true in
    let equated = c.args.equated.now in
    let s = c.args.sheet.now in
    let slots = resolved c.args.names.now.keys.now s.kinds.now s.args.now in
    let as_many = length-map equated (assigned_by s.bounds.now s.kinds.now slots) in
    let assigned =
    assigned_at equated s.bounds.now s.kinds.now slots (c.loop-r.r - 1)
    (omega (arith, c.loop-r.invariant.within, taken, as_many)) refl in
    owning_next c.loop-r.invariant taken assigned c.note_assigned.ensures
