-- The owners of the slots that the units from the last down to the present one assign are noted.
use Rattle.model.specs.Places.{resolved, assigned_slots}
use Rattle.model.proofs.SlotOwners.{Owning}
use Rattle.model.proofs.units.note_owners.Given as goal

abbrev pub invariant-loop-r : goal.invariant-loop-r
invariant-loop-r l =
    let s = l.sheet in
    let slots = resolved l.names.keys.now s.kinds.now s.args.now in
    Owning (assigned_slots l.equated s.bounds.now s.kinds.now slots) l.initial.owners l.r l.owners
