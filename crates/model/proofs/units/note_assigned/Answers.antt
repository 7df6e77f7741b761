-- The outputs in front, and the store at the end.
use mathlib.Core.Path.{refl}
use native.Mathlib.Omega.{arith}
use Rattle.drafts.specs.Kinds.{kind_store}
use Rattle.model.specs.Places.{resolved}
use Rattle.model.proofs.KeysFound.{place_le}
use Rattle.model.proofs.NamesResolved.{slot_ahead}
use Rattle.model.proofs.UnitReads.{last_kind_holds, assigned_store}
use Rattle.model.proofs.units.note_assigned.Goals as goal

pub overflow_add-slot : goal.overflow_add-slot
overflow_add-slot c =
    omega (arith, c.find-slot.ensures, place_le c.word_at.result c.args.names.now.keys.now, c.args.names.now.few)

pub returns-then-stores : goal.returns-then-stores
returns-then-stores c =
    let a = c.args in
    let s = a.sheet.now in
    let slots = resolved a.names.now.keys.now s.kinds.now s.args.now in
    let last = c.last_of-last in
    let at_last = last_kind_holds s.bounds.now s.kinds.now a.j c.byte_at-stores.ensures last.ensures in
    let slot =
    slot_ahead a.names.now.keys.now s.kinds.now s.args.now last.result kind_store refl refl c.requires.2
    c.byte_at-stores.ensures c.if-stores.true c.word_at.ensures c.find-slot.ensures in
    assigned_store s.bounds.now s.kinds.now a.j slots a.v a.owners.now at_last
    c.short_at-first.ensures.0 c.short_at-end.ensures.0
    c.note_outputs.ensures c.if-stores.true slot last.ensures c.put.ensures
