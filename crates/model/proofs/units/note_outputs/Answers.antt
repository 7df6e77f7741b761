-- The outputs in front of the present draft are noted.
use mathlib.Core.Path.{refl}
use native.Mathlib.Omega.{arith}
use Rattle.drafts.specs.Kinds.{kind_output}
use Rattle.model.proofs.KeysFound.{place_le}
use Rattle.model.proofs.NamesResolved.{slot_ahead}
use Rattle.model.proofs.UnitReads.{noting_next, noting_stop, noting_last}
use Rattle.model.proofs.units.note_outputs.Goals as goal

pub returns-then-byte_at-ne-OUTPUT : goal.returns-then-byte_at-ne-OUTPUT
returns-then-byte_at-ne-OUTPUT c =
    noting_stop _ _ _ _ _ _ c.loop-i.invariant c.loop-i-test.true c.byte_at.ensures
    c.if-byte_at-ne-OUTPUT.true

pub overflow_add-slot : goal.overflow_add-slot
overflow_add-slot c =
    omega (arith, c.find-slot.ensures, place_le c.word_at.result c.args.names.now.keys.now, c.args.names.now.few)

pub loop-i-preserved : goal.loop-i-preserved
loop-i-preserved c =
    let s = c.args.sheet.now in
    let kind = c.byte_at.ensures in
    let slot =
    slot_ahead c.args.names.now.keys.now s.kinds.now s.args.now c.loop-i.i kind_output refl refl c.requires.1
    kind c.if-byte_at-ne-OUTPUT.false c.word_at.ensures c.find-slot.ensures in
    noting_next _ _ _ _ _ _ c.loop-i.invariant c.loop-i-test.true kind c.if-byte_at-ne-OUTPUT.false slot
    c.put.ensures

pub returns : goal.returns
returns c =
    noting_last _ _ _ _ _ _ c.loop-i.invariant c.loop-i-test.false
