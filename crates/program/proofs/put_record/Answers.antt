-- There is no room for it, or it fills a part of sixteen bytes.
use mathlib.Core.Path.{refl}
use native.Mathlib.Omega.{arith}
use Rattle.program.specs.Written.{field_bytes}
use Rattle.program.proofs.RoomFilled.{length_record, fill_part, fill_no_room}
use Rattle.program.proofs.put_record.Goals as goal

pub returns-then-out-w-lt-RECORD_BYTES : goal.returns-then-out-w-lt-RECORD_BYTES
returns-then-out-w-lt-RECORD_BYTES c =
    let a = c.args in
    fill_no_room (field_bytes a.kind a.slot a.line a.bits) a.out.now a.w c.if-out-w-lt-RECORD_BYTES.true

pub returns : goal.returns
returns c =
    let a = c.args in
    fill_part (field_bytes a.kind a.slot a.line a.bits) a.out.now _ a.w _
    (length_record a.kind a.slot a.line a.bits) refl
    (omega (arith, c.requires)) c.put_fields.ensures
