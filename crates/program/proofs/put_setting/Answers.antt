use mathlib.Core.Path.{◌≡◌, sym, ◌∙◌}
use borrow.Author.Tests.{eq-eqb, ne_eqb}
use lib.ListN.{get_or}
use Rattle.program.specs.Written.{field_bytes, value_at, setting_at}
use Rattle.program.proofs.RoomFilled.{fill_as, fill_none}
use Rattle.program.proofs.put_setting.Goals as goal

pub returns-then-byte_at-phase : goal.returns-then-byte_at-phase
returns-then-byte_at-phase c =
    let a = c.args in
    let s = a.sheet.now in
    let here : setting_at a.phase a.places.now s.kinds.now s.args.now a.line a.i
    ≡ field_bytes a.phase (get_or s.args.now a.i 0) a.line
    (value_at a.places.now s.kinds.now s.args.now a.i) =
    rw (eq-eqb _ _ (sym c.byte_at.ensures ∙ c.if-byte_at-phase.true)) in
    fill_as here
    (rw (← c.value_at-bits.ensures, ← c.word_at-slot.ensures) c.put_record.ensures)

pub returns : goal.returns
returns c =
    fill_none c.args.w c.args.out.now (rw (ne_eqb _ _ (λ e. c.if-byte_at-phase.false (c.byte_at.ensures ∙ e))))
