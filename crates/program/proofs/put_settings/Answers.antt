-- A statement that does not begin with a setting has none; else the loop goes over the places of the statement.
use Prim.Native.Nat.{◌-◌}
use mathlib.Core.Path.{◌≡◌, sym, ◌∙◌}
use native.Mathlib.Omega.{arith}
use Rattle.laws.specs.Places.{gather}
use Rattle.program.specs.Written.{setting_at, settings_of}
use Rattle.program.proofs.RoomFilled.{fill_as, fill_none, filling_first, filling_next, filling_all}
use Rattle.program.proofs.StepCases.{whole_setting, settings_none, settings_some}
use Rattle.program.proofs.put_settings.Goals as goal

pub returns-then-byte_at-phase : goal.returns-then-byte_at-phase
returns-then-byte_at-phase c =
    let a = c.args in
    let s = a.sheet.now in
    fill_none a.w a.out.now
    (settings_none a.phase a.places.now s.lines.now s.bounds.now s.kinds.now s.args.now a.j
    c.short_at-begin.ensures.0 (λ e. c.if-byte_at-phase.true (c.byte_at.ensures ∙ e)))

pub loop-i-init : goal.loop-i-init
loop-i-init c =
    let a = c.args in
    let s = a.sheet.now in
    filling_first _ _ _ _ _
    (whole_setting a.phase a.places.now s.kinds.now s.args.now c.short_at-line.result)
    c.requires.1

pub put_setting-w-requires : goal.put_setting-w-requires
put_setting-w-requires c =
    (omega arith, c.loop-i.invariant.within)

pub loop-i-preserved : goal.loop-i-preserved
loop-i-preserved c =
    filling_next c.loop-i.invariant c.loop-i-test.true c.put_setting-w.ensures

pub returns : goal.returns
returns c =
    let a = c.args in
    let s = a.sheet.now in
    let i = c.short_at-begin.result in
    let here : settings_of a.phase a.places.now s.lines.now s.bounds.now s.kinds.now s.args.now a.j
    ≡ gather (setting_at a.phase a.places.now s.kinds.now s.args.now c.short_at-line.result)
    (c.setting_end-end.result - i) i =
    settings_some a.phase a.places.now s.lines.now s.bounds.now s.kinds.now s.args.now a.j
    c.short_at-begin.ensures.0 c.setting_end-end.result c.short_at-line.ensures.0
    c.short_at.ensures.0
    c.setting_end-end.ensures.0 (sym c.byte_at.ensures ∙ c.if-byte_at-phase.false) in
    fill_as here (filling_all c.loop-i.invariant c.loop-i-test.false)
