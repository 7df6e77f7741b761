-- Three parts, one behind the other.
use mathlib.Core.Path.{◌∙◌}
use native.Mathlib.Nat.{sub-zero}
use native.Mathlib.Omega.{arith}
use lib.ListN.{length}
use Rattle.drafts.specs.Kinds.{kind_constant, kind_initial}
use Rattle.program.specs.Written.{written_program}
use Rattle.program.proofs.RoomFilled.{fill_within, fill_both}
use Rattle.program.proofs.StepCases.{whole_all_settings}
use Rattle.program.proofs.put_program.Goals as goal

pub put_all_settings-settings-requires : goal.put_all_settings-settings-requires
put_all_settings-settings-requires c =
    fill_within c.put_all_settings-constants.ensures (omega arith)

pub put_ordered-requires : goal.put_ordered-requires
put_ordered-requires c =
    fill_within c.put_all_settings-settings.ensures
    (fill_within c.put_all_settings-constants.ensures (omega arith))

pub returns : goal.returns
unfolding written_program
returns c =
    let a = c.args in
    let s = a.sheet.now in
    let constants =
    whole_all_settings kind_constant a.places.now s.lines.now s.bounds.now s.kinds.now s.args.now in
    let initials =
    whole_all_settings kind_initial a.places.now s.lines.now s.bounds.now s.kinds.now s.args.now in
    let all = fill_both c.put_all_settings-constants.ensures constants
    (fill_both c.put_all_settings-settings.ensures initials c.put_ordered.ensures) in
    let z = sub-zero (length a.out.now) in
    (rw z at all.behind ∙ omega arith, rw z at all.written)
