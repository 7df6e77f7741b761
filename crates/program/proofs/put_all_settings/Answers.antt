-- The loop goes over the statements.
use Rattle.program.proofs.RoomFilled.{filling_first, filling_next, filling_whole}
use Rattle.program.proofs.StepCases.{whole_settings}
use Rattle.program.proofs.put_all_settings.Goals as goal

pub loop-j-init : goal.loop-j-init
loop-j-init c =
    let a = c.args in
    let s = a.sheet.now in
    filling_first _ _ _ _ _
    (whole_settings a.phase a.places.now s.lines.now s.bounds.now s.kinds.now s.args.now)
    c.requires

pub put_settings-w-requires : goal.put_settings-w-requires
put_settings-w-requires c =
    (c.loop-j-test.true, c.loop-j.invariant.within)

pub loop-j-preserved : goal.loop-j-preserved
loop-j-preserved c =
    filling_next c.loop-j.invariant c.loop-j-test.true c.put_settings-w.ensures

pub returns : goal.returns
returns c =
    filling_whole c.loop-j.invariant c.loop-j-test.false
