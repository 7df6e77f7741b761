-- The loop goes over the statements of the unit.
use borrow.Author.Rules.{rules}
use Rattle.program.proofs.RoomFilled.{filling_first, filling_next, filling_all}
use Rattle.program.proofs.StepCases.{whole_steps}
use Rattle.program.proofs.put_unit.Goals as goal

pub loop-i-init : goal.loop-i-init
loop-i-init c =
    let a = c.args in
    let s = a.sheet.now in
    filling_first _ _ _ _ _ (whole_steps s.lines.now s.bounds.now s.kinds.now s.args.now) c.requires.1

pub put_steps-w-requires : goal.put_steps-w-requires
put_steps-w-requires c =
    (search rules, c.loop-i.invariant.within)

pub loop-i-preserved : goal.loop-i-preserved
loop-i-preserved c =
    filling_next c.loop-i.invariant c.loop-i-test.true c.put_steps-w.ensures

pub returns : goal.returns
returns c =
    rw (← c.short_at-begin.ensures.0, ← c.short_at-end.ensures.0)
    (filling_all c.loop-i.invariant c.loop-i-test.false)
