-- The loop goes over the places of the order.
use borrow.Author.Rules.{rules}
use Rattle.program.proofs.RoomFilled.{fill_as, filling_first, filling_next, filling_whole}
use Rattle.program.proofs.StepCases.{whole_unit, ordered_gather}
use Rattle.program.proofs.put_ordered.Goals as goal

pub loop-place-init : goal.loop-place-init
loop-place-init c =
    let a = c.args in
    let s = a.sheet.now in
    filling_first _ _ _ _ _
    (λ p. whole_unit a.firsts.now s.lines.now s.bounds.now s.kinds.now s.args.now _)
    c.requires

pub put_unit-w-requires : goal.put_unit-w-requires
put_unit-w-requires c =
    (search rules, c.loop-place.invariant.within)

pub loop-place-preserved : goal.loop-place-preserved
loop-place-preserved c =
    filling_next c.loop-place.invariant c.loop-place-test.true
    (rw (← c.short_at-j.ensures.0) c.put_unit-w.ensures)

pub returns : goal.returns
returns c =
    let a = c.args in
    let s = a.sheet.now in
    fill_as
    (ordered_gather a.equated.now a.firsts.now s.lines.now s.bounds.now s.kinds.now s.args.now
    a.order.now)
    (filling_whole c.loop-place.invariant c.loop-place-test.false)
