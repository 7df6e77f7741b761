-- The invariant is Turn: so many tokens are written, and what is left to be written is the row from here.
use Rattle.std.proofs.Common.{arith}
use Rattle.std.proofs.lemmas.Result.{err_from_is_err_and}
use Rattle.tokens.proofs.Steps.{no_room, turn_first, turn_over, turn_refused, turn_inside, turn_next}
use Rattle.tokens.proofs.row.Goals as goal

pub returns-then-kinds-body : goal.returns-then-kinds-body
returns-then-kinds-body c =
    no_room _ _ _ c.then-kinds-body.either

pub loop-step-init : goal.loop-step-init
loop-step-init c =
    turn_first _ _ _ c.if-kinds-body.false c.if-args-body.false

pub returns-in_err-step : goal.returns-in_err-step
returns-in_err-step c =
    let p = err_from_is_err_and c.from_residual.result c.from_residual.ensures.1 in
    rw (p.1, p.2) (turn_refused _ _ _ _ _ _ _ c.loop-step.invariant _ (c.in_err-step.ensures))

pub bounds-kinds-n : goal.bounds-kinds-n
bounds-kinds-n c =
    let t = c.loop-step.invariant in
    let inside = turn_inside _ _ _ _ _ _ _ t _ (rw c.in-Some.is at c.in_ok-step.ensures) in
    omega (arith, inside, t.room.0, t.long.0)

pub offset_bounds-args-n : goal.offset_bounds-args-n
offset_bounds-args-n c =
    let t = c.loop-step.invariant in
    let inside = turn_inside _ _ _ _ _ _ _ t _ (rw c.in-Some.is at c.in_ok-step.ensures) in
    omega (arith, inside, t.room.1, t.long.1, c.well_formed)

pub bounds-args-n : goal.bounds-args-n
bounds-args-n c =
    let t = c.loop-step.invariant in
    let inside = turn_inside _ _ _ _ _ _ _ t _ (rw c.in-Some.is at c.in_ok-step.ensures) in
    omega (arith, inside, t.room.1, t.long.1)

pub overflow_add-n : goal.overflow_add-n
overflow_add-n c =
    let t = c.loop-step.invariant in
    let inside = turn_inside _ _ _ _ _ _ _ t _ (rw c.in-Some.is at c.in_ok-step.ensures) in
    omega (arith, inside, t.count)

pub loop-step-smaller : goal.loop-step-smaller
loop-step-smaller c =
    let t = c.loop-step.invariant in
    let inside = turn_inside _ _ _ _ _ _ _ t _ (rw c.in-Some.is at c.in_ok-step.ensures) in
    omega (arith, inside)

pub loop-step-preserved : goal.loop-step-preserved
loop-step-preserved c =
    turn_next _ _ _ _ _ _ _ c.loop-step.invariant _ (rw c.in-Some.is at c.in_ok-step.ensures)

pub returns : goal.returns
returns c =
    turn_over _ _ _ _ _ _ _ c.loop-step.invariant (rw c.in_default.is at c.in_ok-step.ensures)
