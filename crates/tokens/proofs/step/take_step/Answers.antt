use Rattle.std.proofs.Common.{arith, length-take, length-drop}
use Rattle.tokens.proofs.Steps.{step_sound}
use Rattle.tokens.proofs.step.take_step.Goals as goal

pub overflow_add-at : goal.overflow_add-at
overflow_add-at c =
    let cut = c.take_cut-cut in
    let named = step_sound c.args.body.now c.args.from cut.result cut.ensures _ c.in-Name.is in
    omega (arith, named.0, named.1)

pub slice_bounds-held_name-end : goal.slice_bounds-held_name-end
slice_bounds-held_name-end c =
    let cut = c.take_cut-cut in
    let named = step_sound c.args.body.now c.args.from cut.result cut.ensures _ c.in-Name.is in
    omega (arith, named.0, named.1)

pub held_name-held-requires : goal.held_name-held-requires
held_name-held-requires c =
    let cut = c.take_cut-cut in
    let named = step_sound c.args.body.now c.args.from cut.result cut.ensures _ c.in-Name.is in
    simp (length-take, length-drop) (omega (arith, named.0, named.1))
