-- The records are too many, or too many for the room; or the program is written, and the order handed out.
use mathlib.Core.Path.{refl}
use Rattle.model.proofs.PlanStages.{prefix_length}
use Rattle.translator.proofs.Writing.{places_room, equated_room, order_room, says_eight, says_zero}
use Rattle.translator.proofs.finish.write_program.Goals as goal

pub returns-then-is_over : goal.returns-then-is_over
returns-then-is_over c =
    let a = c.args in
    λ s f. says_eight s a.out.now a.ordered.now c.is_over.ensures c.if-is_over.true f

pub slice_bounds-put_program-end : goal.slice_bounds-put_program-end
slice_bounds-put_program-end c =
    prefix_length c.args.plan.definitions c.args.places.now (places_room c.requires)

pub slice_bounds-put_program-end-2 : goal.slice_bounds-put_program-end-2
slice_bounds-put_program-end-2 c =
    prefix_length c.args.plan.units c.args.equated.now (equated_room c.requires)

pub slice_bounds-put_program-end-3 : goal.slice_bounds-put_program-end-3
slice_bounds-put_program-end-3 c =
    prefix_length c.args.plan.units c.args.order.now (order_room c.requires)

pub slice_bounds-put_order-end : goal.slice_bounds-put_order-end
slice_bounds-put_order-end c =
    prefix_length c.args.plan.units c.args.equated.now (equated_room c.requires)

pub slice_bounds-put_order-end-2 : goal.slice_bounds-put_order-end-2
slice_bounds-put_order-end-2 c =
    prefix_length c.args.plan.units c.args.order.now (order_room c.requires)

pub returns : goal.returns
returns c =
    let a = c.args in
    λ s f. says_zero s a.out.now a.ordered.now c.is_over.ensures refl refl refl c.if-is_over.false
    c.put_program-bytes.ensures c.put_order.ensures f
