-- Names are entered if they are asked for, then the plan is made; the answer is its refusal, or what the writing gives.
use Prim.Native.Nat.{◌*◌}
use native.Mathlib.Omega.{arith}
use borrow.Author.Tests.{lt-leb, le-leb}
use lib.ListN.{length}
use Rattle.limits.specs.Limits.{most_definitions, roster_bytes}
use Rattle.translator.specs.Working.{asks_names}
use Rattle.translator.proofs.Writing.{never_unfit, says_refused, planned_so, says_rest}
use Rattle.translator.proofs.Naming.{concludes_program, entered_few, rows_room, says_names}
use Rattle.translator.proofs.finish.conclude_units.Goals as goal

pub refused-requires : goal.refused-requires
refused-requires c e =
    never_unfit c.requires c.plan-planned.result c.plan-planned.ensures c.args.out.now c.args.ordered.now
    (rw e at c.in-Err.is)

pub returns-in-Err : goal.returns-in-Err
returns-in-Err c ready =
    let a = c.args in
    rw c.refused.ensures
    (says_refused ready c.plan-planned.result c.plan-planned.ensures a.out.now a.ordered.now
    (asks_names (length a.rows.now)) c.in-Err.refusal c.in-Err.is)

pub write_program-requires : goal.write_program-requires
write_program-requires c =
    planned_so c.requires c.plan-planned.result c.plan-planned.ensures c.args.out.now c.args.ordered.now c.in-Ok.is

-- no names are asked for
pub returns-then-rows-lt-ROSTER_ROOM : goal.returns-then-rows-lt-ROSTER_ROOM
returns-then-rows-lt-ROSTER_ROOM c ready =
    let a = c.args in
    let none = lt-leb (roster_bytes * most_definitions) (length a.rows.now)
    (omega (arith, c.if-rows-lt-ROSTER_ROOM.true)) in
    rw none
    (concludes_program ready.units a.faults.now a.out.now a.ordered.now c.write_program.result
    (says_rest ready c.plan-planned.result c.plan-planned.ensures a.out.now a.ordered.now c.in-Ok.is
    c.write_program.result c.write_program.ensures))

pub write_names-requires : goal.write_names-requires
write_names-requires c =
    let rows = c.args.rows.now in
    let some = le-leb (roster_bytes * most_definitions) (length rows)
    (omega (arith, c.if-rows-lt-ROSTER_ROOM.false)) in
    let entered = c.enter_names-n.ensures some in
    (entered_few c.requires rows some entered, rows_room c.requires rows some entered)

-- they are
pub returns : goal.returns
returns c ready =
    let a = c.args in
    let rows = a.rows.now in
    let some = le-leb (roster_bytes * most_definitions) (length rows)
    (omega (arith, c.if-rows-lt-ROSTER_ROOM.false)) in
    rw some
    (says_names ready rows some (c.enter_names-n.ensures some) c.plan-planned.result c.plan-planned.ensures a.out.now
    a.ordered.now c.in-Ok.is c.write_names.result c.write_names.ensures)
