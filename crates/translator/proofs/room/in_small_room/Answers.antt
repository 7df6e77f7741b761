-- A place for each byte of a text of a few lines, which has no more statements than bytes: it is read through.
use native.Mathlib.Omega.{arith}
use lib.ListN.{length}
use Rattle.translator.proofs.Rooms.{came_through, never_short, text_few, read_so}
use Rattle.translator.proofs.room.in_small_room.Goals as goal

pub decide-requires : goal.decide-requires
decide-requires c =
    let all = came_through c.read_all-far.ensures c.in-Ok.is in
    read_so c.requires.0 all.1 all.0 (omega (arith, c.read_all-far.auto))

-- there is room, and statements are not too many
pub returns-in-Err : goal.returns-in-Err
returns-in-Err c =
    let few = text_few c.args.text.now (omega (arith, c.requires.1)) in
    absurd
    (never_short c.in-Err.field-0 c.args.text.now (length c.read_all-far.new.kinds) c.in-Err.ensures
    (omega (arith, c.read_all-far.auto, c.requires.1)) few)

pub returns-in-Ok : goal.returns-in-Ok
unfolding read_so
returns-in-Ok c =
    let all = came_through c.read_all-far.ensures c.in-Ok.is in
    c.decide.ensures (read_so c.requires.0 all.1 all.0 (omega (arith, c.read_all-far.auto)))
