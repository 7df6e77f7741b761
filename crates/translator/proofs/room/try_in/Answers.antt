-- The statements are read, as far as there is room and they are not too many; then what is read decides.
use mathlib.Core.Path.{◌≡◌, refl, sym}
use native.Mathlib.Omega.{arith}
use borrow.Author.Rules.{rules}
use lib.ListN.{length}
use lib.Seq.{length-take-le}
use Rattle.translator.specs.declared.Short.TheVariants.{NoRoom, TooMany}
use Rattle.translator.specs.Working.{asks_names}
use Rattle.translator.proofs.Rooms.{room_of, own_list, came_through, says_four_for, faults_most, own_room}
use Rattle.translator.proofs.Rooms.{read_listed, read_so}
use Rattle.translator.proofs.room.try_in.Goals as goal

pub read_all-far-requires : goal.read_all-far-requires
read_all-far-requires g c =
    room_of g.row.DRAFTS (own_list c.requires.0)

pub overflow_mul-end : goal.overflow_mul-end
overflow_mul-end g c =
    let all = came_through c.read_all-far.ensures c.in-Ok.is in
    let most = faults_most all.0 all.1 (own_list c.requires.0).list_room in
    search (rules, most)

pub slice_bounds-list-end : goal.slice_bounds-list-end
slice_bounds-list-end g c =
    let all = came_through c.read_all-far.ensures c.in-Ok.is in
    own_room all.0 all.1 (own_list c.requires.0).list_room

pub slice_bounds-put_bytes-end : goal.slice_bounds-put_bytes-end
slice_bounds-put_bytes-end g c =
    let all = came_through c.read_all-far.ensures c.in-Ok.is in
    sym (length-take-le _ _ (own_room all.0 all.1 (own_list c.requires.0).list_room))

pub decide-requires : goal.decide-requires
decide-requires g c =
    let all = came_through c.read_all-far.ensures c.in-Ok.is in
    let pre = c.requires in
    let listed =
    read_listed all.0 all.1 (own_list pre.0).list_room c.args.faults.now c.put_bytes.ensures in
    read_so pre.0 all.1 listed (omega (arith, c.read_all-far.auto))

-- there was no room
pub returns-in-Err-NoRoom : goal.returns-in-Err-NoRoom
returns-in-Err-NoRoom g c =
    let e : c.in-Err-NoRoom.field-0 ≡ NoRoom = rw c.in-Err-NoRoom.is at c.in-Err-NoRoom.field-0-is in
    let full = rw e at (rw c.in-Err-NoRoom.is at c.read_all-far.ensures) in
    (omega (arith, full, c.read_all-far.auto), refl, refl, refl)

-- statements are too many
pub returns-in-Err-TooMany : goal.returns-in-Err-TooMany
returns-in-Err-TooMany g c =
    let a = c.args in
    let e : c.in-Err-TooMany.field-0 ≡ TooMany = rw c.in-Err-TooMany.is at c.in-Err-TooMany.field-0-is in
    let many = rw e at (rw c.in-Err-TooMany.is at c.read_all-far.ensures) in
    says_four_for (asks_names (length a.rows.now)) a.text.now a.faults.now a.out.now a.ordered.now many

-- what is read decides
pub returns-in-Ok : goal.returns-in-Ok
unfolding read_so
returns-in-Ok g c =
    let all = came_through c.read_all-far.ensures c.in-Ok.is in
    let pre = c.requires in
    let listed =
    read_listed all.0 all.1 (own_list pre.0).list_room c.args.faults.now c.put_bytes.ensures in
    c.decide.ensures (read_so pre.0 all.1 listed (omega (arith, c.read_all-far.auto)))
