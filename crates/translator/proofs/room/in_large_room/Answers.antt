-- In a quarter of the largest room, or once more in the largest.
use lib.ListN.{length}
use Rattle.limits.specs.Limits.{text_bytes}
use Rattle.translator.specs.Working.{asks_names}
use Rattle.translator.proofs.Rooms.{never_full, second_try_for}
use Rattle.translator.proofs.room.in_large_room.Goals as goal

pub unwrap-requires : goal.unwrap-requires
unwrap-requires c =
    let a = c.args in
    let tried = c.try_in-tried.new in
    never_full (asks_names (length tried.rows)) a.text.now tried.faults tried.out tried.ordered text_bytes
    c.try_in.result _ _ _ c.try_in.ensures c.requires.brief

pub returns-in-Some : goal.returns-in-Some
returns-in-Some c =
    c.in-Some.ensures

pub returns-in-None : goal.returns-in-None
returns-in-None c =
    let a = c.args in
    let full = c.in-None.ensures in
    let again = rw c.unwrap.ensures at c.try_in.ensures in
    second_try_for (asks_names (length a.rows.now)) a.text.now a.faults.now a.out.now a.ordered.now
    c.unwrap.result full.1 full.2 full.3 (rw c.try_in-tried.auto.rows at again)
