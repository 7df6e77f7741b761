-- One statement after the other, from the first byte to the last.
use mathlib.Core.Path.{sym, ◌∙◌}
use native.Mathlib.Omega.{arith}
use Rattle.translator.proofs.Turns.{going_first, going_last, left, going_full}
use Rattle.translator.proofs.Turns.{going_able, going_next}
use Rattle.translator.proofs.read_all.Goals as goal

pub loop-s-init : goal.loop-s-init
loop-s-init c =
    going_first c.requires

-- one statement more than there may be
pub returns-then-n-ge-STATEMENTS : goal.returns-then-n-ge-STATEMENTS
returns-then-n-ge-STATEMENTS c =
    let more = left c.requires c.loop-s.invariant (sym c.next_statement.ensures.0 ∙ c.in-Some.is) in
    omega (arith, more, c.if-n-ge-STATEMENTS.true)

-- no room for the statement that was found
pub returns-then-lacks_room : goal.returns-then-lacks_room
returns-then-lacks_room c =
    going_full c.requires c.loop-s.invariant (sym c.next_statement.ensures.0 ∙ c.in-Some.is)
    (c.lacks_room.ensures.lacks c.if-lacks_room.true)

pub read_one-n-requires : goal.read_one-n-requires
read_one-n-requires c =
    going_able c.requires c.loop-s.invariant (sym c.next_statement.ensures.0 ∙ c.in-Some.is) (omega arith)
    (c.lacks_room.ensures.has c.if-lacks_room.false)

pub loop-s-preserved : goal.loop-s-preserved
loop-s-preserved c =
    going_next c.requires c.loop-s.invariant (sym c.next_statement.ensures.0 ∙ c.in-Some.is) (omega arith)
    (c.lacks_room.ensures.has c.if-lacks_room.false) c.read_one-n.ensures

pub returns : goal.returns
returns c =
    going_last c.requires c.loop-s.invariant (sym c.next_statement.ensures.0 ∙ c.in_default.is)
