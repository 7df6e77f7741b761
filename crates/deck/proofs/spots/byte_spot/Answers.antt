-- The invariant: to search the lines that are left gives what to search all gave at first.
use Rattle.std.proofs.Common.{◌≡◌, ◌+◌, ◌-◌, ◌<◌, ◌≤◌, suc, length, ap, sym, ◌∙◌, arith}
use Rattle.deck.specs.Next.{lines_at}
use Rattle.deck.specs.Joined.{line_part}
use Rattle.deck.proofs.Ahead.{numbered_turn, numbered_last}
use Rattle.deck.proofs.Spotting.{byte_none, byte_comment, byte_found, byte_card}
use Rattle.deck.proofs.spots.byte_spot.Goals as goal

pub loop-down-preserved-then-is_comment : goal.loop-down-preserved-then-is_comment
loop-down-preserved-then-is_comment c =
    let turn = numbered_turn (lines_at c.args.text.now c.args.start c.args.lines) c.lines_at.ensures
    c.enumerate-down-items.ensures.source c.enumerate-down-items.ensures.count
    c.into_iter-down-iterator.ensures.into_iter_gives c.loop-down.yielded c.loop-down.down-iterator
    c.loop-down.yielded_by c.next.result c.next.new.self c.next.ensures.steps
    c.in-Some.down c.in-Some.line c.in-Some.is in
    let comment = sym c.is_comment.ensures ∙ c.if-is_comment.true in
    (c.in-Some.ensures.goes.keeps, tt, rw turn.1 (byte_comment c.loop-down.invariant.2 _ _ turn.2 comment))

pub returns-then-left-part : goal.returns-then-left-part
returns-then-left-part c =
    let turn = numbered_turn (lines_at c.args.text.now c.args.start c.args.lines) c.lines_at.ensures
    c.enumerate-down-items.ensures.source c.enumerate-down-items.ensures.count
    c.into_iter-down-iterator.ensures.into_iter_gives c.loop-down.yielded c.loop-down.down-iterator
    c.loop-down.yielded_by c.next.result c.next.new.self c.next.ensures.steps
    c.in-Some.down c.in-Some.line c.in-Some.is in
    let card = sym c.is_comment.ensures ∙ c.if-is_comment.false in
    let here : c.loop-down.left < length (line_part c.in-Some.line.now) =
    omega (arith, ap length c.part_of-part.ensures, c.if-left-part.true) in
    let next : c.loop-down.left + 1 ≡ suc c.loop-down.left = omega arith in
    rw (turn.0, next) (byte_found c.loop-down.invariant.2 _ _ turn.2 card here)

pub loop-down-preserved : goal.loop-down-preserved
loop-down-preserved c =
    let turn = numbered_turn (lines_at c.args.text.now c.args.start c.args.lines) c.lines_at.ensures
    c.enumerate-down-items.ensures.source c.enumerate-down-items.ensures.count
    c.into_iter-down-iterator.ensures.into_iter_gives c.loop-down.yielded c.loop-down.down-iterator
    c.loop-down.yielded_by c.next.result c.next.new.self c.next.ensures.steps
    c.in-Some.down c.in-Some.line c.in-Some.is in
    let card = sym c.is_comment.ensures ∙ c.if-is_comment.false in
    let part = ap length c.part_of-part.ensures in
    let past : length (line_part c.in-Some.line.now) ≤ c.loop-down.left = omega (arith, part, c.if-left-part.false) in
    let rest : c.saturating_sub-left.result ≡ c.loop-down.left - suc (length (line_part c.in-Some.line.now)) =
    omega (arith, part, c.saturating_sub-left.ensures) in
    (c.in-Some.ensures.goes.keeps, tt, rw (turn.1, rest) (byte_card c.loop-down.invariant.2 _ _ turn.2 card past))

pub returns : goal.returns
returns c =
    byte_none c.loop-down.invariant.2
    (numbered_last (lines_at c.args.text.now c.args.start c.args.lines) c.lines_at.ensures
    c.enumerate-down-items.ensures.source c.enumerate-down-items.ensures.count
    c.into_iter-down-iterator.ensures.into_iter_gives c.loop-down.yielded c.loop-down.down-iterator
    c.loop-down.yielded_by c.next.result c.next.new.self c.next.ensures.steps c.in-None.is)
