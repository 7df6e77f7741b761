-- The invariant: to search the lines that are left gives what to search all gave at first.
use Rattle.std.proofs.Common.{length, sym, ◌∙◌}
use Rattle.deck.specs.Next.{lines_at}
use Rattle.deck.proofs.Ahead.{numbered_turn, numbered_last}
use Rattle.deck.proofs.Spotting.{last_none, last_comment, last_card, column_max}
use Rattle.deck.proofs.spots.last_spot.Goals as goal

pub loop-down-preserved-then-not-is_comment : goal.loop-down-preserved-then-not-is_comment
loop-down-preserved-then-not-is_comment c =
    let turn = numbered_turn (lines_at c.args.text.now c.args.start c.args.lines) c.lines_at.ensures
    c.enumerate-down-items.ensures.source c.enumerate-down-items.ensures.count
    c.into_iter-down-iterator.ensures.into_iter_gives c.loop-down.yielded c.loop-down.down-iterator
    c.loop-down.yielded_by c.next.result c.next.new.self c.next.ensures.steps
    c.in-Some.down c.in-Some.line c.in-Some.is in
    let card = sym c.is_comment.ensures ∙ c.if-not-is_comment.true in
    let column = c.max.ensures ∙ column_max (length c.in-Some.line.now) in (
      c.in-Some.ensures.goes.keeps,
      tt,
      rw (turn.1, turn.0, column) (last_card c.loop-down.invariant.2 _ _ turn.2 card),
    )

pub loop-down-preserved : goal.loop-down-preserved
loop-down-preserved c =
    let turn = numbered_turn (lines_at c.args.text.now c.args.start c.args.lines) c.lines_at.ensures
    c.enumerate-down-items.ensures.source c.enumerate-down-items.ensures.count
    c.into_iter-down-iterator.ensures.into_iter_gives c.loop-down.yielded c.loop-down.down-iterator
    c.loop-down.yielded_by c.next.result c.next.new.self c.next.ensures.steps
    c.in-Some.down c.in-Some.line c.in-Some.is in
    let comment = sym c.is_comment.ensures ∙ c.if-not-is_comment.false in
    (c.in-Some.ensures.goes.keeps, tt, rw turn.1 (last_comment c.loop-down.invariant.2 _ _ turn.2 comment))

pub returns : goal.returns
returns c =
    last_none c.loop-down.invariant.2
    (numbered_last (lines_at c.args.text.now c.args.start c.args.lines) c.lines_at.ensures
    c.enumerate-down-items.ensures.source c.enumerate-down-items.ensures.count
    c.into_iter-down-iterator.ensures.into_iter_gives c.loop-down.yielded c.loop-down.down-iterator
    c.loop-down.yielded_by c.next.result c.next.new.self c.next.ensures.steps c.in-None.is)
