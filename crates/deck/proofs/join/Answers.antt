-- The invariant: to write what is left, on the buffer as it is, gives what to write all gave at first.
use Rattle.std.proofs.Common.{sym, ◌∙◌, arith}
use Rattle.deck.specs.Next.{lines_at}
use Rattle.deck.proofs.Ahead.{line_turn, line_last}
use Rattle.deck.proofs.Writes.{joining_over, joining_next, joining_last, part_fits, joined_fits}
use Rattle.deck.proofs.join.Goals as goal

pub put_card-w-requires : goal.put_card-w-requires
put_card-w-requires c =
    let text = c.args.text.now in
    let left = line_turn (lines_at text c.args.start c.args.lines) c.lines_at-line-items.ensures
    c.into_iter-line-iterator.ensures.into_iter_gives c.loop-line.yielded c.loop-line.line-iterator
    c.loop-line.yielded_by c.next.result c.next.new.self c.next.ensures.steps c.in-Some.line c.in-Some.is in
    let card = sym c.is_comment.ensures ∙ c.if-not-is_comment.true in
    omega (arith, part_fits c.loop-line.invariant.2 _ _ left card, joined_fits text c.args.start c.args.lines)

pub loop-line-preserved-then-not-is_comment : goal.loop-line-preserved-then-not-is_comment
loop-line-preserved-then-not-is_comment c =
    let left = line_turn (lines_at c.args.text.now c.args.start c.args.lines) c.lines_at-line-items.ensures
    c.into_iter-line-iterator.ensures.into_iter_gives c.loop-line.yielded c.loop-line.line-iterator
    c.loop-line.yielded_by c.next.result c.next.new.self c.next.ensures.steps c.in-Some.line c.in-Some.is in
    let card = sym c.is_comment.ensures ∙ c.if-not-is_comment.true in
    let put = c.put_card-w.ensures in
    (tt, tt, joining_next c.loop-line.invariant.2 _ _ left _ _ card put.value put.written)

pub loop-line-preserved : goal.loop-line-preserved
loop-line-preserved c =
    let left = line_turn (lines_at c.args.text.now c.args.start c.args.lines) c.lines_at-line-items.ensures
    c.into_iter-line-iterator.ensures.into_iter_gives c.loop-line.yielded c.loop-line.line-iterator
    c.loop-line.yielded_by c.next.result c.next.new.self c.next.ensures.steps c.in-Some.line c.in-Some.is in
    (tt, tt, joining_over c.loop-line.invariant.2 _ _ left (sym c.is_comment.ensures ∙ c.if-not-is_comment.false))

pub returns : goal.returns
returns c =
    joining_last c.loop-line.invariant.2
    (line_last (lines_at c.args.text.now c.args.start c.args.lines) c.lines_at-line-items.ensures
    c.into_iter-line-iterator.ensures.into_iter_gives c.loop-line.yielded c.loop-line.line-iterator
    c.loop-line.yielded_by c.next.result c.next.new.self c.next.ensures.steps c.in-None.is)
