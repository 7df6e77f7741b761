-- The invariant: what is counted and what is left to count are all.
use Rattle.std.proofs.Common.{ap, arith}
use Rattle.std.specs.Slice.Iter.{chunks_rest}
use Rattle.std.proofs.lemmas.List.{nil_from_length}
use Rattle.deck.specs.Ends.{ends_of}
use Rattle.deck.proofs.Ends.{ends_append, ends_le}
use Rattle.deck.proofs.counts.count_ends.Goals as goal

pub loop-part-preserved : goal.loop-part-preserved
loop-part-preserved c =
    let steps = c.in-Some.ensures.steps in
    let parts = ap ends_of steps.1.0 in
    let both = ends_append c.in-Some.part.now (chunks_rest c.next.new.self) in
    let counted = c.loop-part.invariant in
    (omega arith, tt, omega arith, omega arith)

pub overflow_add-n : goal.overflow_add-n
overflow_add-n c =
    let parts = ap ends_of c.in-Some.ensures.steps.1.0 in
    let both = ends_append c.in-Some.part.now (chunks_rest c.next.new.self) in
    let counted = c.loop-part.invariant in
    let few = ends_le c.args.text.now in
    omega arith

pub returns : goal.returns
unfolding ends_of
returns c =
    let none = ap ends_of (nil_from_length _ c.in-None.ensures.steps.1.0) in
    let counted = c.loop-part.invariant in
    let few = ends_le c.args.text.now in
    (omega arith, omega arith)
