-- The invariant: what is counted and what is left to count are all.
use Rattle.std.proofs.Common.{◌≡◌, ◌+◌}
use Rattle.std.specs.Slice.Iter.{chunks_rest, chunks_size}
use Rattle.deck.specs.Ends.{ends_of}
use Rattle.deck.proofs.counts.count_ends.Given as goal

abbrev pub invariant-loop-part : goal.invariant-loop-part
invariant-loop-part l =
    (goal.iterator-loop-part).can_next l.part-iterator
    × (goal.iterator-loop-part).is_finite l.part-iterator
    × (chunks_size l.part-iterator ≡ 192)
    × (l.n + ends_of (chunks_rest l.part-iterator) ≡ ends_of l.text)
