-- The invariant: what is counted and what is left to count are all.
use Rattle.std.proofs.Common.{◌≡◌, ◌+◌, length}
use Rattle.std.specs.Slice.Iter.{chunks_rest, chunks_size}
use Rattle.blocks.specs.Places.{defining_in}
use Rattle.blocks.proofs.definitions.count_defining.Given as goal

abbrev pub invariant-loop-part : goal.invariant-loop-part
invariant-loop-part l =
    (goal.iterator-loop-part).can_next l.part-iterator
    × (goal.iterator-loop-part).is_finite l.part-iterator
    × (chunks_size l.part-iterator ≡ 192)
    × (l.n + length (defining_in (chunks_rest l.part-iterator)) ≡ length (defining_in l.kinds))
