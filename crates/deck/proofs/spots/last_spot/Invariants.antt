-- The invariant: to search the lines that are left gives what to search all gave at first.
use Rattle.std.proofs.Common.{length, drop}
use Rattle.deck.specs.Next.{lines_at}
use Rattle.deck.proofs.Spotting.{LastLeft}
use Rattle.deck.proofs.spots.last_spot.Given as goal

abbrev pub invariant-loop-down : goal.invariant-loop-down
invariant-loop-down l =
    (goal.iterator-loop-down).can_next l.down-iterator
    × (goal.iterator-loop-down).is_finite l.down-iterator
    × (let all = lines_at l.text l.start l.lines in
    LastLeft all (drop (length l.yielded) all) (length l.yielded) l.last)
