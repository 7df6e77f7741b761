-- The invariant: to write what is left, on the buffer as it is, gives what to write all gave at first.
use Rattle.std.proofs.Common.{length, drop}
use Rattle.deck.specs.Next.{lines_at}
use Rattle.deck.proofs.Writes.{Joining}
use Rattle.deck.proofs.join.Given as goal

abbrev pub invariant-loop-line : goal.invariant-loop-line
invariant-loop-line l =
    (goal.iterator-loop-line).can_next l.line-iterator
    × (goal.iterator-loop-line).is_finite l.line-iterator
    × (let all = lines_at l.text l.start l.lines in
    Joining all (drop (length l.yielded) all) l.initial.out l.out l.w l.apart)
