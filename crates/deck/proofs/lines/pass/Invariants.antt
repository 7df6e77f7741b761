-- The invariant: from each place that was passed it is the same line's end.
use Rattle.std.proofs.Common.{◌-◌, length}
use Rattle.deck.specs.Next.{SameEnd}
use Rattle.deck.proofs.lines.pass.Given as goal

abbrev pub invariant-loop-i : goal.invariant-loop-i
invariant-loop-i l = SameEnd l.text l.at l.i

abbrev pub decreases-loop-i : goal.decreases-loop-i
decreases-loop-i l = length l.text - l.i
