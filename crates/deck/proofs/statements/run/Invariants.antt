-- The invariant: what is read from the present line on is what is read from the first.
use Rattle.std.proofs.Common.{◌≡◌, ◌+◌, ◌-◌, length}
use Rattle.deck.proofs.Steps.{Running}
use Rattle.deck.proofs.statements.run.Given as goal

abbrev pub invariant-loop-comment : goal.invariant-loop-comment
invariant-loop-comment l =
    (l.ahead.text.now ≡ l.text)
    × Running l.text l.first l.start l.ahead.at l.line l.lines l.cards l.long

abbrev pub decreases-loop-comment : goal.decreases-loop-comment
decreases-loop-comment l = length l.text + 1 - l.ahead.at
