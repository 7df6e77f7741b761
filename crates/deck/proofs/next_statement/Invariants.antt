-- The invariant: what is found from the present line on is what is found from the cursor.
use Rattle.std.proofs.Common.{◌≡◌, ◌-◌, length}
use Rattle.deck.proofs.Steps.{Seeking}
use Rattle.deck.proofs.next_statement.Given as goal

abbrev pub invariant-loop-line : goal.invariant-loop-line
invariant-loop-line l = (l.ahead.text.now ≡ l.text) × Seeking l.text l.fn.c l.ahead.at l.first

abbrev pub decreases-loop-line : goal.decreases-loop-line
decreases-loop-line l = length l.text - l.ahead.at
