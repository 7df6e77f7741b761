-- The invariant: x is 10 to the count of turns. Ten times x is the next power, exactly.
use Rattle.std.proofs.Common.{◌≡◌}
use Rattle.tokens.specs.Number.{ten_to}
use Rattle.tokens.proofs.number.ten.Given as goal

abbrev pub invariant-loop-i : goal.invariant-loop-i
invariant-loop-i l =
    l.x ≡ ten_to l._i
