-- The invariant: from here the digits end where they end from the start, read behind `value` they are the same number,
-- and `behind` is the byte here.
use Rattle.std.proofs.Common.{◌≡◌, ◌+◌, ◌-◌, ◌≤◌, min, length, get_or}
use Rattle.tokens.specs.Bytes.{digits_at}
use Rattle.tokens.specs.Number.{decimal}
use Rattle.tokens.specs.Capped.{cap}
use Rattle.tokens.proofs.number.digits.Given as goal

abbrev pub invariant-loop-behind : goal.invariant-loop-behind
invariant-loop-behind l =
    record {
      ends : l.end + length (digits_at l.body l.end) ≡ l.from + length (digits_at l.body l.from);
      reads : min cap (decimal l.value (digits_at l.body l.end)) ≡ min cap (decimal l.before (digits_at l.body l.from));
      capped : l.value ≤ cap;
      here : l.behind ≡ get_or l.body l.end 0;
    }

abbrev pub decreases-loop-behind : goal.decreases-loop-behind
decreases-loop-behind l =
    length l.body - l.end
