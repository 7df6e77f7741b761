-- The parts of a number as code holds them: a number over mostDigits is held as one more than that, which is out of
-- range too.
use Rattle.std.specs.Prelude.{ℕ, ◌+◌, min, true, false, List, length, get_or, Option, Some, None}
use Rattle.limits.specs.Limits.{most_digits}
use Rattle.tokens.specs.declared.number.Decimal.{Decimal}
use Rattle.tokens.specs.declared.number.Mantissa.{Mantissa}
use Rattle.tokens.specs.declared.number.Power.{Power}
use Rattle.tokens.specs.Bytes.{digits_at}
use Rattle.tokens.specs.Number.{Digits, decimal, Exponent, exponent, wrong}

abbrev pub cap : ℕ
cap = most_digits + 1

-- the digits from a place on, read behind the number a, and the byte behind them
abbrev pub decimal_at : List ℕ → ℕ → ℕ → Decimal
decimal_at s from a =
    let end = from + length (digits_at s from) in
    record { value = min cap (decimal a (digits_at s from)); end = end; behind = get_or s end 0 }

-- the digits before an exponent
abbrev pub capped : List ℕ → Digits → Mantissa
capped s d =
    record { value = min cap d.amount; after = d.after; count = d.count; end = d.end; behind = get_or s d.end 0 }

-- an exponent: with a minus it stands in down, else in up
abbrev pub power_of : List ℕ → Exponent → Option Power
power_of s (exponent true e stop) = Some (record { up = 0; down = e; end = stop; behind = get_or s stop 0 })
power_of s (exponent false e stop) = Some (record { up = e; down = 0; end = stop; behind = get_or s stop 0 })
power_of s wrong = None
