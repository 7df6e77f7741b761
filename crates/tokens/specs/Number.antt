-- Numbers: digits with at most one point and at least one digit, then optionally E, an optional sign and one or two
-- digits.
use Rattle.std.specs.Prelude.{ℕ, ◌+◌, ◌*◌, ◌-◌, ◌^◌, List, [], ◌∷◌, ◌++◌, Bool, true, false, ◌&&◌, ◌||◌, cond, length}
use Rattle.std.specs.Prelude.{get_or, eqb, leb, pos, Float}
use Rattle.std.specs.Float.{binary64}
use Rattle.std.specs.Float.Ieee.{mul, div, of_int}
use Rattle.limits.specs.Limits.{most_digits, most_tens, exponent_digits}
use Rattle.faults.specs.declared.Fault.TheVariants.{OutOfRange}
use Rattle.tokens.specs.declared.Token.{Token}
use Rattle.tokens.specs.declared.Token.TheVariants.{Number, Bad}
use Rattle.tokens.specs.Bytes.{is_point, digits_at}

-- digits read as a whole number, behind the number a
unfoldable pub decimal : ℕ → List ℕ → ℕ
decimal a [] = a
decimal a (b ∷ bs) = decimal (a * 10 + (b - 48)) bs

-- the digits before an exponent: read as a whole number without the point, which is m; how many stand after the point;
-- how many there are; and the place behind them
pub record Digits : Type 0 where
  pub amount : ℕ
  pub after : ℕ
  pub count : ℕ
  pub end : ℕ

abbrev pub plain_digits : List ℕ → ℕ → Digits
plain_digits w p = record { amount = decimal 0 w; after = 0; count = length w; end = p }

abbrev pub point_digits : List ℕ → List ℕ → ℕ → Digits
point_digits w f p =
    record { amount = decimal 0 (w ++ f); after = length f; count = length w + length f; end = p + length f }

-- the digits from a place on: a run of them, and behind a point another
unfoldable pub digits_from : List ℕ → ℕ → Digits
digits_from s at =
    let w = digits_at s at in
    let p = at + length w in
    cond (is_point (get_or s p 0)) (point_digits w (digits_at s (p + 1)) (p + 1)) (plain_digits w p)

-- what stands behind the digits: an exponent with its sign, value and the place behind it (0 where there is no E), or
-- an E that begins none
pub data Exponent : Type 0 where
  exponent : Bool → ℕ → ℕ → Exponent
  wrong : Exponent

-- a sign + or - is passed over
abbrev pub sign_end : List ℕ → ℕ → ℕ
sign_end s at = cond (eqb (get_or s at 0) 43 || eqb (get_or s at 0) 45) (at + 1) at

-- one or two digits: the exponent, with a minus or without
abbrev pub exponent_of : Bool → List ℕ → ℕ → Exponent
exponent_of minus d from =
    cond (leb 1 (length d) && leb (length d) exponent_digits) (exponent minus (decimal 0 d) (from + length d)) wrong

unfoldable pub exponent_from : List ℕ → ℕ → Exponent
exponent_from s at =
    let from = sign_end s (at + 1) in
    cond (eqb (get_or s at 0) 69) (exponent_of (eqb (get_or s (at + 1) 0) 45) (digits_at s from) from)
    (exponent false 0 at)

-- 10 to the k
unfoldable pub ten_to : ℕ → Float
ten_to k = of_int binary64 (pos (10 ^ k))

-- The value is m times 10^k. k is `up` less `down`: one multiplication for k of 0 or more, one division by 10^-k
-- otherwise
unfoldable pub scaled : ℕ → ℕ → ℕ → Float
scaled m up down =
    cond (leb down up) (mul binary64 (of_int binary64 (pos m)) (ten_to (up - down)))
    (div binary64 (of_int binary64 (pos m)) (ten_to (down - up)))

-- m is at most mostDigits, and k is at most mostTens from 0
abbrev pub in_range : ℕ → ℕ → ℕ → Bool
in_range m up down = leb m most_digits && (leb up (down + most_tens) && leb down (up + most_tens))

-- 17: m or k out of range
unfoldable pub ranged_number : ℕ → ℕ → ℕ → Token
ranged_number m up down = cond (in_range m up down) (Number (scaled m up down)) (Bad OutOfRange)

-- k is the exponent less the count of digits after the point
abbrev pub number_with : Digits → Bool → ℕ → Token
number_with m true e = ranged_number m.amount 0 (e + m.after)
number_with m false e = ranged_number m.amount e m.after
