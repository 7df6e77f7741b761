-- The values of numbers and the keys of names.
use Rattle.std.specs.Prelude.{ℕ, ◌+◌, ◌-◌, ◌*◌, ◌^◌, ◌≤◌, ◌<◌, ◌≡◌, false, ◌||◌, List, [], ◌∷◌, ◌++◌, T, pos, length}
use Rattle.std.specs.Prelude.{get_or, take, drop, Float}
use Rattle.std.specs.Float.{binary64}
use Rattle.std.specs.Float.Ieee.{round, of_int}
use Rattle.std.specs.Float.Ieee.Exact.{HasValue}
use Rattle.std.specs.Float.Ieee.Scale.{finite}
use Rattle.laws.specs.Runs.{front_run}
use Rattle.limits.specs.Limits.{most_digits, most_tens, exponent_digits, name_bytes}
use Rattle.tokens.specs.Bytes.{is_digit, is_point, is_word}
use Rattle.tokens.specs.Number.{decimal, ten_to, scaled}

-- ---- values: m times 10 to the k, where k is `up` less `down`

-- m is at most `most_digits`, and k at most `most_tens` from 0
pub record InRange (m up down : ℕ) : Type 0 where
  pub digits : m ≤ most_digits
  pub most : up ≤ down + most_tens
  pub least : down ≤ up + most_tens

-- both operands are exact, the result is rounded once from m times 10 to the k, and it is finite
pub record RoundedOnce (m up down : ℕ) : Type 0 where
  pub whole_exact : HasValue (of_int binary64 (pos m)) false m 1
  pub times_exact : HasValue (ten_to (up - down)) false (10 ^ (up - down)) 1
  pub over_exact : HasValue (ten_to (down - up)) false (10 ^ (down - up)) 1
  pub times : down ≤ up → scaled m up down ≡ round binary64 false (m * 10 ^ (up - down)) 1
  pub over : up < down → scaled m up down ≡ round binary64 false m (10 ^ (down - up))
  pub bounded : T (finite (scaled m up down))

-- ---- a number's text: digits with at most one point and at least one digit, then optionally E, an optional sign and
-- one or two digits. Beside each byte stands its character

-- at most one point: none, or one with the digits after it
pub data PointPart : Type 0 where
  no_point : PointPart
  point : List ℕ → PointPart

-- an optional sign
pub data Sign : Type 0 where
  no_sign : Sign
  plus_sign : Sign
  minus_sign : Sign

-- an optional exponent: none, or E with a sign and digits
pub data ExponentPart : Type 0 where
  no_exponent : ExponentPart
  raised_by : Sign → List ℕ → ExponentPart

-- a number: the digits before a point, and what follows them
pub record NumberParts : Type 0 where
  pub before : List ℕ
  pub pointed : PointPart
  pub raised : ExponentPart

-- the point: .
abbrev pub point_bytes : PointPart → List ℕ
point_bytes no_point = []
point_bytes (point ds) = 46 ∷ ds

-- the signs: + and -
abbrev pub sign_bytes : Sign → List ℕ
sign_bytes no_sign = []
sign_bytes plus_sign = 43 ∷ []
sign_bytes minus_sign = 45 ∷ []

-- the letter: E
abbrev pub exponent_bytes : ExponentPart → List ℕ
exponent_bytes no_exponent = []
exponent_bytes (raised_by sign ds) = 69 ∷ (sign_bytes sign ++ ds)

-- the bytes of a number
abbrev pub number_bytes : NumberParts → List ℕ
number_bytes n = (n.before ++ point_bytes n.pointed) ++ exponent_bytes n.raised

-- the digits after the point
abbrev pub after_point : PointPart → List ℕ
after_point no_point = []
after_point (point ds) = ds

-- all digits before the exponent, without the point
abbrev pub digits_of : NumberParts → List ℕ
digits_of n = n.before ++ after_point n.pointed

-- an exponent has one or two digits
abbrev pub FewDigits : ExponentPart → Type 0
FewDigits no_exponent = Unit {0}
FewDigits (raised_by sign ds) = (front_run is_digit ds ≡ ds) × (1 ≤ length ds) × (length ds ≤ exponent_digits)

-- the parts make a number: all digits are digits, and there is at least one before the exponent
pub record IsNumber (n : NumberParts) : Type 0 where
  pub digits : front_run is_digit (digits_of n) ≡ digits_of n
  pub some : 1 ≤ length (digits_of n)
  pub few : FewDigits n.raised

-- m: the digits read as a whole number without the point
abbrev pub whole_of : NumberParts → ℕ
whole_of n = decimal 0 (digits_of n)

-- the exponent: what it adds to k, 0 if there is none, and what it takes off
abbrev pub exponent_up : ExponentPart → ℕ
exponent_up no_exponent = 0
exponent_up (raised_by no_sign ds) = decimal 0 ds
exponent_up (raised_by plus_sign ds) = decimal 0 ds
exponent_up (raised_by minus_sign ds) = 0

abbrev pub exponent_down : ExponentPart → ℕ
exponent_down no_exponent = 0
exponent_down (raised_by no_sign ds) = 0
exponent_down (raised_by plus_sign ds) = 0
exponent_down (raised_by minus_sign ds) = decimal 0 ds

-- k: the exponent less the count of digits after the point, as `up` less `down`
abbrev pub up_of : NumberParts → ℕ
up_of n = exponent_up n.raised

abbrev pub down_of : NumberParts → ℕ
down_of n = exponent_down n.raised + length (after_point n.pointed)

-- x is the value of m times 10 to the k
pub record IsValue (m up down : ℕ) (x : Float) : Type 0 where
  pub range : InRange m up down
  pub value : x ≡ scaled m up down
  pub rounded : RoundedOnce m up down

-- no letter, digit or point
abbrev pub Apart : ℕ → Type 0
Apart b = (is_word b || is_point b) ≡ false

-- at this place of the text stands a number, no letter, digit or point directly after it, and x is its own value
pub record NumberAt (text : List ℕ) (at : ℕ) (x : Float) : Type 0 where
  pub parts : NumberParts
  pub number : IsNumber parts
  pub stands : take (length (number_bytes parts)) (drop at text) ≡ number_bytes parts
  pub ends : Apart (get_or text (at + length (number_bytes parts)) 0)
  pub value : IsValue (whole_of parts) (up_of parts) (down_of parts) x

-- ---- names: letters and digits, at most six
pub record Name (n : List ℕ) : Type 0 where
  pub spelled : front_run is_word n ≡ n
  pub few : length n ≤ name_bytes
