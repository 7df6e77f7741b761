-- The place of a token by skipping those before it, which are good, without their values.
use Rattle.std.specs.Prelude.{ℕ, zero, suc, ◌+◌, ◌||◌, cond, List, eqb, ltb, length, get_or}
use Rattle.tokens.specs.Bytes.{is_letter, is_digit, is_point, spaces_at, digits_at, word_at}
use Rattle.tokens.specs.Number.{sign_end}

-- behind the digits from a place on
abbrev pub digits_end : List ℕ → ℕ → ℕ
digits_end s at = at + length (digits_at s at)

-- behind a point and the digits that follow it, if a point stands there
abbrev pub point_end : List ℕ → ℕ → ℕ
point_end s at = cond (is_point (get_or s at 0)) (digits_end s (at + 1)) at

-- behind an E, a sign and the digits that follow it, if an E stands there
abbrev pub power_end : List ℕ → ℕ → ℕ
power_end s at = cond (eqb (get_or s at 0) 69) (digits_end s (sign_end s (at + 1))) at

-- behind the token that begins at a place; there, at the text's end
unfoldable pub token_end : List ℕ → ℕ → ℕ
token_end s at =
    let b = get_or s at 0 in
    let other = cond (ltb at (length s)) (at + 1) at in
    let figures = power_end s (point_end s (digits_end s at)) in
    cond (is_letter b) (at + length (word_at s at)) (cond (is_digit b || is_point b) figures other)

-- where the token behind i others begins
unfoldable pub place_behind : ℕ → List ℕ → ℕ → ℕ
place_behind zero s from = from + length (spaces_at s from)
place_behind (suc i) s from = place_behind i s (token_end s (from + length (spaces_at s from)))
