-- Each cut gives the token together with the place where the next one begins.
use Rattle.std.specs.Prelude.{ℕ, ◌+◌, List, ◌||◌, cond, length, get_or, eqb, leb, ltb}
use Rattle.limits.specs.Limits.{name_bytes}
use Rattle.faults.specs.declared.Fault.{Fault}
use Rattle.faults.specs.declared.Fault.TheVariants.{StrayByte, LongName, Malformed}
use Rattle.tokens.specs.declared.Token.{Token}
use Rattle.tokens.specs.declared.Token.TheVariants.{Name, Mark, End, Bad}
use Rattle.tokens.specs.declared.Cut.{Cut}
use Rattle.tokens.specs.Bytes.{is_letter, is_digit, is_point, is_word, is_mark, spaces_at, word_at}
use Rattle.tokens.specs.Number.{Digits, digits_from, Exponent, exponent, wrong, exponent_from, number_with}

abbrev pub cut_of : Token → ℕ → ℕ → Cut
cut_of t at next = record { token = t; at = at; next = next }

-- behind a bad token nothing is read
abbrev pub bad_at : Fault → ℕ → Cut
bad_at fault at = cut_of (Bad fault) at at

-- a letter, digit or point directly after the number makes it malformed, 16
abbrev pub number_end : List ℕ → ℕ → Digits → Exponent → Cut
number_end s at m wrong = bad_at Malformed at
number_end s at m (exponent minus e stop) =
    cond (is_word (get_or s stop 0) || is_point (get_or s stop 0)) (bad_at Malformed at)
    (cut_of (number_with m minus e) at stop)

-- a number: at least one digit, and what follows decides
unfoldable pub number_cut : List ℕ → ℕ → Cut
number_cut s at =
    let m = digits_from s at in
    cond (eqb m.count 0) (bad_at Malformed at) (number_end s at m (exponent_from s m.end))

-- a name: a letter, then letters and digits, the longest run; over nameBytes characters it is 15
unfoldable pub name_at : List ℕ → ℕ → Cut
name_at s at =
    let n = length (word_at s at) in
    cond (ltb name_bytes n) (bad_at LongName at) (cut_of (Name at n) at (at + n))

-- the token that starts at a place where no space stands; a byte that starts none is 14
unfoldable pub token_at : List ℕ → ℕ → Cut
token_at s at =
    let b = get_or s at 0 in
    cond (leb (length s) at) (cut_of End at at)
    (cond (is_letter b) (name_at s at)
    (cond (is_digit b || is_point b) (number_cut s at)
    (cond (is_mark b) (cut_of (Mark b) at (at + 1)) (bad_at StrayByte at))))

-- the next token from a place on: spaces separate
unfoldable pub cut_at : List ℕ → ℕ → Cut
cut_at s from = token_at s (from + length (spaces_at s from))
