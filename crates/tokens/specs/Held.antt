-- A token as code holds it: two numbers, its kind and its argument.
use Rattle.std.specs.Prelude.{ℕ, ◌+◌, ◌*◌, cond, List, [], ◌∷◌, map, ltb, get_or}
use Rattle.std.specs.Float.{binary64}
use Rattle.std.specs.Float.Ieee.{to_bits, of_bits}
use Rattle.tokens.specs.Symbol.{reserved, look_up, Symbol, mark, number, name, word}
use Rattle.tokens.specs.Kinds.{number_kind, name_kind, roles, word_kind, last_word_kind}

-- a mark's kind is its byte
abbrev pub symbol_kind : Symbol → ℕ
symbol_kind (mark b) = b
symbol_kind (number x) = number_kind
symbol_kind (name k) = name_kind
symbol_kind (word w) = word_kind w

-- a number's argument is the bits of its value, a name's its key; the others have none, 0
abbrev pub arg_of : Symbol → ℕ
arg_of (mark b) = 0
arg_of (number x) = to_bits binary64 x
arg_of (name k) = k
arg_of (word w) = 0

-- the number of three bytes of a name from place i on, 0 for those past the end
abbrev pub three_of : List ℕ → ℕ → ℕ
three_of n i = get_or n i 0 + 256 * get_or n (i + 1) 0 + 65536 * get_or n (i + 2) 0

-- the kind of a name token's bytes
unfoldable pub kind_named : List ℕ → ℕ
kind_named n = look_up word_kind name_kind reserved n

-- ---- and back: the token of a kind and an argument. Every two numbers are one

-- the kinds up to the last role's, by the argument
abbrev pub low_symbols : ℕ → List Symbol
low_symbols a = mark 0 ∷ number (of_bits binary64 a) ∷ name a ∷ map word roles

abbrev pub symbol_of : ℕ → ℕ → Symbol
symbol_of k a = cond (ltb last_word_kind k) (mark k) (get_or (low_symbols a) k (mark 0))

-- the row that kinds and arguments hold
unfoldable pub held_row : List ℕ → List ℕ → List Symbol
held_row [] args = []
held_row (k ∷ kinds) [] = []
held_row (k ∷ kinds) (a ∷ args) = symbol_of k a ∷ held_row kinds args
