-- What a cut shows of a text: a token as the grammar sees it, a bad token's code, or the end.
use Rattle.std.specs.Prelude.{ℕ, List, take, drop}
use Rattle.faults.specs.Codes.{code_of}
use Rattle.tokens.specs.declared.Token.{Token}
use Rattle.tokens.specs.declared.Token.TheVariants.{Name, Mark, Number, End, Bad}
use Rattle.tokens.specs.Symbol.{Symbol, mark, number, symbol_named}
use Rattle.tokens.specs.Token.{cut_at}

pub data Seen : Type 0 where
  token : Symbol → Seen
  ill : ℕ → Seen
  over : Seen

abbrev pub seen_of : List ℕ → Token → Seen
seen_of s (Name p n) = token (symbol_named (take n (drop p s)))
seen_of s (Mark b) = token (mark b)
seen_of s (Number x) = token (number x)
seen_of s End = over
seen_of s (Bad fault) = ill (code_of fault)

-- from a place on
abbrev pub seen_at : List ℕ → ℕ → Seen
seen_at s i = seen_of s (cut_at s i).token
