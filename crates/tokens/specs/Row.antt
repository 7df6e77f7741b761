-- The tokens of a statement's joined text, each with the place of its first byte, up to the end or the first bad token.
use Rattle.std.specs.Prelude.{ℕ, zero, suc, List, [], ◌∷◌, map, length, take, drop}
use Rattle.faults.specs.Codes.{code_of}
use Rattle.tokens.specs.declared.Token.{Token}
use Rattle.tokens.specs.declared.Token.TheVariants.{Name, Mark, Number, End, Bad}
use Rattle.tokens.specs.Token.{cut_at}
use Rattle.tokens.specs.Symbol.{Symbol, mark, number, symbol_named}

-- a token as the grammar sees it, and the place of its first byte
pub record Placed : Type 0 where
  pub symbol : Symbol
  pub at : ℕ

-- how a row ends: all tokens are good; or the first bad one, its code and its place
pub data Close : Type 0 where
  all_good : Close
  bad : ℕ → ℕ → Close

pub record Row : Type 0 where
  pub tokens : List Placed
  pub close : Close

-- no token, and how the row ends
abbrev pub bare : Close → Row
bare c = record { tokens = []; close = c }

abbrev pub onto : Symbol → ℕ → Row → Row
onto t at r = record { tokens = record { symbol = t; at = at } ∷ r.tokens; close = r.close }

-- the token of a cut before what follows it; the end and a bad token close the row
abbrev pub ahead : List ℕ → Token → ℕ → Row → Row
ahead s (Name p n) at r = onto (symbol_named (take n (drop p s))) at r
ahead s (Mark b) at r = onto (mark b) at r
ahead s (Number x) at r = onto (number x) at r
ahead s End at r = bare all_good
ahead s (Bad fault) at r = bare (bad (code_of fault) at)

-- from a place on, with at most f cuts
unfoldable pub row_from : ℕ → List ℕ → ℕ → Row
row_from zero s from = bare all_good
row_from (suc f) s from =
    let c = cut_at s from in
    let r = row_from f s c.next in
    ahead s c.token c.at r

-- every token has a byte or more, so as many cuts as there are bytes, and one for the end, are enough
unfoldable pub row_of : List ℕ → Row
row_of s = row_from (suc (length s)) s 0

-- what stands behind the last token
abbrev pub no_token : Placed
no_token = record { symbol = mark 0; at = 0 }

-- what the grammar sees of the tokens
abbrev pub symbols : List Placed → List Symbol
symbols ps = map (λ (p : Placed). p.symbol) ps
