-- What one cut gives a row, as code holds it.
use Rattle.std.specs.Prelude.{ℕ, List, take, drop, Option, Some, None, Result, Ok, Err}
use Rattle.tokens.specs.declared.Token.{Token}
use Rattle.tokens.specs.declared.Token.TheVariants.{Name, Mark, Number, End, Bad}
use Rattle.tokens.specs.declared.RowError.{RowError}
use Rattle.tokens.specs.declared.RowError.TheVariants.{Bad as Refused}
use Rattle.tokens.specs.declared.step.Held.{Held}
use Rattle.tokens.specs.declared.step.Step.{Step}
use Rattle.tokens.specs.Symbol.{Symbol, mark, number, symbol_named}
use Rattle.tokens.specs.Held.{symbol_kind, arg_of}
use Rattle.tokens.specs.Token.{cut_at}

-- a token's kind and argument
abbrev pub held_as : Symbol → Held
held_as t = record { kind = symbol_kind t; arg = arg_of t }

-- a token to be written, and where the next one begins
abbrev pub good_step : Symbol → ℕ → Result (Option Step) RowError
good_step t next = Ok (Some (record { held = held_as t; next = next }))

-- by the token of the cut: a token to be written, the end, or a bad one behind so many good ones
abbrev pub step_of : List ℕ → Token → ℕ → ℕ → ℕ → Result (Option Step) RowError
step_of s (Name p n) at next count = good_step (symbol_named (take n (drop p s))) next
step_of s (Mark b) at next count = good_step (mark b) next
step_of s (Number x) at next count = good_step (number x) next
step_of s End at next count = Ok None
step_of s (Bad fault) at next count = Err (Refused fault count at)

-- from a place on
abbrev pub row_step_at : List ℕ → ℕ → ℕ → Result (Option Step) RowError
row_step_at s from count = step_of s (cut_at s from).token (cut_at s from).at (cut_at s from).next count
