-- The grammar: what a row of tokens means, and a statement of a text.
use Prim.Native.Nat.{suc}
use mathlib.Core.Bool.{Bool}
use mathlib.Core.List.{List}
use Rattle.limits.specs.Limits.{levels}
use Rattle.deck.specs.Lines.{Line}
use Rattle.tokens.specs.Symbol.{Symbol}
use Rattle.grammar.specs.Meaning.{Front, Means, deepest}
use Rattle.grammar.proofs.Means as lower
use Rattle.sheet.specs.StatementMeans.{StatementMeans}
use Rattle.sheet.proofs.StatementMeans as sheets

-- WHAT A ROW MEANS
pub means : (row : List Symbol) → Means row
means = lower.means

-- WHAT A STATEMENT MEANS
pub statement_means : (lines : List Line) (closed : Bool) → StatementMeans lines closed
statement_means = sheets.statement_means

-- THE EXCEPTION stands: as many openings as levels and then a function's name begin a statement with one level more,
-- and none with the levels that there are
pub exception : Front (suc levels) (deepest levels) × (Front levels (deepest levels) → ⊥)
exception = lower.exception
