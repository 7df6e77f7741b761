-- Where the parser stops, as its proof finds it. What 18 and 19 mean stands in specs/Meaning, and law `means` says that
-- both are the same.
use Prim.Native.Nat.{ℕ, suc, ◌+◌, ◌≤◌, ◌<◌}
use mathlib.Core.List.{List}
use lib.ListN.{length, take}
use Rattle.limits.specs.Limits.{levels}
use Rattle.tokens.specs.Symbol.{Symbol}
use Rattle.drafts.specs.Tree.{Says}
use Rattle.grammar.specs.Grammar.{Derives}
use Rattle.grammar.specs.Meaning.{Calm, Front, TooDeep}

-- at place i no statement can go on: what stands before it is the front of one, within the levels but for a function's
-- name that wants one more; with the token there it is the front of none, whatever the levels; and the row is none (at
-- its end that is all)
pub record Wrong (row : List Symbol) (i : ℕ) : Type 0 where
  pub within : i ≤ length row
  pub before : Front (suc levels) (take i row)
  pub before_calm : Calm (take i row) → Front levels (take i row)
  pub no_more : i < length row → (d : ℕ) → Front d (take (i + 1) row) → ⊥
  pub not_whole : (d : ℕ) (x : Says) → Derives d row x → ⊥

-- the first such place, and the code
pub data Stops (row : List Symbol) : ℕ → ℕ → Type 0 where
  wrong : {i : ℕ} → Wrong row i → ((j : ℕ) → j < i → TooDeep row j → ⊥) → Stops row 18 i
  deep : {i : ℕ} → TooDeep row i → ((j : ℕ) → j < i → TooDeep row j → ⊥) → Stops row 19 i
