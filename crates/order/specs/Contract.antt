-- What the open entry promises, and what it is made of.
use Rattle.std.specs.Prelude.{◌≡◌, cond, List, ℕ, length, Option, Some, None}
use Rattle.std.proofs.lemmas.List.Edits.{sets}
use Rattle.order.specs.Greedy.{order}
use Rattle.order.specs.Table.{uses_by_table, fits}

-- the order stands at the front of `out`, whose rest is as lent, and has k places
pub record Filled (n : ℕ) (starts used lent out : List ℕ) (k : ℕ) : Type 0 where
  pub count : k ≡ length (order n (uses_by_table starts used))
  pub content : out ≡ sets lent 0 (order n (uses_by_table starts used))

-- `sort`: of a table that fits, the order: how many were placed, and they stand at the front of `out`, the rest of it
-- as lent; of any other none, and nothing is written
pub record Sorts (n : ℕ) (starts used lent : List ℕ) (r : Option ℕ) (out : List ℕ) : Type 0 where
  pub answer : r ≡ cond (fits n starts used (length lent)) (Some (length (order n (uses_by_table starts used)))) None
  pub content : out ≡ cond (fits n starts used (length lent)) (sets lent 0 (order n (uses_by_table starts used))) lent
