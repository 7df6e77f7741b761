-- Statements in a table: i uses used[starts[i]..starts[i + 1]].
use Rattle.std.specs.Prelude.{Bool, ◌&&◌, List, ℕ, ◌+◌, ◌≤◌, ◌<◌, ltb, leb, length, get_or}
use Rattle.std.proofs.Math.Seq.{slice}
use Rattle.limits.specs.Limits.{most_statements}
use Rattle.laws.specs.Counts.{has}
use Rattle.order.specs.Greedy.{all}

-- what i uses
abbrev pub used_of : List ℕ → List ℕ → ℕ → List ℕ
used_of starts used i = slice (get_or starts i 0) (get_or starts (i + 1) 0) used

-- i uses j
abbrev pub uses_by_table : List ℕ → List ℕ → ℕ → ℕ → Bool
uses_by_table starts used i j = has j (used_of starts used i)

-- a table of n statements: there is a start for each, their uses end inside, and only the n are used
pub record Fit (n : ℕ) (starts used : List ℕ) : Type 0 where
  pub few : n ≤ most_statements
  pub begun : n < length starts
  pub ends : (i : ℕ) → i < n → get_or starts (i + 1) 0 ≤ length used
  pub below : (k : ℕ) → k < length used → get_or used k 0 < n

-- the uses of i end within size places
abbrev pub ends_in : List ℕ → ℕ → ℕ → Bool
ends_in starts size i = leb (get_or starts (i + 1) 0) size

-- what is used at place k is below n
abbrev pub below_at : ℕ → List ℕ → ℕ → Bool
below_at n used k = ltb (get_or used k 0) n

-- the same as a test, with room for n places
unfoldable pub fits : ℕ → List ℕ → List ℕ → ℕ → Bool
fits n starts used room =
    leb n most_statements && ltb n (length starts) && leb n room && all n (ends_in starts (length used))
    && all (length used) (below_at n used)
