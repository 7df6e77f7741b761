-- How many bytes 10 a text has: its lines are counted by these.
use Rattle.std.specs.Prelude.{ℕ, ◌+◌, List, [], ◌∷◌, eqb}
use Rattle.laws.specs.Counts.{once}

unfoldable pub ends_of : List ℕ → ℕ
ends_of [] = 0
ends_of (b ∷ t) = once (eqb b 10) + ends_of t
