-- Rising lists: each number is larger than the one before, and the first is at least b.
use Rattle.std.specs.Prelude.{ℕ, suc, ◌≤◌, List, [], ◌∷◌}

abbrev pub Rising : ℕ → List ℕ → Type 0
Rising b [] = Unit {0}
Rising b (a ∷ l) = (b ≤ a) × Rising (suc a) l
