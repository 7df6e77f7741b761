-- How often a number stands in a list; membership is a count above 0.
use Rattle.std.specs.Prelude.{ℕ, ◌+◌, ◌<◌, Bool, true, false, List, [], ◌∷◌, ltb, eqb}

abbrev pub once : Bool → ℕ
once true = 1
once false = 0

-- how often j stands in a list
unfoldable pub count : ℕ → List ℕ → ℕ
count j [] = 0
count j (a ∷ l) = once (eqb j a) + count j l

-- j stands in l
infix 4 ◌∈◌
abbrev pub ◌∈◌ : ℕ → List ℕ → Type 0
j ∈ l = 0 < count j l

-- the same as a test
abbrev pub has : ℕ → List ℕ → Bool
has j l = ltb 0 (count j l)
