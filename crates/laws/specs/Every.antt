-- What holds of each member of a list.
use Rattle.std.specs.Prelude.{List, [], ◌∷◌}

-- P of each
abbrev pub Every : {A : Type 0} → (A → Type 0) → List A → Type 0
Every P [] = Unit {0}
Every P (a ∷ l) = P a × Every P l
