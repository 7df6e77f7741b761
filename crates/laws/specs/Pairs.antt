-- Two lists whose members belong together one by one.
use Rattle.std.specs.Prelude.{List, [], ◌∷◌}

-- R of the first two, of the second two, and so on; and neither list is longer
abbrev pub Pairs : {A B : Type 0} → (A → B → Type 0) → List A → List B → Type 0
Pairs R [] [] = Unit {0}
Pairs R [] (b ∷ y) = ⊥
Pairs R (a ∷ x) [] = ⊥
Pairs R (a ∷ x) (b ∷ y) = R a b × Pairs R x y
