-- Laws of lists.
use mathlib.Core.Path.{◌≡◌, refl}
use mathlib.Core.List.{List, [], ◌∷◌, ◌++◌, append_assoc}
use Rattle.laws.specs.Lists.{concat_map}

pub concat_append : {A B : Type 0} (f : A → List B) (x y : List A)
    → concat_map f (x ++ y) ≡ concat_map f x ++ concat_map f y
unfolding concat_map
concat_append f [] y = refl
concat_append f (a ∷ x) y = rw (concat_append f x y, append_assoc (f a))
