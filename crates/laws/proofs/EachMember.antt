-- From one equation over a whole table to each of its members.
use mathlib.Core.Path.{◌≡◌}
use mathlib.Core.List.Memᴰ
use mathlib.Core.List.{List, [], ◌∷◌, map, Memᴰ}
use mathlib.Core.Logic.{⊎_elim}

module _ {A B : Type 0} (f g : A → B) where
  -- lists that are equal have equal heads
  heads : (a b : B) (as' bs : List B) → a ∷ as' ≡ b ∷ bs → a ≡ b
  heads a b as' bs e = cc

  -- and equal tails
  tails : (a b : B) (as' bs : List B) → a ∷ as' ≡ b ∷ bs → as' ≡ bs
  tails a b as' bs e = cc

  -- what f and g give for the whole table is equal, so it is for each member
  pub at_mem : (xs : List A) → map f xs ≡ map g xs → (x : A) → Memᴰ x xs → f x ≡ g x
  at_mem [] e x m = absurd (Memᴰ.not-nil m)
  at_mem (y ∷ ys) e x m =
      ⊎_elim
      (λ h. rw h (heads (f y) (g y) (map f ys) (map g ys) e))
      (λ h. at_mem ys (tails (f y) (g y) (map f ys) (map g ys) e) x h)
      (Memᴰ.cases_cons m)
