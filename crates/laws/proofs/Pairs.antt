-- Laws of two lists whose members belong together one by one.
use mathlib.Core.Path.{◌≡◌, refl, ap}
use mathlib.Core.List.{List, [], ◌∷◌, ◌++◌, map}
use Prim.Native.Nat.{suc}
use lib.ListN.{length}
use Rattle.laws.specs.Every.{Every}
use Rattle.laws.specs.Lists.{concat_map}
use Rattle.laws.specs.Pairs.{Pairs}
use Rattle.laws.proofs.Concats.{both_moved}

module _ {A B : Type 0} (R : A → B → Type 0) where
  -- two rows behind two others
  pub pairs_append : (x : List A) (y : List B) (v : List A) (w : List B) → Pairs R x y → Pairs R v w
      → Pairs R (x ++ v) (y ++ w)
  pairs_append [] [] v w p q = q
  pairs_append [] (b ∷ y) v w p q = absurd p
  pairs_append (a ∷ x) [] v w p q = absurd p
  pairs_append (a ∷ x) (b ∷ y) v w p q = (p.0, pairs_append x y v w p.1 q)

  -- they are equally long
  pub pairs_length : (x : List A) (y : List B) → Pairs R x y → length y ≡ length x
  pairs_length [] [] p = refl
  pairs_length [] (b ∷ y) p = absurd p
  pairs_length (a ∷ x) [] p = absurd p
  pairs_length (a ∷ x) (b ∷ y) p = ap suc (pairs_length x y p.1)

  -- what the members of the one give is, under h, what those of the other give
  pub pairs_concat : {C D : Type 0} (f : A → List C) (g : B → List D) (h : C → D)
      → ((a : A) (b : B) → R a b → g b ≡ map h (f a)) → (x : List A) (y : List B) → Pairs R x y
      → concat_map g y ≡ map h (concat_map f x)
  unfolding concat_map
  pairs_concat f g h e [] [] p = refl
  pairs_concat f g h e [] (b ∷ y) p = absurd p
  pairs_concat f g h e (a ∷ x) [] p = absurd p
  pairs_concat f g h e (a ∷ x) (b ∷ y) p =
      both_moved h (f a) (concat_map f x) (e a b p.0) (pairs_concat f g h e x y p.1)

-- a row and itself
pub pairs_self : {A : Type 0} (P : A → Type 0) (R : A → A → Type 0) → ((a : A) → P a → R a a)
    → (x : List A) → Every P x → Pairs R x x
pairs_self P R f [] p = tt
pairs_self P R f (a ∷ x) p = (f a p.0, pairs_self P R f x p.1)
