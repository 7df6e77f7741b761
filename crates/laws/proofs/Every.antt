-- Laws of what holds of each member of a list.
use Prim.Native.Nat.{ℕ, zero, suc, ◌<◌}
use mathlib.Core.List.{List, [], ◌∷◌, ◌++◌, map}
use native.Mathlib.Omega.{arith}
use lib.ListN.{length, get_or}
use Rattle.laws.specs.Every.{Every}
use Rattle.laws.specs.Lists.{concat_map}

module _ {A : Type 0} (P : A → Type 0) where
  -- of two rows
  pub every_append : (x y : List A) → Every P x → Every P y → Every P (x ++ y)
  every_append [] y a b = b
  every_append (e ∷ x) y a b = (a.0, every_append x y a.1 b)

  -- of either row
  pub every_left : (x y : List A) → Every P (x ++ y) → Every P x
  every_left [] y a = tt
  every_left (e ∷ x) y a = (a.0, every_left x y a.1)

  -- of the second
  pub every_right : (x y : List A) → Every P (x ++ y) → Every P y
  every_right [] y a = a
  every_right (e ∷ x) y a = every_right x y a.1

  -- of what stands at a place
  pub every_at : (l : List A) (d : A) → Every P l → (i : ℕ) → i < length l → P (get_or l i d)
  every_at [] d a i h = absurd (omega arith)
  every_at (e ∷ l) d a zero h = a.0
  every_at (e ∷ l) d a (suc i) h = every_at l d a.1 i (omega arith)

  -- of what is read at any place, if what is read past the end has it
  pub every_anywhere : (d : A) → P d → (l : List A) (i : ℕ) → Every P l → P (get_or l i d)
  every_anywhere d z [] i a = z
  every_anywhere d z (e ∷ l) zero a = a.0
  every_anywhere d z (e ∷ l) (suc i) a = every_anywhere d z l i a.1

  -- of the one between two rows
  pub every_inside : (x : List A) (e : A) (y : List A) → Every P (x ++ e ∷ y) → P e
  every_inside [] e y a = a.0
  every_inside (b ∷ x) e y a = every_inside x e y a.1

  -- of all
  pub every_all : ((a : A) → P a) → (l : List A) → Every P l
  every_all f [] = tt
  every_all f (a ∷ l) = (f a, every_all f l)

-- one thing after the other
pub every_map : {A : Type 0} (P Q : A → Type 0) (l : List A) → ((a : A) → P a → Q a) → Every P l → Every Q l
every_map P Q [] f a = tt
every_map P Q (e ∷ l) f a = (f e a.0, every_map P Q l f a.1)

-- of each part of a row
pub every_concat : {A B : Type 0} (P : A → Type 0) (Q : B → Type 0) (f : A → List B) → ((a : A) → P a → Every Q (f a))
    → (l : List A) → Every P l → Every Q (concat_map f l)
unfolding concat_map
every_concat P Q f g [] a = tt
every_concat P Q f g (e ∷ l) a = every_append Q (f e) (concat_map f l) (g e a.0) (every_concat P Q f g l a.1)

-- of each mapped member
pub every_mapped : {A B : Type 0} (P : A → Type 0) (Q : B → Type 0) (f : A → B) → ((a : A) → P a → Q (f a))
    → (l : List A) → Every P l → Every Q (map f l)
every_mapped P Q f g [] a = tt
every_mapped P Q f g (e ∷ l) a = (g e a.0, every_mapped P Q f g l a.1)

-- of rows of any members
pub every_part : {A B : Type 0} (Q : B → Type 0) (f : A → List B) → ((a : A) → Every Q (f a)) → (l : List A)
    → Every Q (concat_map f l)
unfolding concat_map
every_part Q f g [] = tt
every_part Q f g (e ∷ l) = every_append Q (f e) (concat_map f l) (g e) (every_part Q f g l)
