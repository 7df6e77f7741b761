-- Laws of rows and of what holds of each member.
use Prim.Native.Nat.{ℕ, zero, suc, ◌≤◌, ◌<◌}
use mathlib.Core.Path.{◌≡◌, refl}
use mathlib.Core.Logic.{⊎_elim}
use mathlib.Core.List.Memᴰ
use mathlib.Core.List.{List, [], ◌∷◌, map, Memᴰ}
use native.Mathlib.Omega.{arith}
use lib.ListN.{length, get_or}
use Rattle.laws.specs.Lists.{concat_map}
use Rattle.laws.specs.Every.{Every}
use Rattle.laws.specs.Counts.{count, ◌∈◌}
use Rattle.laws.proofs.Every.{every_left, every_right}
use Rattle.laws.proofs.Counts.{count_append, once_same, once_other}
use Rattle.laws.proofs.Tests.{eq_or_ne}

-- ---- what holds of every member

module _ {A : Type 0} (P : A → Type 0) where
  -- holds of each
  pub every_of : (l : List A) → Every P l → (a : A) → Memᴰ a l → P a
  every_of [] h a m = absurd (Memᴰ.not-nil m)
  every_of (b ∷ l) h a m = ⊎_elim (λ (e : a ≡ b). rw e h.0) (λ t. every_of l h.1 a t) (Memᴰ.cases_cons m)

  -- and back
  pub every_member : (l : List A) → ((a : A) → Memᴰ a l → P a) → Every P l
  every_member [] f = tt
  every_member (a ∷ l) f = (f a (Memᴰ.head refl), every_member l (λ b m. f b (Memᴰ.tail m)))

  -- what holds at each place holds of every member
  pub every_places : (d : A) (l : List A) → ((i : ℕ) → i < length l → P (get_or l i d)) → Every P l
  every_places d [] f = tt
  every_places d (a ∷ l) f = (f 0 (omega arith), every_places d l (λ i h. f (suc i) (omega arith)))

  -- of a row made of parts: of the members of each part
  pub every_parts : {B : Type 0} (f : B → List A) (l : List B) → Every P (concat_map f l)
      → Every (λ (b : B). Every P (f b)) l
  unfolding concat_map
  every_parts f [] h = tt
  every_parts f (b ∷ l) h =
      (every_left P (f b) (concat_map f l) h, every_parts f l (every_right P (f b) (concat_map f l) h))

  -- of a mapped row
  pub every_unmapped : {B : Type 0} (f : B → A) (l : List B) → Every P (map f l) → Every (λ (b : B). P (f b)) l
  every_unmapped f [] h = tt
  every_unmapped f (b ∷ l) h = (h.0, every_unmapped f l h.1)

-- of numbers: of each that stands in the row
pub every_number : (P : ℕ → Type 0) (l : List ℕ) → Every P l → (i : ℕ) → i ∈ l → P i
unfolding count
every_number P [] a i h = absurd (omega arith)
every_number P (m ∷ l) a i h =
    ⊎_elim (λ (e : i ≡ m). rw e a.0) (λ e. every_number P l a.1 i (omega (arith, once_other i m e)))
    (eq_or_ne i m)

-- and back
pub number_every : (P : ℕ → Type 0) (l : List ℕ) → ((i : ℕ) → i ∈ l → P i) → Every P l
unfolding count
number_every P [] f = tt
number_every P (i ∷ l) f = (f i (omega (arith, once_same i)), number_every P l (λ m h. f m (omega arith)))

-- two things at once
pub every_both : {A : Type 0} (P Q : A → Type 0) (l : List A) → Every P l → Every Q l → Every (λ (a : A). P a × Q a) l
every_both P Q [] p q = tt
every_both P Q (a ∷ l) p q = ((p.0, q.0), every_both P Q l p.1 q.1)

-- ---- members of rows made of parts

-- a number stands in the row as often as in a part, or more often
pub few_in : {A : Type 0} (f : A → List ℕ) (l : List A) (d : A) (i k : ℕ) → i < length l
    → count k (f (get_or l i d)) ≤ count k (concat_map f l)
unfolding concat_map
few_in f [] d i k h = absurd (omega arith)
few_in f (a ∷ l) d zero k h = omega (arith, count_append k (f a) (concat_map f l))
few_in f (a ∷ l) d (suc i) k h = omega (arith, few_in f l d i k (omega arith), count_append k (f a) (concat_map f l))

-- one of a part stands in the row, where the parts go by numbers
pub in_parts : (f : ℕ → List ℕ) (l : List ℕ) (i k : ℕ) → i ∈ l → k ∈ f i → k ∈ concat_map f l
unfolding concat_map count
in_parts f [] i k h m = absurd (omega arith)
in_parts f (a ∷ l) i k h m =
    ⊎_elim (λ (e : i ≡ a). let m' : k ∈ f a = rw e at m in omega (arith, count_append k (f a) (concat_map f l)))
    (λ e. omega (arith, in_parts f l i k (omega (arith, once_other i a e)) m, count_append k (f a) (concat_map f l)))
    (eq_or_ne i a)
