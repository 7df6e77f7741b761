-- Where parts begin that are themselves made of parts.
use Prim.Native.Nat.{ℕ, ◌+◌}
use mathlib.Core.Path.{◌≡◌, refl, sym, ap, ap₂, ◌∙◌}
use mathlib.Core.List.{List, [], ◌∷◌, ◌++◌, map, append_assoc, append-nil}
use native.Mathlib.Nat.{add-zero}
use native.Mathlib.Omega.{arith}
use lib.ListN.{length, get_or, length-map, length-append}
use lib.Seq.{get_or-append-add}
use Rattle.laws.specs.Lists.{concat_map}
use Rattle.laws.proofs.Lists.{concat_append}
use Rattle.laws.proofs.Concats.{map_append}
use Rattle.laws.proofs.Along.{starts_at, start_at}

-- where each part begins, without where the last one ends
unfoldable pub fronts_at : {A B : Type 0} → (A → List B) → ℕ → List A → List ℕ
fronts_at f o [] = []
fronts_at f o (a ∷ l) = o ∷ fronts_at f (o + length (f a)) l

pub starts_fronts : {A B : Type 0} (f : A → List B) (o : ℕ) (l : List A)
    → starts_at f o l ≡ fronts_at f o l ++ ((o + length (concat_map f l)) ∷ [])
unfolding starts_at fronts_at concat_map
starts_fronts f o [] = ap (λ (n : ℕ). n ∷ []) (sym (add-zero o))
starts_fronts f o (a ∷ l) =
    let e : o + length (f a) + length (concat_map f l) ≡ o + length (f a ++ concat_map f l) =
    omega (arith, length-append (f a) (concat_map f l)) in
    ap (◌∷◌ o) (starts_fronts f (o + length (f a)) l ∙ ap (λ (n : ℕ). fronts_at f (o + length (f a)) l ++ (n ∷ [])) e)

-- parts f of which each member is a part g: where a whole part begins, its first member's does
module _ {A B C : Type 0} (f : A → List B) (g : B → List C) (us : List A) where
  abbrev inner_starts : List ℕ
  inner_starts = starts_at g 0 (concat_map f us)

  -- behind a front
  at_front : (a b : List A) → us ≡ a ++ b
      → length (concat_map g (concat_map f a)) ≡ get_or inner_starts (length (concat_map f a)) 0
  at_front a b p =
      let e = start_at g 0 (concat_map f a) (concat_map f b) in
      let z : length (concat_map g (concat_map f a)) ≡ 0 + length (concat_map g (concat_map f a)) = omega arith in
      z ∙ sym (rw (p, concat_append f a b) e)

  from_front : (a b : List A) → us ≡ a ++ b
      → starts_at (λ (u : A). concat_map g (f u)) (length (concat_map g (concat_map f a))) b
      ≡ map (λ (j : ℕ). get_or inner_starts j 0) (starts_at f (length (concat_map f a)) b)
  unfolding starts_at concat_map
  from_front a [] p = ap (λ (n : ℕ). n ∷ []) (at_front a [] p)
  from_front a (u ∷ b) p =
      let q : us ≡ (a ++ (u ∷ [])) ++ b = p ∙ sym (append_assoc a (u ∷ []) b) in
      let w : concat_map f (a ++ (u ∷ [])) ≡ concat_map f a ++ f u =
      concat_append f a (u ∷ []) ∙ ap (λ (r : List B). concat_map f a ++ r) (append-nil (f u)) in
      let m : length (concat_map f (a ++ (u ∷ []))) ≡ length (concat_map f a) + length (f u) =
      ap length w ∙ length-append (concat_map f a) (f u) in
      let n : length (concat_map g (concat_map f (a ++ (u ∷ []))))
      ≡ length (concat_map g (concat_map f a)) + length (concat_map g (f u)) =
      ap (λ (r : List B). length (concat_map g r)) w ∙ ap length (concat_append g (concat_map f a) (f u))
      ∙ length-append (concat_map g (concat_map f a)) (concat_map g (f u)) in
      ap₂ ◌∷◌ (at_front a (u ∷ b) p) (rw (m, n) at (from_front (a ++ (u ∷ [])) b q))

  -- THE STARTS of the whole parts among those of their members
  pub starts_nested : starts_at (λ (u : A). concat_map g (f u)) 0 us
      ≡ map (λ (j : ℕ). get_or inner_starts j 0) (starts_at f 0 us)
  unfolding concat_map
  starts_nested = from_front [] us refl

-- where a part begins stands its first member: k tells of a part what l tells of that
module _ {A B : Type 0} (f : A → List B) (k : A → ℕ) (l : B → ℕ)
    (first : (u : A) (r : List B) → get_or (map l (f u ++ r)) 0 0 ≡ k u) (us : List A) where
  fronts_from : (a b : List A) → us ≡ a ++ b
      → map k b ≡ map (λ (j : ℕ). get_or (map l (concat_map f us)) j 0) (fronts_at f (length (concat_map f a)) b)
  unfolding fronts_at concat_map
  fronts_from a [] p = refl
  fronts_from a (u ∷ b) p =
      let q : us ≡ (a ++ (u ∷ [])) ++ b = p ∙ sym (append_assoc a (u ∷ []) b) in
      let w : concat_map f (a ++ (u ∷ [])) ≡ concat_map f a ++ f u =
      concat_append f a (u ∷ []) ∙ ap (λ (r : List B). concat_map f a ++ r) (append-nil (f u)) in
      let m : length (concat_map f (a ++ (u ∷ []))) ≡ length (concat_map f a) + length (f u) =
      ap length w ∙ length-append (concat_map f a) (f u) in
      let n = length (concat_map f a) in
      let all : map l (concat_map f us) ≡ map l (concat_map f a) ++ map l (f u ++ concat_map f b) =
      ap (map l) (ap (concat_map f) p ∙ concat_append f a (u ∷ b))
      ∙ map_append l (concat_map f a) (f u ++ concat_map f b) in
      let seam = get_or-append-add (map l (concat_map f a)) (map l (f u ++ concat_map f b)) 0 0 in
      let at : n ≡ length (map l (concat_map f a)) + 0 = omega (arith, length-map (concat_map f a) l) in
      let here : get_or (map l (concat_map f us)) n 0 ≡ k u =
      ap₂ (λ (x : List ℕ) (j : ℕ). get_or x j 0) all at ∙ seam ∙ first u (concat_map f b) in
      ap₂ ◌∷◌ (sym here) (rw m at (fronts_from (a ++ (u ∷ [])) b q))

  pub fronts_told : map k us ≡ map (λ (j : ℕ). get_or (map l (concat_map f us)) j 0) (fronts_at f 0 us)
  unfolding concat_map
  fronts_told = fronts_from [] us refl
