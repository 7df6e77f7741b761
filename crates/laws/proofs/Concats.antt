-- Laws of rows that are made one after the other.
use Prim.Native.Nat.{ℕ, zero, suc, ◌<◌}
use mathlib.Core.Path.{◌≡◌, refl, sym, ap, ap₂, ◌∙◌}
use mathlib.Core.List.{List, [], ◌∷◌, ◌++◌, map}
use native.Mathlib.Omega.{arith}
use lib.ListN.{length, get_or, length-map}
use Rattle.laws.specs.Lists.{concat_map}
use Rattle.laws.specs.Counts.{count, ◌∈◌}
use Rattle.laws.proofs.Counts.{count_cons_same}
use Rattle.laws.proofs.Lists.{concat_append}

-- a map of two rows, one behind the other
pub map_append : {A B : Type 0} (f : A → B) (x y : List A) → map f (x ++ y) ≡ map f x ++ map f y
map_append f [] y = refl
map_append f (a ∷ x) y = ap (◌∷◌ (f a)) (map_append f x y)

-- a row made of a row
pub concat_concat : {A B C : Type 0} (f : B → List C) (g : A → List B) (l : List A)
    → concat_map f (concat_map g l) ≡ concat_map (λ (a : A). concat_map f (g a)) l
unfolding concat_map
concat_concat f g [] = refl
concat_concat f g (a ∷ l) =
    concat_append f (g a) (concat_map g l) ∙ ap (λ r. concat_map f (g a) ++ r) (concat_concat f g l)

-- .. with f of each member
pub map_concat : {A B C : Type 0} (f : B → C) (g : A → List B) (l : List A)
    → map f (concat_map g l) ≡ concat_map (λ (a : A). map f (g a)) l
unfolding concat_map
map_concat f g [] = refl
map_concat f g (a ∷ l) = map_append f (g a) (concat_map g l) ∙ ap (λ r. map f (g a) ++ r) (map_concat f g l)

-- a row made of mapped members
pub concat_mapped : {A B C : Type 0} (f : B → List C) (g : A → B) (l : List A)
    → concat_map f (map g l) ≡ concat_map (λ (a : A). f (g a)) l
unfolding concat_map
concat_mapped f g [] = refl
concat_mapped f g (a ∷ l) = ap (λ r. f (g a) ++ r) (concat_mapped f g l)

-- two functions that agree make the same row
pub concat_same : {A B : Type 0} (f g : A → List B) → ((a : A) → f a ≡ g a) → (l : List A)
    → concat_map f l ≡ concat_map g l
unfolding concat_map
concat_same f g e [] = refl
concat_same f g e (a ∷ l) = ap₂ ◌++◌ (e a) (concat_same f g e l)

-- it is enough that they agree on the members
pub concat_same_in : {B : Type 0} (f g : ℕ → List B) (l : List ℕ) → ((a : ℕ) → a ∈ l → f a ≡ g a)
    → concat_map f l ≡ concat_map g l
unfolding concat_map count
concat_same_in f g [] e = refl
concat_same_in f g (a ∷ l) e =
    ap₂ ◌++◌ (e a (omega (arith, count_cons_same a l))) (concat_same_in f g l (λ b h. e b (omega arith)))

-- .. and so of two functions
pub map_same_in : {B : Type 0} (f g : ℕ → B) (l : List ℕ) → ((a : ℕ) → a ∈ l → f a ≡ g a) → map f l ≡ map g l
unfolding count
map_same_in f g [] e = refl
map_same_in f g (a ∷ l) e =
    ap₂ ◌∷◌ (e a (omega (arith, count_cons_same a l))) (map_same_in f g l (λ b h. e b (omega arith)))

-- a row whose parts are those of another under h is that row under h
pub concat_parts : {A B C : Type 0} (f : A → List C) (f' : A → List B) (h : B → C)
    → ((a : A) → f a ≡ map h (f' a)) → (l : List A) → concat_map f l ≡ map h (concat_map f' l)
concat_parts f f' h e l = concat_same f _ e l ∙ sym (map_concat h f' l)

-- .. where its members are the other's under g
pub concat_moved : {A B C D : Type 0} (f : B → List D) (f' : A → List C) (g : A → B) (h : C → D)
    → ((a : A) → f (g a) ≡ map h (f' a)) → (l : List A) → concat_map f (map g l) ≡ map h (concat_map f' l)
concat_moved f f' g h e l = concat_mapped f g l ∙ concat_parts (λ a. f (g a)) f' h e l

-- two such rows, one behind the other, are those two under h
pub both_moved : {A B : Type 0} (h : A → B) (x y : List A) {v w : List B} → v ≡ map h x → w ≡ map h y
    → v ++ w ≡ map h (x ++ y)
both_moved h x y p q = ap₂ ◌++◌ p q ∙ sym (map_append h x y)

-- a function that gives nothing makes an empty row
pub concat_none : {A B : Type 0} (f : A → List B) → ((a : A) → f a ≡ []) → (l : List A) → concat_map f l ≡ []
unfolding concat_map
concat_none f e [] = refl
concat_none f e (a ∷ l) = rw (e a) (concat_none f e l)

-- an empty row has empty parts
pub none_left : {A : Type 0} (x y : List A) → x ++ y ≡ [] → (x ≡ []) × (y ≡ [])
none_left [] y e = (refl, e)
none_left (a ∷ x) y e = absurd (let z : ◌≡◌ {A = ℕ} 0 1 = cc in omega arith)

-- two rows that are the same by f and g are so place by place
pub same_at : {A B C : Type 0} (f : A → C) (g : B → C) (x : List A) (y : List B) (d : A) (e : B)
    → map f x ≡ map g y → (i : ℕ) → i < length x → f (get_or x i d) ≡ g (get_or y i e)
same_at f g [] y d e p i h = absurd (omega arith)
same_at f g (a ∷ x) [] d e p i h = absurd (let z : ◌≡◌ {A = ℕ} 0 1 = cc in omega arith)
same_at f g (a ∷ x) (b ∷ y) d e p zero h = cc
same_at f g (a ∷ x) (b ∷ y) d e p (suc i) h = same_at f g x y d e (let q : map f x ≡ map g y = cc in q) i (omega arith)

-- and as long as one another
pub same_length : {A B C : Type 0} (f : A → C) (g : B → C) (x : List A) (y : List B) → map f x ≡ map g y
    → length x ≡ length y
same_length f g x y p = sym (length-map x f) ∙ ap length p ∙ length-map y g

-- what stands at a place of a row made by f, whatever is read past the end
pub at_map : {A B : Type 0} (f : A → B) (l : List A) (d : A) (e : B) (i : ℕ) → i < length l
    → get_or (map f l) i e ≡ f (get_or l i d)
at_map f [] d e i h = absurd (omega arith)
at_map f (a ∷ l) d e zero h = refl
at_map f (a ∷ l) d e (suc i) h = at_map f l d e i (omega arith)
