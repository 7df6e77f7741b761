-- What is gathered over places, said of the lists that stand there.
use Prim.Native.Nat.{ℕ, zero, suc, ◌+◌}
use mathlib.Core.Path.{◌≡◌, refl, sym, ap, ap₂, ◌∙◌}
use mathlib.Core.Bool.{Bool, true, false, ◌||◌}
use mathlib.Core.List.{List, [], ◌∷◌, ◌++◌, map, append_assoc, append-nil}
use native.Mathlib.Nat.{add-zero, add_assoc}
use native.Mathlib.Omega.{arith}
use lib.ListN.{length, get_or, take, drop, length-append}
use lib.Seq.{slice, drop-append_seam, get_or-drop, append_snoc, take_at, drop_at}
use Rattle.laws.specs.Lists.{concat_map, numbers}
use Rattle.laws.specs.Places.{gather, any_in, only_if}
use Rattle.laws.proofs.Concats.{map_append}
use Rattle.laws.proofs.Lists.{concat_append}

-- one more at the end of a front
length_snoc : {A : Type 0} (p : List A) (a : A) → length (p ++ (a ∷ [])) ≡ suc (length p)
length_snoc p a = omega (arith, length-append p (a ∷ []))

-- ---- a walk: what G gives at each member of m, seen with all that stands behind it; q stands behind m
unfoldable pub along : {A B : Type 0} → (List A → List B) → List A → List A → List B
along G [] q = []
along G (a ∷ m) q = G (a ∷ (m ++ q)) ++ along G m q

module _ {A B : Type 0} (G : List A → List B) where
  -- along one row and then another
  pub along_append : (x y q : List A) → along G (x ++ y) q ≡ along G x (y ++ q) ++ along G y q
  unfolding along
  along_append [] y q = refl
  along_append (a ∷ x) y q =
      ap₂ (λ u v. G (a ∷ u) ++ v) (append_assoc x y q) (along_append x y q)
      ∙ sym (append_assoc (G (a ∷ (x ++ (y ++ q)))) (along G x (y ++ q)) (along G y q))

  -- part by part, where each part gives the same whatever stands behind it
  pub along_parts : {S : Type 0} (part : S → List A) (F : S → List B)
      → ((s : S) (q : List A) → along G (part s) q ≡ F s)
      → (ss : List S) (q : List A) → along G (concat_map part ss) q ≡ concat_map F ss
  unfolding along concat_map
  along_parts part F e [] q = refl
  along_parts part F e (s ∷ ss) q =
      along_append (part s) (concat_map part ss) q
      ∙ ap₂ ◌++◌ (e s (concat_map part ss ++ q)) (along_parts part F e ss q)

  -- gathering over the places of m in a list is a walk along m
  pub gather_along : (f : ℕ → List B) (p m q : List A) → ((i : ℕ) → f i ≡ G (drop i (p ++ (m ++ q))))
      → gather f (length m) (length p) ≡ along G m q
  unfolding gather along
  gather_along f p [] q e = refl
  gather_along f p (a ∷ m) q e =
      ap₂ ◌++◌ (e (length p) ∙ ap G (drop-append_seam p (a ∷ (m ++ q))))
      (rw (length_snoc p a) at
      (gather_along f (p ++ (a ∷ [])) m q (λ i. e i ∙ ap (λ l. G (drop i l)) (sym (append_assoc p (a ∷ []) (m ++ q))))))

-- where G looks at one member alone
pub along_one : {A B : Type 0} (g : A → List B) (d : A) (m q : List A)
    → along (λ l. g (get_or l 0 d)) m q ≡ concat_map g m
unfolding along concat_map
along_one g d [] q = refl
along_one g d (a ∷ m) q = ap (λ r. g a ++ r) (along_one g d m q)

module _ {A B : Type 0} (f : ℕ → List B) (g : A → List B) (d : A) where
  -- gathering over the places of m in a list
  pub gather_part : (p m q : List A) → ((i : ℕ) → f i ≡ g (get_or (p ++ (m ++ q)) i d))
      → gather f (length m) (length p) ≡ concat_map g m
  gather_part p m q e =
      let at : (i : ℕ) → f i ≡ g (get_or (drop i (p ++ (m ++ q))) 0 d) =
      λ i. e i ∙ ap g (sym (get_or-drop i (p ++ (m ++ q)) 0 d ∙ ap (λ n. get_or (p ++ (m ++ q)) n d) (add-zero i))) in
      gather_along (λ l. g (get_or l 0 d)) f p m q at ∙ along_one g d m q

  -- over all places of a list
  pub gather_all : (l : List A) → ((i : ℕ) → f i ≡ g (get_or l i d)) → gather f (length l) 0 ≡ concat_map g l
  gather_all l e = gather_part [] l [] (rw (append-nil l) e)

-- f of each that is gathered
pub map_gather : {B C : Type 0} (h : B → C) (f : ℕ → List B) (k i : ℕ)
    → map h (gather f k i) ≡ gather (λ j. map h (f j)) k i
unfolding gather
map_gather h f zero i = refl
map_gather h f (suc k) i =
    map_append h (f i) (gather f k (suc i)) ∙ ap (λ r. map h (f i) ++ r) (map_gather h f k (suc i))

-- f of what is taken if the test holds
pub map_only : {B C : Type 0} (h : B → C) (b : Bool) (a : B) → map h (only_if b a) ≡ only_if b (h a)
map_only h true a = refl
map_only h false a = refl

-- gathering goes by the numbers of the places
pub gather_numbers : {B : Type 0} (f : ℕ → List B) (k i : ℕ) → gather f k i ≡ concat_map f (numbers k i)
unfolding gather numbers concat_map
gather_numbers f zero i = refl
gather_numbers f (suc k) i = ap (λ r. f i ++ r) (gather_numbers f k (suc i))

-- ---- over the members of a list by number: R says what is gathered from a place on, by what stands before it and from
-- it on
pub gather_fronts : {A B : Type 0} (h : ℕ → List B) (R : List A → List A → List B) (l : List A)
    → ((a : List A) → R a [] ≡ [])
    → ((a : List A) (s : A) (b : List A) → l ≡ a ++ s ∷ b → R a (s ∷ b) ≡ h (length a) ++ R (a ++ (s ∷ [])) b)
    → (a b : List A) → l ≡ a ++ b → gather h (length b) (length a) ≡ R a b
unfolding gather
gather_fronts h R l z e a [] p = sym (z a)
gather_fronts h R l z e a (s ∷ b) p =
    let q : l ≡ (a ++ (s ∷ [])) ++ b = p ∙ sym (append_assoc a (s ∷ []) b) in
    ap (λ r. h (length a) ++ r) (rw (length_snoc a s) at (gather_fronts h R l z e (a ++ (s ∷ [])) b q))
    ∙ sym (e a s b p)

-- where h gives for each member what F does
pub gather_over : {A B : Type 0} (h : ℕ → List B) (F : A → List B) (l : List A)
    → ((a : List A) (s : A) (b : List A) → l ≡ a ++ s ∷ b → h (length a) ≡ F s) → gather h (length l) 0 ≡ concat_map F l
unfolding concat_map
gather_over h F l e = gather_fronts h (λ a b. concat_map F b) l (λ a. refl)
    (λ a s b p. ap (λ r. r ++ concat_map F b) (sym (e a s b p))) [] l refl

-- ---- a test at some place: something is gathered
abbrev pub filled : {A : Type 0} → List A → Bool
filled [] = false
filled (a ∷ l) = true

-- of two rows one is
filled_append : {A : Type 0} (x y : List A) → filled (x ++ y) ≡ (filled x || filled y)
filled_append [] y = refl
filled_append (a ∷ x) y = refl

-- of one that is taken if the test holds
filled_only : {A : Type 0} (b : Bool) (a : A) → filled (only_if b a) ≡ b
filled_only true a = refl
filled_only false a = refl

-- the test holds at some place exactly if a mark is gathered
pub any_filled : (f : ℕ → Bool) (k i : ℕ) → any_in f k i ≡ filled (gather (λ j. only_if (f j) (tt {0})) k i)
unfolding gather any_in
any_filled f zero i = refl
any_filled f (suc k) i =
    ap₂ ◌||◌ (sym (filled_only (f i) (tt {0}))) (any_filled f k (suc i))
    ∙ sym (filled_append (only_if (f i) (tt {0})) (gather (λ j. only_if (f j) (tt {0})) k (suc i)))

-- ---- where each part begins, and where the last one ends
unfoldable pub starts_at : {A B : Type 0} → (A → List B) → ℕ → List A → List ℕ
starts_at f o [] = o ∷ []
starts_at f o (a ∷ l) = o ∷ starts_at f (o + length (f a)) l

module _ {A B : Type 0} (f : A → List B) where
  -- where the part behind a front begins
  pub start_at : (o : ℕ) (a b : List A) → get_or (starts_at f o (a ++ b)) (length a) 0 ≡ o + length (concat_map f a)
  unfolding starts_at concat_map
  start_at o [] [] = omega arith
  start_at o [] (s ∷ b) = omega arith
  start_at o (x ∷ a) b = omega (arith, start_at (o + length (f x)) a b, length-append (f x) (concat_map f a))

  -- and where it ends
  pub end_at : (o : ℕ) (a : List A) (s : A) (b : List A)
      → get_or (starts_at f o (a ++ s ∷ b)) (length a + 1) 0 ≡ o + length (concat_map f a) + length (f s)
  unfolding concat_map
  end_at o a s b =
      let e : length (a ++ (s ∷ [])) ≡ length a + 1 = length-append a (s ∷ []) in
      let c = start_at o (a ++ (s ∷ [])) b in
      let w : concat_map f (a ++ (s ∷ [])) ≡ concat_map f a ++ f s =
      concat_append f a (s ∷ []) ∙ ap (λ r. concat_map f a ++ r) (append-nil (f s)) in
      rw (append_snoc a s b, e, w, length-append (concat_map f a) (f s)) at c
      ∙ sym (add_assoc o (length (concat_map f a)) (length (f s)))

  -- the part that begins and ends there
  pub part_at : (a : List A) (s : A) (b : List A)
      → slice (get_or (starts_at f 0 (a ++ s ∷ b)) (length a) 0) (get_or (starts_at f 0 (a ++ s ∷ b)) (length a + 1) 0)
      (concat_map f (a ++ s ∷ b)) ≡ f s
  unfolding concat_map
  part_at a s b =
      let x = concat_map f a in
      let w : concat_map f (a ++ s ∷ b) ≡ (x ++ f s) ++ concat_map f b =
      concat_append f a (s ∷ b) ∙ sym (append_assoc x (f s) (concat_map f b)) in
      let t : take (0 + length x + length (f s)) ((x ++ f s) ++ concat_map f b) ≡ x ++ f s =
      take_at (x ++ f s) (concat_map f b) (0 + length x + length (f s)) (omega (arith, length-append x (f s))) in
      rw (start_at 0 a (s ∷ b), end_at 0 a s b, w, t) (drop_at x (f s) (0 + length x) (omega arith))
