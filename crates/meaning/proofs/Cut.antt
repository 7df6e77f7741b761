-- Laws of lists that are cut into parts and put together again in another order.
use Prim.Native.Nat.{ℕ, zero, suc, ◌+◌, ◌<◌}
use mathlib.Core.Path.{◌≡◌, refl, sym, ap, ap₂, subst, ◌∙◌}
use mathlib.Core.Bool.{Bool, true, false, cond}
use mathlib.Core.Logic.{⊎_elim}
use mathlib.Core.List.Memᴰ
use mathlib.Core.List.{List, [], ◌∷◌, ◌++◌, map, Memᴰ}
use native.Mathlib.Omega.{arith}
use lib.ListN.{length, get_or, drop, length-append, length-map}
use Rattle.laws.specs.Every.{Every}
use Rattle.laws.specs.Lists.{concat_map, numbers}
use Rattle.laws.specs.Counts.{count, ◌∈◌}
use Rattle.laws.specs.Runs.{front_run}
use Rattle.laws.proofs.Tests.{eq_or_ne, cond_ind}
use Rattle.laws.proofs.Counts.{once_other}
use Rattle.laws.proofs.Every.{every_append, every_left, every_right, every_anywhere, every_part}
use Rattle.laws.proofs.Concats.{map_append, map_concat, concat_same}
use Rattle.laws.proofs.Runs.{run_parts, run_mapped}
use Rattle.laws.proofs.Sums.{lengths_same, numbers_once, numbers_few}
use Rattle.laws.proofs.Along.{gather_all, gather_numbers}
use Rattle.order.specs.Order.{Permutation}
use Rattle.order.proofs.Sorting.{perm_below}
use Rattle.meaning.specs.ReSorted.{before_parts, cut_behind}
use Rattle.meaning.proofs.Rows.{every_parts}

-- ---- the parts

-- one after the other they are the list
cut_whole : {A : Type 0} (t : A → Bool) (l : List A) → concat_map (λ (s : List A). s) (cut_behind t l) ≡ l
unfolding cut_behind concat_map
cut_whole t [] = refl
cut_whole {A} t (a ∷ l) =
    cond_ind (λ (ss : List (List A)). concat_map (λ (s : List A). s) ss ≡ a ∷ l) (t a) _ _
    (λ _. ap (λ (r : List A). a ∷ r) (cut_whole t l)) (λ _. before (cut_behind t l) (cut_whole t l))
  where
    before : (ss : List (List A)) → concat_map (λ (s : List A). s) ss ≡ l
        → concat_map (λ (s : List A). s) (before_parts a ss) ≡ a ∷ l
    before [] e = ap (λ (r : List A). a ∷ r) e
    before (s ∷ ss) e = ap (λ (r : List A). a ∷ r) e

-- those of a mapped list are mapped
cut_mapped : {A B : Type 0} (t : A → Bool) (f : B → A) (l : List B)
    → cut_behind t (map f l) ≡ map (map f) (cut_behind (λ (b : B). t (f b)) l)
unfolding cut_behind
cut_mapped t f [] = refl
cut_mapped {A} {B} t f (b ∷ l) = go (t (f b)) (cut_mapped t f l)
  where
    before : (ss : List (List B)) → before_parts (f b) (map (map f) ss) ≡ map (map f) (before_parts b ss)
    before [] = refl
    before (s ∷ ss) = refl

    go : (c : Bool) → cut_behind t (map f l) ≡ map (map f) (cut_behind (λ (b : B). t (f b)) l)
        → cond c ((f b ∷ []) ∷ cut_behind t (map f l)) (before_parts (f b) (cut_behind t (map f l)))
        ≡ map (map f)
        (cond c ((b ∷ []) ∷ cut_behind (λ (b : B). t (f b)) l) (before_parts b (cut_behind (λ (b : B). t (f b)) l)))
    go true e = ap (λ (r : List (List A)). (f b ∷ []) ∷ r) e
    go false e = ap (before_parts (f b)) e ∙ before (cut_behind (λ (b : B). t (f b)) l)

-- ---- members

-- one of a row of parts stands in a part
in_some : {A B : Type 0} (f : List A → List B) (b : B) (ss : List (List A)) → Memᴰ b (concat_map f ss)
    → (i : ℕ) × (i < length ss) × Memᴰ b (f (get_or ss i []))
unfolding concat_map
in_some f b [] m = absurd (Memᴰ.not-nil m)
in_some f b (s ∷ ss) m =
    ⊎_elim (λ t. (0, omega arith, t))
    (λ t. let r = in_some f b ss t in (suc r.0, omega (arith, r.1), r.2)) (Memᴰ.append_cases (f s) m)

-- one of a part stands in each row that has the part
in_row : {B : Type 0} (f : ℕ → List B) (q : List ℕ) (i : ℕ) (b : B) → i ∈ q → Memᴰ b (f i)
    → Memᴰ b (concat_map f q)
unfolding concat_map count
in_row f [] i b h m = absurd (omega arith)
in_row f (j ∷ q) i b h m =
    ⊎_elim
    (λ (e : i ≡ j). Memᴰ.append_left (concat_map f q) (subst (λ (k : ℕ). Memᴰ b (f k)) e m))
    (λ e. Memᴰ.append_right (f j) (in_row f q i b (omega (arith, once_other i j e)) m)) (eq_or_ne i j)

-- ---- a list whose front of members that pass `kept` stays, and whose parts behind it, each up to and including a
-- member that passes `last`, stand in the order q

-- what stands behind that front
abbrev pub behind : {A : Type 0} → (A → Bool) → List A → List A
behind kept l = drop (length (front_run kept l)) l

module _ {A : Type 0} (kept last : A → Bool) where
  abbrev pub parts : List A → List (List A)
  parts l = cut_behind last (behind kept l)

  abbrev pub moved : List ℕ → List A → List A
  moved q l = front_run kept l ++ concat_map (λ (i : ℕ). get_or (parts l) i []) q

  -- what holds of each member holds of each of the front, and of each of any part
  pub part_every : (P : A → Type 0) (l : List A) → Every P (behind kept l) → (i : ℕ) → Every P (get_or (parts l) i [])
  part_every P l h i =
      let each = every_parts P (λ (s : List A). s) (parts l) (rw (cut_whole last (behind kept l)) h) in
      every_anywhere (Every P) [] tt (parts l) i each

  pub moved_every : (P : A → Type 0) (q : List ℕ) (l : List A) → Every P l → Every P (moved q l)
  moved_every P q l h =
      let both : Every P (front_run kept l ++ behind kept l) = rw (run_parts kept l) h in
      every_append P (front_run kept l) _ (every_left P (front_run kept l) (behind kept l) both)
      (every_part P (λ (i : ℕ). get_or (parts l) i [])
      (part_every P l (every_right P (front_run kept l) (behind kept l) both)) q)

  -- ---- where each part stands once
  module _ (q : List ℕ) (l : List A) (once : Permutation (length (parts l)) q) where
    -- there are as many members
    pub moved_length : length (moved q l) ≡ length l
    moved_length =
        let n = length (parts l) in
        let F : ℕ → List A = λ (i : ℕ). get_or (parts l) i [] in
        let same = lengths_same F n q (numbers n 0) (perm_below n (λ i j. false) q once) (numbers_few n)
        (λ i h. once.within i h ∙ sym (numbers_once n 0 i (omega arith) (omega arith))) in
        let all : concat_map F (numbers n 0) ≡ behind kept l =
        sym (gather_numbers F n 0) ∙ gather_all F (λ (s : List A). s) [] (parts l) (λ i. refl)
        ∙ cut_whole last (behind kept l) in
        length-append (front_run kept l) (concat_map F q)
        ∙ ap (λ k. length (front_run kept l) + k) (same ∙ ap length all)
        ∙ sym (length-append (front_run kept l) (behind kept l))
        ∙ ap length (run_parts kept l)

    -- and each is still there, also by what f makes of it
    pub moved_member : {B : Type 0} (f : A → B) (b : B) → Memᴰ b (map f l) → Memᴰ b (map f (moved q l))
    moved_member {B} f b m =
        let F : ℕ → List A = λ (i : ℕ). get_or (parts l) i [] in
        let cut : l ≡ front_run kept l ++ concat_map (λ (s : List A). s) (parts l) =
        sym (run_parts kept l) ∙ ap (λ (r : List A). front_run kept l ++ r) (sym (cut_whole last (behind kept l))) in
        let whole : map f l ≡ map f (front_run kept l) ++ concat_map (map f) (parts l) =
        ap (map f) cut
        ∙ map_append f (front_run kept l) _
        ∙ ap (λ (r : List B). map f (front_run kept l) ++ r) (map_concat f (λ (s : List A). s) (parts l)) in
        let later : map f (moved q l) ≡ map f (front_run kept l) ++ concat_map (λ (i : ℕ). map f (F i)) q =
        map_append f (front_run kept l) _ ∙ ap (λ (r : List B). map f (front_run kept l) ++ r) (map_concat f F q) in
        rw later
        (⊎_elim (λ t. Memᴰ.append_left _ t)
        (λ t.
        let r = in_some (map f) b (parts l) t in
        Memᴰ.append_right (map f (front_run kept l))
        (in_row (λ (i : ℕ). map f (F i)) q r.0 b (omega (arith, once.within r.0 r.1)) r.2))
        (Memᴰ.append_cases (map f (front_run kept l)) (rw whole at m)))

-- a mapped list is moved as the list is
module _ {A B : Type 0} (kept last : A → Bool) (f : B → A) where
  abbrev kept_by : B → Bool
  kept_by b = kept (f b)

  abbrev last_by : B → Bool
  last_by b = last (f b)

  -- behind the front
  behind_mapped : (l : List B) → behind kept (map f l) ≡ map f (behind kept_by l)
  behind_mapped l =
      ap (λ (r : List A). drop (length r) (map f l)) (run_mapped kept f l)
      ∙ ap (λ n. drop n (map f l)) (length-map (front_run kept_by l) f)
      ∙ drop_mapped (length (front_run kept_by l)) l
    where
      drop_mapped : (n : ℕ) (l : List B) → drop n (map f l) ≡ map f (drop n l)
      drop_mapped zero l = refl
      drop_mapped (suc n) [] = refl
      drop_mapped (suc n) (b ∷ l) = drop_mapped n l

  -- its parts
  pub parts_mapped : (l : List B) → parts kept last (map f l) ≡ map (map f) (parts kept_by last_by l)
  parts_mapped l = ap (cut_behind last) (behind_mapped l) ∙ cut_mapped last f (behind kept_by l)

  -- what stands at a place of mapped parts
  part_mapped : (ss : List (List B)) (i : ℕ) → get_or (map (map f) ss) i [] ≡ map f (get_or ss i [])
  part_mapped [] i = refl
  part_mapped (s ∷ ss) zero = refl
  part_mapped (s ∷ ss) (suc i) = part_mapped ss i

  pub moved_mapped : (q : List ℕ) (l : List B) → moved kept last q (map f l) ≡ map f (moved kept_by last_by q l)
  moved_mapped q l =
      let F : ℕ → List B = λ (i : ℕ). get_or (parts kept_by last_by l) i [] in
      ap₂ ◌++◌ (run_mapped kept f l)
      (concat_same (λ (i : ℕ). get_or (parts kept last (map f l)) i []) (λ (i : ℕ). map f (F i))
      (λ i. ap (λ (ss : List (List A)). get_or ss i []) (parts_mapped l) ∙ part_mapped (parts kept_by last_by l) i) q
      ∙ sym (map_concat f F q))
      ∙ sym (map_append f (front_run kept_by l) (concat_map F q))
