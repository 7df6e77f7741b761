-- Fault 21 by the keys and places of the definitions.
use Prim.Native.Nat.{ℕ, zero, suc, ◌+◌, ◌-◌, ◌≤◌, ◌<◌}
use mathlib.Core.Path.{◌≡◌, refl, sym, ap, ap₂, ◌∙◌}
use mathlib.Core.Bool.{Bool, true, false, cond, ◌||◌}
use mathlib.Core.Logic.{⊎_elim}
use mathlib.Core.List.{List, [], ◌∷◌, ◌++◌}
use native.Mathlib.Nat.{sub-zero}
use native.Mathlib.Numerals.{add-one}
use native.Mathlib.Omega.{arith}
use borrow.Author.Tests.{lt-ltb, le-ltb, ltb-true, eq-eqb, ne_eqb}
use lib.Dec.{ltb, leb-suc-suc}
use lib.ListN.{length, get_or, take, length-take, drop_of_length-le}
use lib.Seq.{slice, slice-cons, take-suc, take_at, drop_at}
use Rattle.laws.specs.Places.{gather, only_if}
use Rattle.laws.specs.Counts.{count, has}
use Rattle.laws.proofs.Tests.{cond_ind, bool_cases, eq_or_ne, lt_or_ge}
use Rattle.laws.proofs.Bools.{or_false}
use Rattle.laws.proofs.Gathers.{gather_add, gather_done, gather_none, gather_same}
use Rattle.model.specs.Definitions.{place_in}
use Rattle.blocks.specs.Tests.{again, fault_if}
use Rattle.drafts.specs.Kinds.{defines}
use Rattle.drafts.specs.Places.{begins, ends}
use Rattle.model.specs.Places.{defined_at, keys_in, places_in, double_at, doubles}
use Rattle.model.specs.Working.{before, repeats, repeat_at, repeated, Rises}
use Rattle.blocks.proofs.FaultsListed.{if_length}

-- ---- how many places in front are below an end
pub before_le : (e : ℕ) (l : List ℕ) → before e l ≤ length l
unfolding before
before_le e [] = omega arith
before_le e (p ∷ l) =
    cond_ind (λ (r : ℕ). r ≤ suc (length l)) (ltb p e) (suc (before e l)) 0 (λ _. omega (arith, before_le e l))
    (λ _. omega arith)

-- a later end is passed later
pub before_later : (a b : ℕ) (l : List ℕ) → a ≤ b → before a l ≤ before b l
unfolding before
before_later a b [] h = omega arith
before_later a b (p ∷ l) h =
    cond_ind (λ (r : ℕ). r ≤ cond (ltb p b) (suc (before b l)) 0) (ltb p a) (suc (before a l)) 0
    (λ t. rw (lt-ltb p b (omega (arith, ltb-true p a t))) (omega (arith, before_later a b l h))) (λ _. omega arith)

-- a place that is passed, and one that is not
pub before_more : (e : ℕ) (l : List ℕ) (d : ℕ) → d ≤ before e l → d < length l → get_or l d 0 < e → d + 1 ≤ before e l
unfolding before
before_more e [] d h i p = absurd (omega arith)
before_more e (q ∷ l) zero h i p = rw (lt-ltb q e p) (omega arith)
before_more e (q ∷ l) (suc d) h i p =
    ⊎_elim
    (λ (t : ltb q e ≡ true). let k : suc d ≤ suc (before e l) = rw t at h in rw t
    (omega (arith, before_more e l d (omega arith) (omega arith) p)))
    (λ (t : ltb q e ≡ false). let k : suc d ≤ 0 = rw t at h in absurd (omega arith)) (bool_cases (ltb q e))

pub before_stop : (e : ℕ) (l : List ℕ) (d : ℕ) → d ≤ before e l → e ≤ get_or l d 0 → d < length l → before e l ≡ d
unfolding before
before_stop e [] d h p i = absurd (omega arith)
before_stop e (q ∷ l) zero h p i = rw (le-ltb q e p)
before_stop e (q ∷ l) (suc d) h p i =
    ⊎_elim
    (λ (t : ltb q e ≡ true). let k : suc d ≤ suc (before e l) = rw t at h in rw t
    (ap suc (before_stop e l d (omega arith) p (omega arith))))
    (λ (t : ltb q e ≡ false). let k : suc d ≤ 0 = rw t at h in absurd (omega arith)) (bool_cases (ltb q e))

pub before_done : (e : ℕ) (l : List ℕ) (d : ℕ) → d ≤ before e l → length l ≤ d → before e l ≡ d
before_done e l d h i = omega (arith, before_le e l)

-- ---- a key stands before place d exactly if its first place is before d
pub has_front : (k : ℕ) (l : List ℕ) (d : ℕ) → d ≤ length l → has k (take d l) ≡ ltb (place_in k l) d
unfolding count place_in
has_front k l zero h = sym (le-ltb (place_in k l) 0 (omega arith))
has_front k [] (suc d) h = absurd (omega arith)
has_front k (a ∷ l) (suc d) h =
    ⊎_elim
    (λ (e : k ≡ a). rw (eq-eqb k a e) (lt-ltb 0 (1 + count k (take d l)) (omega arith)
    ∙ sym (lt-ltb 0 (suc d) (omega arith))))
    (λ (n : k ≡ a → ⊥).
    rw (ne_eqb k a n)
    (ap (ltb 0) (let z : 0 + count k (take d l) ≡ count k (take d l) = omega arith in z)
    ∙ has_front k l d (omega arith)
    ∙ sym (leb-suc-suc (suc (place_in k l)) d))) (eq_or_ne k a)

-- ---- a search for a repeated key, from place d on
module _ (keys : List ℕ) (d e : ℕ) where
  repeat_step : d < e → e ≤ length keys → repeats keys d e
      ≡ (ltb (place_in (get_or keys d 0) keys) d || repeats keys (d + 1) e)
  unfolding again
  repeat_step h k =
      rw (
        slice-cons d e keys 0 h k,
        add-one d,
        has_front (get_or keys d 0) keys d (omega arith),
        take-suc keys d 0 (omega arith),
      )

  pub repeat_stop : d < e → e ≤ length keys → place_in (get_or keys d 0) keys < d → repeats keys d e ≡ true
  repeat_stop h k p = rw (repeat_step h k, lt-ltb _ _ p)

  pub repeat_pass : d < e → e ≤ length keys → d ≤ place_in (get_or keys d 0) keys
      → repeats keys d e ≡ repeats keys (d + 1) e
  repeat_pass h k p = rw (repeat_step h k, le-ltb _ _ p)

  pub repeat_done : e ≤ d → repeats keys d e ≡ false
  unfolding again
  repeat_done h = rw (drop_of_length-le (take e keys) {i = d} (omega (arith, length-take e keys)))

-- ---- where no key stands twice
module _ (keys : List ℕ) where
  -- each key stands first at its own place
  none_at : (k d e : ℕ) → d + k ≡ e → e ≤ length keys → repeats keys d e ≡ false
      → (i : ℕ) → d ≤ i → i < e → ltb (place_in (get_or keys i 0) keys) i ≡ false
  none_at zero d e q h z i a b = absurd (omega arith)
  none_at (suc k) d e q h z i a b =
      let both = or_false (ltb (place_in (get_or keys d 0) keys) d) (repeats keys (d + 1) e)
      (sym (repeat_step keys d e (omega arith) h) ∙ z) in
      ⊎_elim (λ (s : i ≡ d). rw s both.0) (λ n. none_at k (d + 1) e (omega arith) h both.1 i (omega arith) b)
      (eq_or_ne i d)

  -- so no part has one again
  none_part : (k a b : ℕ) → a + k ≡ b → b ≤ length keys
      → ((i : ℕ) → a ≤ i → i < b → ltb (place_in (get_or keys i 0) keys) i ≡ false) → repeats keys a b ≡ false
  none_part zero a b q h f = repeat_done keys a b (omega arith)
  none_part (suc k) a b q h f =
      repeat_step keys a b (omega arith) h
      ∙ rw (f a (omega arith) (omega arith)) (none_part k (a + 1) b (omega arith) h (λ i l m. f i (omega arith) m))

  -- NO FAULT 21 stands
  pub repeated_none : (lines bounds places : List ℕ) → length places ≤ length keys
      → repeats keys 0 (length places) ≡ false
      → repeated lines bounds keys places ≡ []
  repeated_none lines bounds places h z =
      gather_none (repeat_at lines bounds keys places) (length lines) 0
      (λ j _ _. ap (λ (t : Bool). fault_if t (get_or lines j 0) 21) (at j))
    where
      first : (i : ℕ) → i < length places → ltb (place_in (get_or keys i 0) keys) i ≡ false
      first i l = none_at (length places) 0 (length places) (omega arith) h z i (omega arith) l

      at : (j : ℕ) → repeats keys (before (begins bounds j) places) (before (ends bounds j) places) ≡ false
      at j =
          let a = before (begins bounds j) places in
          let b = before (ends bounds j) places in
          let m = before_le (ends bounds j) places in
          ⊎_elim (λ (l : a < b). none_part (b - a) a b (omega arith) (omega arith) (λ i _ k. first i (omega arith)))
          (λ (l : b ≤ a). repeat_done keys a b l) (lt_or_ge a b)

-- 21 stands once at a statement
pub repeat_single : (lines bounds keys places : List ℕ) (j : ℕ) → length (repeat_at lines bounds keys places j) ≤ 1
repeat_single lines bounds keys places j =
    if_length (repeats keys (before (begins bounds j) places) (before (ends bounds j) places)) (get_or lines j 0) 21

-- 21 at statement j, as it was found
pub repeat_found : (lines bounds keys places : List ℕ) (j : ℕ) {again : Bool} {d end e : ℕ}
    → again ≡ repeats keys d end
    → d ≡ before (begins bounds j) places → end ≡ before e places → e ≡ ends bounds j
    → fault_if again (get_or lines j 0) 21 ≡ repeat_at lines bounds keys places j
repeat_found lines bounds keys places j t p q e =
    let last = q ∙ ap (λ (b : ℕ). before b places) e in
    ap (λ (b : Bool). fault_if b (get_or lines j 0) 21) (t ∙ ap₂ (repeats keys) p last)

-- ---- the keys and places that are collected
module _ (kinds args : List ℕ) where
  abbrev place_at : ℕ → List ℕ
  place_at i = only_if (defines (get_or kinds i 0)) i

  -- as many places as keys
  pub as_many : (k i : ℕ) → length (gather place_at k i) ≡ length (gather (defined_at kinds args) k i)
  unfolding gather
  as_many zero i = refl
  as_many (suc k) i = go (defines (get_or kinds i 0)) (as_many k (suc i))
    where
      go : (b : Bool) → length (gather place_at k (suc i)) ≡ length (gather (defined_at kinds args) k (suc i))
          → length (only_if b i ++ gather place_at k (suc i))
          ≡ length (only_if b (get_or args i 0) ++ gather (defined_at kinds args) k (suc i))
      go true h = ap suc h
      go false h = h

  -- the places from i on are not below i
  none_before : (b k i : ℕ) → b ≤ i → before b (gather place_at k i) ≡ 0
  unfolding gather before
  none_before b zero i h = refl
  none_before b (suc k) i h = go (defines (get_or kinds i 0)) (none_before b k (suc i) (omega arith))
    where
      go : (t : Bool) → before b (gather place_at k (suc i)) ≡ 0
          → before b (only_if t i ++ gather place_at k (suc i)) ≡ 0
      go true r = rw (le-ltb i b h)
      go false r = r

  -- the places before b are those that the drafts before b give
  before_count : (b k i : ℕ) → i ≤ b → b ≤ i + k → before b (gather place_at k i) ≡ length (gather place_at (b - i) i)
  unfolding gather before
  before_count b zero i h l = let e : b - i ≡ 0 = omega arith in rw e
  before_count b (suc k) i h l =
      ⊎_elim (λ (p : i < b). more p (before_count b k (suc i) (omega arith) (omega arith)))
      (λ (p : b ≤ i). none_before b (suc k) i p ∙ sym (ap length (gather_done place_at b i p))) (lt_or_ge i b)
    where
      more : i < b → before b (gather place_at k (suc i)) ≡ length (gather place_at (b - suc i) (suc i))
          → before b (gather place_at (suc k) i) ≡ length (gather place_at (b - i) i)
      more p r = let e : b - i ≡ suc (b - suc i) = omega arith in rw e (go (defines (get_or kinds i 0)))
        where
          go : (t : Bool) → before b (only_if t i ++ gather place_at k (suc i))
              ≡ length (only_if t i ++ gather place_at (b - suc i) (suc i))
          go true = rw (lt-ltb i b p) (ap suc r)
          go false = r

  -- as many as the keys there
  pub before_keys : (b : ℕ) → b ≤ length kinds
      → before b (places_in kinds) ≡ length (gather (defined_at kinds args) b 0)
  unfolding places_in
  before_keys b h = before_count b (length kinds) 0 (omega arith) (omega arith)
      ∙ ap (λ (n : ℕ). length (gather place_at n 0)) (sub-zero b) ∙ as_many b 0

  parts : (a b : ℕ) → a ≤ b → gather (defined_at kinds args) b 0
      ≡ gather (defined_at kinds args) a 0 ++ gather (defined_at kinds args) (b - a) a
  parts a b h =
      let f = defined_at kinds args in
      let e : a + (b - a) ≡ b = omega arith in
      let z : 0 + a ≡ a = omega arith in
      ap (λ (n : ℕ). gather f n 0) (sym e) ∙ gather_add f a (b - a) 0
      ∙ ap (λ (i : ℕ). gather f a 0 ++ gather f (b - a) i) z

  -- the keys that are defined before b
  keys_before : (b : ℕ) → b ≤ length kinds
      → take (before b (places_in kinds)) (keys_in kinds args) ≡ gather (defined_at kinds args) b 0
  unfolding keys_in
  keys_before b h =
      rw (parts b (length kinds) h) (take_at (gather (defined_at kinds args) b 0) _ _ (sym (before_keys b h)))

  -- the keys that are defined from a on, before b
  keys_between : (a b : ℕ) → a ≤ b → b ≤ length kinds
      → slice (before a (places_in kinds)) (before b (places_in kinds)) (keys_in kinds args)
      ≡ gather (defined_at kinds args) (b - a) a
  keys_between a b h l =
      rw (keys_before b l, parts a b h)
      (drop_at (gather (defined_at kinds args) a 0) _ _ (sym (before_keys a (omega arith))))

  -- 21 is the same by the keys and places
  pub repeated_doubles : (lines bounds : List ℕ) → Rises bounds (length lines)
      → ((j : ℕ) → j < length lines → ends bounds j ≤ length kinds)
      → repeated lines bounds (keys_in kinds args) (places_in kinds) ≡ doubles lines bounds kinds args
  unfolding doubles
  repeated_doubles lines bounds r l = gather_same _ _ (length lines) 0 (λ j _ h. same j (omega arith))
    where
      same : (j : ℕ) → j < length lines → repeat_at lines bounds (keys_in kinds args) (places_in kinds) j
          ≡ double_at lines bounds kinds args j
      same j h =
          let rise = r.rise j h in
          let within = l j h in
          ap (λ (b : Bool). fault_if b (get_or lines j 0) 21)
          (ap₂ again (keys_before (begins bounds j) (omega arith))
          (keys_between (begins bounds j) (ends bounds j) rise within))
