-- Places of names among the keys, and keys that stand once.
use Prim.Native.Nat.{ℕ, zero, suc, ◌+◌, ◌≤◌, ◌<◌}
use mathlib.Core.Path.{◌≡◌, refl, sym, ap, ◌∙◌}
use mathlib.Core.Bool.{Bool, true, false, not}
use mathlib.Core.Logic.{⊎_elim}
use mathlib.Core.List.{List, [], ◌∷◌, ◌++◌, append_assoc}
use native.Mathlib.Omega.{arith}
use borrow.Author.Tests.{eq-eqb, ne_eqb, eqb-true, eqb-false, lt-ltb, le-ltb}
use lib.Dec.{eqb, ltb}
use lib.ListN.{length, get_or}
use Rattle.laws.specs.Lists.{concat_map}
use Rattle.laws.specs.Counts.{count, ◌∈◌, has}
use Rattle.laws.specs.Places.{only_if}
use Rattle.laws.proofs.Bools.{or_false}
use Rattle.laws.proofs.Tests.{bool_cases, eq_or_ne, lt_or_ge, cond_ind}
use Rattle.laws.proofs.Counts.{count_append, once_same, once_other, has_true, has_false}
use Rattle.laws.proofs.Concats.{map_append, concat_same, none_left}
use Rattle.laws.proofs.Members.{at_in}
use Rattle.blocks.specs.Units.{TextUnit, Stated, stated_in}
use Rattle.model.specs.Definitions.{What, constant, assigned, hidden, integral, Def, defined, defined_by}
use Rattle.model.specs.Definitions.{definitions, keys, place_in}
use Rattle.blocks.specs.Tests.{fault_if, again}
use Rattle.model.specs.Faults.{faults21, constant_key, constant_keys, outside_key, outside_keys}

-- no number stands twice
abbrev pub Once : List ℕ → Type 0
Once l = (k : ℕ) → count k l ≤ 1

-- ---- places in a list: what stands in it has a place
pub place_in_holds : (k : ℕ) (l : List ℕ) → k ∈ l → place_in k l < length l
unfolding place_in count
place_in_holds k [] h = absurd (omega arith)
place_in_holds k (a ∷ l) h =
    cond_ind (λ r. r < suc (length l)) (eqb k a) 0 _ (λ t. omega arith)
    (λ t. omega (arith, place_in_holds k l (omega (arith, once_other k a (eqb-false k a t)))))

-- .. at which it stands
pub place_at : (k : ℕ) (l : List ℕ) → place_in k l < length l → get_or l (place_in k l) 0 ≡ k
unfolding place_in
place_at k [] = λ h. absurd (omega arith)
place_at k (a ∷ l) =
    cond_ind (λ r. r < suc (length l) → get_or (a ∷ l) r 0 ≡ k) (eqb k a) 0 (suc (place_in k l))
    (λ t h. sym (eqb-true k a t))
    (λ t h. place_at k l (omega arith))

-- a number that has a place stands in the list
pub placed_in : (k : ℕ) (l : List ℕ) → place_in k l < length l → k ∈ l
placed_in k l h = rw (place_at k l h) at (at_in l (place_in k l) h)

-- one of two stands in the list: they share a place only if they are the same
pub place_same : (l : List ℕ) (j k : ℕ) → k ∈ l → place_in j l ≡ place_in k l → j ≡ k
place_same l j k h e =
    let m = place_in_holds k l h in
    sym (place_at j l (omega arith)) ∙ rw e (place_at k l m)

-- where nothing stands twice, what stands at i has the place i
pub place_of_at : (l : List ℕ) → Once l → (i : ℕ) → i < length l → place_in (get_or l i 0) l ≡ i
unfolding place_in count
place_of_at [] d i h = absurd (omega arith)
place_of_at (a ∷ l) d zero h = rw (eq-eqb a a refl)
place_of_at (a ∷ l) d (suc i) h =
    let m = at_in l i (omega arith) in
    ⊎_elim (λ (e : get_or l i 0 ≡ a). let n : a ∈ l = rw e at m in absurd (omega (arith, d a, once_same a)))
    (λ e. rw (ne_eqb (get_or l i 0) a e) (ap suc (place_of_at l (λ k. omega (arith, d k)) i (omega arith))))
    (eq_or_ne (get_or l i 0) a)

-- .. and no two places hold the same
pub at_same : (l : List ℕ) → Once l → (i j : ℕ) → i < length l → j < length l → get_or l i 0 ≡ get_or l j 0 → i ≡ j
at_same l d i j h m e = sym (place_of_at l d i h) ∙ rw e (place_of_at l d j m)

-- a slot past the last is that of a name that does not stand there
pub slot_past : (k : ℕ) (l : List ℕ) → ltb (length l) (suc (place_in k l)) ≡ not (has k l)
slot_past k l =
    ⊎_elim (λ t. rw t (le-ltb (length l) (suc (place_in k l)) (place_in_holds k l (has_true k l t))))
    (λ t. rw t (lt-ltb (length l) (suc (place_in k l)) (missing t))) (bool_cases (has k l))
  where
    missing : has k l ≡ false → length l < suc (place_in k l)
    missing t =
        ⊎_elim (λ h. absurd (omega (arith, placed_in k l h, has_false k l t))) (λ h. omega arith)
        (lt_or_ge (place_in k l) (length l))

-- ---- what a name is
abbrev pub is_constant : What → Bool
is_constant (constant x) = true
is_constant assigned = false
is_constant hidden = false
is_constant (integral i) = false

abbrev pub is_state : What → Bool
is_state (constant x) = false
is_state assigned = false
is_state hidden = false
is_state (integral i) = true

abbrev pub is_assigned : What → Bool
is_assigned (constant x) = false
is_assigned assigned = true
is_assigned hidden = false
is_assigned (integral i) = false

abbrev pub is_hidden : What → Bool
is_hidden (constant x) = false
is_hidden assigned = false
is_hidden hidden = true
is_hidden (integral i) = false

-- ---- the keys of the definitions that pass a test
abbrev pub keys_with : (What → Bool) → List Def → List ℕ
keys_with is ds = concat_map (λ (d : Def). only_if (is d.what) d.key) ds

-- those of the constants
pub constant_keys_holds : (ds : List Def) → constant_keys ds ≡ keys_with is_constant ds
constant_keys_holds ds =
    concat_same (λ (d : Def). constant_key d.key d.what) (λ (d : Def). only_if (is_constant d.what) d.key)
    (λ d. one d.key d.what) ds
  where
    one : (k : ℕ) (w : What) → constant_key k w ≡ only_if (is_constant w) k
    one k (constant x) = refl
    one k assigned = refl
    one k hidden = refl
    one k (integral i) = refl

-- those that are known outside blocks
pub outside_keys_holds : (ds : List Def) → outside_keys ds ≡ keys_with (λ (w : What). not (is_hidden w)) ds
outside_keys_holds ds =
    concat_same (λ (d : Def). outside_key d.key d.what) (λ (d : Def). only_if (not (is_hidden d.what)) d.key)
    (λ d. one d.key d.what) ds
  where
    one : (k : ℕ) (w : What) → outside_key k w ≡ only_if (not (is_hidden w)) k
    one k (constant x) = refl
    one k assigned = refl
    one k hidden = refl
    one k (integral i) = refl

-- a key that passes and one that does not: together they are all keys
count_parted : (j : ℕ) (is : What → Bool) (ds : List Def)
    → count j (keys ds) ≡ count j (keys_with is ds) + count j (keys_with (λ (w : What). not (is w)) ds)
unfolding count concat_map
count_parted j is [] = omega arith
count_parted j is (d ∷ ds) = go (is d.what) (count_parted j is ds)
  where
    go : (b : Bool)
        → count j (keys ds) ≡ count j (keys_with is ds) + count j (keys_with (λ (w : What). not (is w)) ds)
        → count j (d.key ∷ keys ds)
        ≡ count j (only_if b d.key ++ keys_with is ds)
        + count j (only_if (not b) d.key ++ keys_with (λ (w : What). not (is w)) ds)
    go true e = omega arith
    go false e = omega arith

-- the keys are those that are known outside blocks, and those that are a block's own
pub count_outside : (j : ℕ) (ds : List Def)
    → count j (keys ds) ≡ count j (outside_keys ds) + count j (keys_with is_hidden ds)
count_outside j ds = rw (outside_keys_holds ds) (omega (arith, count_parted j is_hidden ds))

-- so what is known outside blocks is defined
pub outside_defined : (k : ℕ) (ds : List Def) → k ∈ outside_keys ds → k ∈ keys ds
outside_defined k ds h = omega (arith, count_outside k ds)

-- and the former are those of the constants, of the states and of what is assigned
count_one : (j k : ℕ) (w : What) (os cs ss vs : List ℕ)
    → count j os ≡ count j cs + count j ss + count j vs
    → count j (outside_key k w ++ os)
    ≡ count j (constant_key k w ++ cs) + count j (only_if (is_state w) k ++ ss)
    + count j (only_if (is_assigned w) k ++ vs)
unfolding count
count_one j k (constant x) os cs ss vs e = omega arith
count_one j k assigned os cs ss vs e = omega arith
count_one j k hidden os cs ss vs e = omega arith
count_one j k (integral i) os cs ss vs e = omega arith

pub count_known : (j : ℕ) (ds : List Def)
    → count j (outside_keys ds)
    ≡ count j (constant_keys ds) + count j (keys_with is_state ds) + count j (keys_with is_assigned ds)
unfolding count concat_map
count_known j [] = omega arith
count_known j (d ∷ ds) =
    count_one j d.key d.what (outside_keys ds) (constant_keys ds) (keys_with is_state ds) (keys_with is_assigned ds)
    (count_known j ds)

-- so the keys are those of the constants, of the states, of what is assigned, and of what is a block's own
pub count_keys : (j : ℕ) (ds : List Def)
    → count j (keys ds)
    ≡ count j (constant_keys ds) + count j (keys_with is_state ds) + count j (keys_with is_assigned ds)
    + count j (keys_with is_hidden ds)
count_keys j ds = omega (arith, count_outside j ds, count_known j ds)

-- where the keys stand once, those that pass a test do too
pub with_once : (is : What → Bool) (ds : List Def) → Once (keys ds) → Once (keys_with is ds)
with_once is ds d k = omega (arith, d k, count_parted k is ds)

-- ---- 21: where there is none, no key stands twice

-- a test that gives no fault fails
pub no_fault : (b : Bool) (l c : ℕ) → fault_if b l c ≡ [] → b ≡ false
no_fault true l c e = absurd (let z : ◌≡◌ {A = ℕ} 0 1 = cc in omega arith)
no_fault false l c e = refl

-- keys that do not come again stand once
not_again : (seen ks : List ℕ) → again seen ks ≡ false → Once seen → Once (seen ++ ks)
unfolding again count
not_again seen [] e d k = omega (arith, count_append k seen [], d k)
not_again seen (a ∷ ks) e d k =
    let p = or_false (has a seen) (again (seen ++ (a ∷ [])) ks) e in
    rw (append_assoc seen (a ∷ []) ks) at
    (not_again (seen ++ (a ∷ [])) ks p.1
    (λ j.
    ⊎_elim (λ (q : j ≡ a). rw q (omega (arith, count_append a seen (a ∷ []), has_false a seen p.0, once_same a)))
    (λ q. omega (arith, count_append j seen (a ∷ []), d j, once_other j a q)) (eq_or_ne j a)) k)

-- .. from statement to statement
abbrev defined_in : List Stated → List Def
defined_in ts = concat_map (λ (t : Stated). defined_by t.line t.stood) ts

once_from : (ts : List Stated) (seen : List ℕ) → faults21 seen ts ≡ [] → Once seen → Once (seen ++ keys (defined_in ts))
unfolding faults21 concat_map count
once_from [] seen e d k = omega (arith, count_append k seen [], d k)
once_from (t ∷ ts) seen e d k =
    let new : List Def = defined_by t.line t.stood in
    let p = none_left (fault_if (again seen (keys new)) t.line 21) (faults21 (seen ++ keys new) ts) e in
    let n = not_again seen (keys new) (no_fault (again seen (keys new)) t.line 21 p.0) d in
    rw (map_append (λ (d : Def). d.key) new (defined_in ts), ← (append_assoc seen (keys new) (keys (defined_in ts))))
    (once_from ts (seen ++ keys new) p.1 n k)

-- THE KEYS stand once
pub keys_once : (us : List TextUnit) → faults21 [] (stated_in us) ≡ [] → Once (keys (definitions us))
unfolding count
keys_once us e = once_from (stated_in us) [] e (λ k. omega arith)

-- ---- the definition of a name

-- what is read past the end
abbrev pub no_def : Def
no_def = defined 0 0 assigned

-- the definition of a name
abbrev pub definition_of : List Def → ℕ → Def
definition_of ds k = get_or ds (place_in k (keys ds)) no_def

-- the first definition is that of its name
pub definition_first : (x : Def) (ds : List Def) (k : ℕ) → k ≡ x.key → definition_of (x ∷ ds) k ≡ x
unfolding place_in
definition_first x ds k e = rw (eq-eqb k x.key e)

-- that of another name stands among the others
pub definition_later : (x : Def) (ds : List Def) (k : ℕ) → (k ≡ x.key → ⊥)
    → definition_of (x ∷ ds) k ≡ definition_of ds k
unfolding place_in
definition_later x ds k e = rw (ne_eqb k x.key e)

-- a name stands among those that pass a test exactly if its definition passes
pub with_at : (is : What → Bool) (ds : List Def) → Once (keys ds) → (k : ℕ) → k ∈ keys ds
    → has k (keys_with is ds) ≡ is (definition_of ds k).what
unfolding concat_map count
with_at is [] d k h = absurd (omega arith)
with_at is (x ∷ ds) d k h =
    ⊎_elim (λ (e : k ≡ x.key). rw (definition_first x ds k e) (same e (is x.what)))
    (λ e. rw (definition_later x ds k e)
    (other e (is x.what) ∙ with_at is ds (λ j. omega (arith, d j)) k (omega (arith, once_other k x.key e))))
    (eq_or_ne k x.key)
  where
    same : k ≡ x.key → (b : Bool) → has k (only_if b x.key ++ keys_with is ds) ≡ b
    same e true = rw (eq-eqb k x.key e) (lt-ltb 0 (1 + count k (keys_with is ds)) (omega arith))
    same e false =
        le-ltb 0 (count k (keys_with is ds))
        (omega (arith, d k, rw (eq-eqb k x.key e) at (d k), count_parted k is ds))

    other : (k ≡ x.key → ⊥) → (b : Bool) → has k (only_if b x.key ++ keys_with is ds) ≡ has k (keys_with is ds)
    other e true =
        let z : count k (x.key ∷ keys_with is ds) ≡ count k (keys_with is ds) = omega (arith, once_other k x.key e) in
        ap (λ n. ltb 0 n) z
    other e false = refl

-- a name stands among the constants' exactly if its definition is a constant's
pub constant_at : (ds : List Def) → Once (keys ds) → (k : ℕ) → k ∈ keys ds
    → has k (constant_keys ds) ≡ is_constant (definition_of ds k).what
constant_at ds d k h = rw (constant_keys_holds ds) (with_at is_constant ds d k h)

-- .. and among those known outside blocks exactly if it is not a block's own
pub outside_at : (ds : List Def) → Once (keys ds) → (k : ℕ) → k ∈ keys ds
    → has k (outside_keys ds) ≡ not (is_hidden (definition_of ds k).what)
outside_at ds d k h = rw (outside_keys_holds ds) (with_at (λ (w : What). not (is_hidden w)) ds d k h)
