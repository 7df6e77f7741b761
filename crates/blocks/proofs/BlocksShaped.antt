-- Without 25 blocks stand one after the other, none inside another; without 26 only assignments stand inside.
use Prim.Native.Nat.{ℕ, suc, ◌+◌, ◌≤◌, ◌<◌}
use mathlib.Core.Path.{◌≡◌, refl, sym, ap, ◌∙◌}
use mathlib.Core.Bool.{Bool, true, false, not, ◌&&◌}
use mathlib.Core.Logic.{⊎_elim}
use mathlib.Core.List.{List, [], ◌∷◌, ◌++◌, append_assoc}
use native.Mathlib.Omega.{arith}
use borrow.Author.Tests.{lt-ltb, lt-leb}
use lib.Dec.{leb, ltb}
use Rattle.laws.specs.Counts.{once, count, has}
use Rattle.laws.proofs.Tests.{not_both, eq_or_ne, and_both, or_left, or_right}
use Rattle.laws.proofs.Bools.{or_false}
use Rattle.laws.proofs.Counts.{count_append, once_other, has_true}
use Rattle.laws.proofs.Concats.{map_append, none_left}
use Rattle.drafts.specs.Tree.{Says, constants, assignment, state, header, ending}
use Rattle.sheet.specs.Sheet.{Numbered, Fault}
use Rattle.blocks.specs.Tests.{fault_if, or_else}
use Rattle.blocks.specs.Pairing.{Bracket, opens, shuts, neither, bracket_of, brackets, Pair, pair_of, pairs_from}
use Rattle.blocks.specs.Pairing.{pairs, heads, tails, nested, unpaired, faults25_from, faults25}
use Rattle.blocks.specs.Inside.{free_known, set_inside, head_wrong, inner_right, Standing, outer, enclosed, fault26}
use Rattle.blocks.specs.Inside.{standing_next, faults26_from, faults26, block_faults}
use Rattle.blocks.specs.Places.{inside_next}
use Rattle.blocks.proofs.PairPlaces.{tails_from}

-- ---- brackets in turn: outside no end, inside no header, and an end for each header
abbrev pub InTurn : Bool → List Bracket → Type 0
InTurn false [] = Unit {0}
InTurn true [] = ⊥
InTurn false (opens ∷ bs) = InTurn true bs
InTurn false (shuts ∷ bs) = ⊥
InTurn false (neither ∷ bs) = InTurn false bs
InTurn true (opens ∷ bs) = ⊥
InTurn true (shuts ∷ bs) = InTurn false bs
InTurn true (neither ∷ bs) = InTurn true bs

-- no 25 at the places from i on
abbrev Clear : List Pair → ℕ → List Bracket → Type 0
Clear ps i [] = Unit {0}
Clear ps i (b ∷ bs) = (unpaired ps i b ≡ false) × Clear ps (suc i) bs

pub no_fault : (b : Bool) (l c : ℕ) → fault_if b l c ≡ [] → b ≡ false
no_fault true l c e = absurd (let z : ◌≡◌ {A = ℕ} 0 1 = cc in omega arith)
no_fault false l c e = refl

clear : (ps : List Pair) (i : ℕ) (ss : List Numbered) → faults25_from ps i ss ≡ [] → Clear ps i (brackets ss)
unfolding faults25_from
clear ps i [] e = tt
clear ps i (s ∷ ss) e =
    let b = unpaired ps i (bracket_of s.says) in
    let n = none_left (fault_if b s.line 25) (faults25_from ps (suc i) ss) e in
    (no_fault b s.line 25 n.0, clear ps (suc i) ss n.1)

-- ---- places of two rows of pairs
heads_append : (h : ℕ) (x y : List Pair) → count h (heads (x ++ y)) ≡ count h (heads x) + count h (heads y)
heads_append h x y =
    ap (count h) (map_append (λ (p : Pair). p.head) x y) ∙ count_append h (heads x) (heads y)

tails_append : (h : ℕ) (x y : List Pair) → count h (tails (x ++ y)) ≡ count h (tails x) + count h (tails y)
tails_append h x y =
    ap (count h) (map_append (λ (p : Pair). p.tail) x y) ∙ count_append h (tails x) (tails y)

nested_right : (i : ℕ) (x y : List Pair) → nested i y ≡ true → nested i (x ++ y) ≡ true
unfolding nested
nested_right i [] y e = e
nested_right i (p ∷ x) y e = or_right (ltb p.head i && ltb i p.tail) (nested i (x ++ y)) (nested_right i x y e)

-- between a header that is left and the place from which the ends stand all is inside its pair
nested_left : (left : List ℕ) (j : ℕ) (bs : List Bracket) (h i : ℕ) → h < i → i < j
    → 0 < count h (heads (pairs_from left j bs)) → nested i (pairs_from left j bs) ≡ true
unfolding pairs_from count nested
nested_left left j [] h i a b c = absurd (omega arith)
nested_left left j (opens ∷ bs) h i a b c = nested_left (j ∷ left) (suc j) bs h i a (omega arith) c
nested_left [] j (shuts ∷ bs) h i a b c = nested_left [] (suc j) bs h i a (omega arith) c
nested_left (g ∷ left) j (shuts ∷ bs) h i a b c =
    ⊎_elim
    (λ (e : h ≡ g).
    or_left (ltb g i && ltb i j) (nested i (pairs_from left (suc j) bs))
    (and_both (ltb g i) (ltb i j) (lt-ltb g i (omega arith)) (lt-ltb i j b)))
    (λ n.
    or_right (ltb g i && ltb i j) (nested i (pairs_from left (suc j) bs))
    (nested_left left (suc j) bs h i a (omega arith) (omega (arith, once_other h g n))))
    (eq_or_ne h g)
nested_left left j (neither ∷ bs) h i a b c = nested_left left (suc j) bs h i a (omega arith) c

-- ---- the header that is left: none outside, h inside
abbrev left_of : Bool → ℕ → List ℕ
left_of false h = []
left_of true h = h ∷ []

-- the pairs that are done stand before i
abbrev Done : ℕ → List Pair → Type 0
Done i done = (j : ℕ) → i ≤ j → (count j (heads done) ≡ 0) × (count j (tails done) ≡ 0)

-- inside, the header is paired, with an end that is still to come
abbrev Pends : Bool → ℕ → ℕ → List Pair → List Pair → Type 0
Pends false h i ps done = Unit {0}
Pends true h i ps done = (h < i) × (count h (heads done) ≡ 0) × (has h (heads ps) ≡ true)

not_false : (b : Bool) → not b ≡ false → b ≡ true
not_false true e = refl
not_false false e = absurd (not_both refl e)

done_more : (i : ℕ) (done : List Pair) → Done i done → Done (suc i) done
done_more i done d j h = d j (omega arith)

done_pair : (h i : ℕ) (done : List Pair) → h < i → Done i done → Done (suc i) (done ++ (pair_of h i ∷ []))
unfolding count
done_pair h i done l d j g =
    let b = d j (omega arith) in (
      omega (arith, b.0, heads_append j done (pair_of h i ∷ []), once_other j h (λ e. omega arith)),
      omega (arith, b.1, tails_append j done (pair_of h i ∷ []), once_other j i (λ e. omega arith)),
    )

turns : (ps : List Pair) (inside : Bool) (h i : ℕ) (bs : List Bracket) (done : List Pair)
    → ps ≡ done ++ pairs_from (left_of inside h) i bs → Done i done → Pends inside h i ps done → Clear ps i bs
    → InTurn inside bs
unfolding pairs_from count
turns ps false h i [] done p d w c = tt
turns ps true h i [] done p d w c =
    let split = ap (λ (x : List Pair). count h (heads x)) p ∙ heads_append h done [] in
    absurd (omega (arith, split, has_true h (heads ps) w.2))
turns ps false h i (opens ∷ bs) done p d w c =
    let z = or_false (not (has i (heads ps))) (nested i ps) c.0 in
    turns ps true i (suc i) bs done p (done_more i done d)
    (omega arith, (d i (omega arith)).0, not_false (has i (heads ps)) z.0) c.1
turns ps false h i (shuts ∷ bs) done p d w c =
    let t = has_true i (tails ps) (not_false (has i (tails ps)) c.0) in
    let rest = pairs_from [] (suc i) bs in
    let none : once (leb (suc i) i) ≡ 0 = rw (lt-leb (suc i) i (omega arith)) in
    omega (
      arith,
      t,
      ap (λ (x : List Pair). count i (tails x)) p,
      tails_append i done rest,
      (d i (omega arith)).1,
      tails_from [] (suc i) bs i,
    )
turns ps false h i (neither ∷ bs) done p d w c = turns ps false h (suc i) bs done p (done_more i done d) tt c.1
turns ps true h i (opens ∷ bs) done p d w c =
    let rest = pairs_from (i ∷ h ∷ []) (suc i) bs in
    let here : 0 < count h (heads rest) =
    omega (
      arith,
      w.1,
      has_true h (heads ps) w.2,
      ap (λ (x : List Pair). count h (heads x)) p,
      heads_append h done rest,
    ) in
    let in_pair : nested i ps ≡ true =
    ap (nested i) p ∙ nested_right i done rest (nested_left (i ∷ h ∷ []) (suc i) bs h i w.0 (omega arith) here) in
    not_both in_pair (or_false (not (has i (heads ps))) (nested i ps) c.0).1
turns ps true h i (shuts ∷ bs) done p d w c =
    turns ps false h (suc i) bs (done ++ (pair_of h i ∷ []))
    (p ∙ sym (append_assoc done (pair_of h i ∷ []) (pairs_from [] (suc i) bs))) (done_pair h i done w.0 d) tt c.1
turns ps true h i (neither ∷ bs) done p d w c =
    turns ps true h (suc i) bs done p (done_more i done d) (omega (arith, w.0), w.1, w.2) c.1

-- WITHOUT 25 the brackets come in turn
pub in_turn : (ss : List Numbered) → faults25 ss ≡ [] → InTurn false (brackets ss)
unfolding count
in_turn ss e =
    let ps = pairs (brackets ss) in
    turns ps false 0 0 (brackets ss) [] refl (λ j h. (refl, refl)) tt (clear ps 0 ss e)

-- ---- what may stand outside and inside
abbrev pub Stands : Bool → Says → Type 0
Stands false (constants cs) = Unit {0}
Stands false (assignment k e) = Unit {0}
Stands false (state k i e) = Unit {0}
Stands false (header os is) = Unit {0}
Stands false ending = ⊥
Stands true (constants cs) = ⊥
Stands true (assignment k e) = Unit {0}
Stands true (state k i e) = ⊥
Stands true (header os is) = ⊥
Stands true ending = Unit {0}

abbrev pub Shaped : Bool → List Numbered → Type 0
Shaped false [] = Unit {0}
Shaped true [] = ⊥
Shaped inside (s ∷ ss) = Stands inside s.says × Shaped (inside_next inside (bracket_of s.says)) ss

abbrev inside_of : Standing → Bool
inside_of outer = false
inside_of (enclosed is above) = true

-- a fault is not none
not_none : {A : Type 0} (l : ℕ) (fs : List Fault) → fault_if true l 26 ++ fs ≡ [] → A
not_none l fs e = absurd (not_both refl (no_fault true l 26 (none_left (fault_if true l 26) fs e).0))

-- a statement s that says x, and those behind it, if these are known from each standing
shaped_step : (free ks : List ℕ) (p : Standing) (s : Numbered) (x : Says) (ss : List Numbered)
    → ((q : Standing) → InTurn (inside_of q) (brackets ss) → faults26_from free q ss ≡ [] → Shaped (inside_of q) ss)
    → InTurn (inside_of p) (bracket_of x ∷ brackets ss)
    → s.says ≡ x → fault26 free ks p s x ++ faults26_from free (standing_next p x) ss ≡ []
    → Stands (inside_of p) x × Shaped (inside_next (inside_of p) (bracket_of x)) ss
shaped_step free ks outer s (constants cs) ss rest t q e = (tt, rest outer t e)
shaped_step free ks outer s (assignment k a) ss rest t q e = (tt, rest outer t e)
shaped_step free ks outer s (state k i a) ss rest t q e = (tt, rest outer t e)
shaped_step free ks outer s (header os is) ss rest t q e =
    let n = none_left (fault_if (head_wrong os ks) s.line 26) (faults26_from free (enclosed is []) ss) e in
    (tt, rest (enclosed is []) t n.1)
shaped_step free ks outer s ending ss rest t q e = absurd t
shaped_step free ks (enclosed is above) s (constants cs) ss rest t q e =
    let f : inner_right free is above s.says ≡ false = ap (inner_right free is above) q in
    not_none s.line (faults26_from free (enclosed is above) ss) (rw f at e)
shaped_step free ks (enclosed is above) s (assignment k a) ss rest t q e =
    let wrong = not (inner_right free is above s.says) in
    let next = enclosed is (above ++ (k ∷ [])) in
    (tt, rest next t (none_left (fault_if wrong s.line 26) (faults26_from free next ss) e).1)
shaped_step free ks (enclosed is above) s (state k i a) ss rest t q e =
    let f : inner_right free is above s.says ≡ false = ap (inner_right free is above) q in
    not_none s.line (faults26_from free (enclosed is above) ss) (rw f at e)
shaped_step free ks (enclosed is above) s (header os js) ss rest t q e = absurd t
shaped_step free ks (enclosed is above) s ending ss rest t q e = (tt, rest outer t e)

shaped_from : (free : List ℕ) (p : Standing) (ss : List Numbered) → InTurn (inside_of p) (brackets ss)
    → faults26_from free p ss ≡ [] → Shaped (inside_of p) ss
unfolding faults26_from
shaped_from free outer [] t e = tt
shaped_from free (enclosed is above) [] t e = absurd t
shaped_from free outer (s ∷ ss) t e =
    shaped_step free (set_inside ss) outer s s.says ss (λ q. shaped_from free q ss) t refl e
shaped_from free (enclosed is above) (s ∷ ss) t e =
    shaped_step free (set_inside ss) (enclosed is above) s s.says ss (λ q. shaped_from free q ss) t refl e

-- WITHOUT 25 AND 26 the statements stand so
pub shaped : (ss : List Numbered) → faults25 ss ≡ [] → faults26 ss ≡ [] → Shaped false ss
shaped ss a b = shaped_from (free_known ss) outer ss (in_turn ss a) b

-- ---- a text without faults of blocks: no 25, and no 26
pub none_25 : (ss : List Numbered) → block_faults ss ≡ [] → faults25 ss ≡ []
unfolding block_faults
none_25 ss e = go (faults25 ss) e
  where
    go : (fs : List Fault) → or_else fs (faults26 ss) ≡ [] → fs ≡ []
    go [] e = refl
    go (f ∷ fs) e = e

pub none_26 : (ss : List Numbered) → block_faults ss ≡ [] → faults26 ss ≡ []
unfolding block_faults
none_26 ss e = rw (none_25 ss e) at e

-- its statements stand so
pub shaped_text : (ss : List Numbered) → block_faults ss ≡ [] → Shaped false ss
shaped_text ss e = shaped ss (none_25 ss e) (none_26 ss e)
