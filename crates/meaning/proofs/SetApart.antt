-- In an accepted program a state's slot, and slot 0, are set by no constant and no store. A slot is set again only as a
-- stored one, by kind 15. A derivative is written once.
use Prim.Native.Nat.{ℕ, suc, ◌+◌, ◌-◌, ◌<◌}
use mathlib.Core.Path.{◌≡◌, refl, sym, ◌∙◌}
use mathlib.Core.Bool.{Bool, true, false, ◌&&◌}
use mathlib.Core.Logic.{◌⊎◌, inl, inr, ⊎_elim}
use mathlib.Core.List.Memᴰ
use mathlib.Core.List.{List, [], ◌∷◌, map, Memᴰ}
use native.Mathlib.Omega.{arith}
use borrow.Author.Tests.{eqb-true}
use lib.Dec.{eqb, leb}
use lib.ListN.{length, get_or, set, length-set}
use lib.Seq.{set_out, get_or-set_same, get_or-set_other}
use Rattle.limits.specs.Limits.{slots, stack_places}
use Rattle.laws.specs.Every.{Every}
use Rattle.laws.proofs.Tests.{not_both, lt_or_ge, eq_or_ne, cond_ind, and_true}
use Rattle.records.specs.declared.Instr.{Instr}
use Rattle.records.specs.Fields.{fields_of}
use Rattle.records.specs.Shape.{value, slot}
use Rattle.records.specs.Shape.{Shape, constant, initial, push, fold, store, derivative, store_again, bad, shape_of}
use Rattle.evaluator.specs.Judge.{Answer}
use Rattle.evaluator.specs.Judge.{unset_mark, given_mark, state_mark, derived_mark, stored_mark}
use Rattle.evaluator.specs.Judge.{rule_of, takes, gives, phase_of, Judge, good, judged, answer, judge_from}
use Rattle.evaluator.specs.Sound.{Sound, SoundWithin}
use Rattle.meaning.specs.ReadSlots.{StateSlot, SetSlot, DerivedSlot}
use Rattle.meaning.proofs.Acted.{Marked}

-- ---- one record after the other

-- the first of an accepted row is good, and the others are accepted
pub judge_next : (i : ℕ) (j : Judge) (x : Instr) (xs : List Instr) → (judge_from i j (x ∷ xs)).number ≡ 0
    → (good j x ≡ true) × ((judge_from (suc i) (judged j x) xs).number ≡ 0)
unfolding judge_from
judge_next i j x xs =
    cond_ind
    (λ (a : Answer). a.number ≡ 0 → (good j x ≡ true) × ((judge_from (suc i) (judged j x) xs).number ≡ 0))
    (good j x) (judge_from (suc i) (judged j x) xs) (answer 3 i) (λ t e. (t, e)) (λ t e. absurd (omega arith))

-- the slot of a good record is fine
pub good_fine : (j : Judge) (x : Instr) → good j x ≡ true → (rule_of (shape_of x)).fine j.marks j.height ≡ true
unfolding good
good_fine j x g =
    let a = and_true (leb (takes x) j.height) _ g in
    let b = and_true (leb (j.height - takes x + gives x) stack_places) _ a.1 in
    (and_true (leb j.phase (phase_of x)) _ b.1).1

-- without records no slot is set
pub set_none : (q : ℕ) → SetSlot [] q → ⊥
set_none q (inl t) = Memᴰ.not-nil t.1
set_none q (inr (inl t)) = Memᴰ.not-nil t
set_none q (inr (inr t)) = Memᴰ.not-nil t

-- ---- marks stay

-- by the marks l a slot is set, and is no stored one
abbrev pub Unstored : List ℕ → ℕ → Type 0
Unstored l q = Marked l q × (get_or l q 0 ≡ stored_mark → ⊥)

-- from the marks l to the marks m: there are as many; a slot that is set stays set, and one that is no stored one then
-- does not become one
pub record MarksStay (l m : List ℕ) : Type 0 where
  pub long : length m ≡ length l
  pub marked : (q : ℕ) → Marked l q → Marked m q
  pub unstored : (q : ℕ) → Unstored l q → Unstored m q

-- where no mark changes
same_marks : (l : List ℕ) → MarksStay l l
same_marks l = record { long = refl; marked = λ q u. u; unstored = λ q u. u }

-- once s is marked x, a slot is s and has that mark, or it has the mark that it had
mark_after : (l : List ℕ) (s x q : ℕ)
    → ((q ≡ s) × (get_or (set l s x) q 0 ≡ x)) ⊎ (get_or (set l s x) q 0 ≡ get_or l q 0)
mark_after l s x q =
    ⊎_elim
    (λ (e : q ≡ s). ⊎_elim (λ h. inl (e, rw e (get_or-set_same l s x 0 h))) (λ h. inr (rw (set_out l s x h)))
    (lt_or_ge s (length l)))
    (λ e. inr (get_or-set_other l s q x 0 e)) (eq_or_ne q s)

-- where s is marked x, and as a stored one only if it was not set
set_marks : (l : List ℕ) (s x : ℕ) → (x ≡ unset_mark → ⊥) → (x ≡ stored_mark → get_or l s 0 ≡ unset_mark)
    → MarksStay l (set l s x)
set_marks l s x n f =
    let after = mark_after l s x in
    let stay : (q : ℕ) → Marked l q → Marked (set l s x) q =
    λ q u z. ⊎_elim (λ t. n (sym t.1 ∙ z)) (λ e. u (sym e ∙ z)) (after q) in
    record {
      long = length-set l s x;
      marked = stay;
      unstored = λ q u. (
        stay q u.0,
        λ z. ⊎_elim (λ t. u.0 (rw t.0 (f (sym t.1 ∙ z)))) (λ e. u.1 (sym e ∙ z)) (after q),
      );
    }

-- so by each good record
pub marks_stay : (h : Shape) (l : List ℕ) (k : ℕ) → (rule_of h).fine l k ≡ true → MarksStay l ((rule_of h).marks l)
marks_stay (constant s x) l k g = set_marks l s given_mark (λ e. omega arith) (λ e. absurd (omega arith))
marks_stay (initial s x) l k g = set_marks l s state_mark (λ e. omega arith) (λ e. absurd (omega arith))
marks_stay (push (value x)) l k g = same_marks l
marks_stay (push (slot s)) l k g = same_marks l
marks_stay (fold o) l k g = same_marks l
marks_stay (store s) l k g =
    set_marks l s stored_mark (λ e. omega arith)
    (λ e. eqb-true (get_or l s 0) unset_mark (and_true (eqb k 1) (eqb (get_or l s 0) unset_mark) g).1)
marks_stay (derivative s) l k g = set_marks l s derived_mark (λ e. omega arith) (λ e. absurd (omega arith))
marks_stay (store_again s) l k g = same_marks l
marks_stay bad l k g = same_marks l

-- a slot that is marked now
pub mark_now : (l : List ℕ) (q x : ℕ) → q < length l → (x ≡ unset_mark → ⊥) → Marked (set l q x) q
mark_now l q x h n z = n (sym (get_or-set_same l q x 0 h) ∙ z)

-- .. and not as a stored one
pub unstored_now : (l : List ℕ) (q x : ℕ) → q < length l → (x ≡ unset_mark → ⊥) → (x ≡ stored_mark → ⊥)
    → Unstored (set l q x) q
unstored_now l q x h n m = (mark_now l q x h n, λ z. m (sym (get_or-set_same l q x 0 h) ∙ z))

-- a record stores again
abbrev pub stores_again : Shape → Bool
stores_again (constant s x) = false
stores_again (initial s x) = false
stores_again (push p) = false
stores_again (fold o) = false
stores_again (store s) = false
stores_again (derivative s) = false
stores_again (store_again s) = true
stores_again bad = false

module _ (h : Shape) (hs : List Shape) (l : List ℕ) (k q : ℕ) (fine : (rule_of h).fine l k ≡ true) where
  -- the first record sets the slot: it is no initial; if the slot was set, it was a stored one and is stored again; it
  -- is set now
  abbrev Sets : Type 0
  Sets = ((rule_of h).phase ≡ 2 → ⊥) × (Marked l q → (get_or l q 0 ≡ stored_mark) × (stores_again h ≡ true))
      × (q < length l → Marked ((rule_of h).marks l) q)

  -- a slot that is set: the first record does it, or a later one
  set_first : SetSlot (h ∷ hs) q → Sets ⊎ SetSlot hs q
  set_first (inl z) =
      ⊎_elim
      (λ (e : constant q z.0 ≡ h).
      let f : eqb (get_or l q 0) unset_mark ≡ true = rw (← e) at fine in
      inl (rw (← e) (
        λ t. omega arith,
        λ u. absurd (u (eqb-true (get_or l q 0) unset_mark f)),
        λ b. mark_now l q given_mark b (λ t. omega arith),
      )))
      (λ t. inr (inl (z.0, t))) (Memᴰ.cases_cons z.1)
  set_first (inr (inl z)) =
      ⊎_elim
      (λ (e : store q ≡ h).
      let f : (eqb k 1 && eqb (get_or l q 0) unset_mark) ≡ true = rw (← e) at fine in
      let g = eqb-true (get_or l q 0) unset_mark (and_true (eqb k 1) (eqb (get_or l q 0) unset_mark) f).1 in
      inl (rw (← e) (λ t. omega arith, λ u. absurd (u g), λ b. mark_now l q stored_mark b (λ t. omega arith))))
      (λ t. inr (inr (inl t))) (Memᴰ.cases_cons z)
  set_first (inr (inr z)) =
      ⊎_elim
      (λ (e : store_again q ≡ h).
      let f : (eqb k 1 && eqb (get_or l q 0) stored_mark) ≡ true = rw (← e) at fine in
      let g = eqb-true (get_or l q 0) stored_mark (and_true (eqb k 1) (eqb (get_or l q 0) stored_mark) f).1 in
      inl (rw (← e) (λ t. omega arith, λ u. (g, refl), λ b z. omega (arith, g))))
      (λ t. inr (inr (inr t))) (Memᴰ.cases_cons z)

  -- the first record makes it a state: it is an initial, the slot was not set, and now is, as no stored one
  abbrev Begins : Type 0
  Begins = ((rule_of h).phase ≡ 2) × (Marked l q → ⊥) × (q < length l → Unstored ((rule_of h).marks l) q)

  -- a state's slot: the first record makes it one, or a later one does
  state_first : StateSlot (h ∷ hs) q → Begins ⊎ StateSlot hs q
  state_first z =
      ⊎_elim
      (λ (e : initial q z.0 ≡ h).
      let f : eqb (get_or l q 0) unset_mark ≡ true = rw (← e) at fine in
      inl (rw (← e) (
        refl,
        λ u. u (eqb-true (get_or l q 0) unset_mark f),
        λ b. unstored_now l q state_mark b (λ t. omega arith) (λ t. omega arith),
      )))
      (λ t. inr (z.0, t)) (Memᴰ.cases_cons z.1)

-- a slot that is set, and no stored one, is not set again; one that is set becomes no state
pub marked_apart : (xs : List Instr) (i : ℕ) (j : Judge) → (judge_from i j xs).number ≡ 0 → (q : ℕ)
    → (Unstored j.marks q → SetSlot (map shape_of xs) q → ⊥)
    × (Marked j.marks q → StateSlot (map shape_of xs) q → ⊥)
marked_apart [] i j a q = (λ u. set_none q, λ u z. Memᴰ.not-nil z.1)
marked_apart (x ∷ xs) i j a q =
    let h = shape_of x in
    let hs = map shape_of xs in
    let g = judge_next i j x xs a in
    let fine = good_fine j x g.0 in
    let stay = marks_stay h j.marks j.height fine in
    let rest = marked_apart xs (suc i) (judged j x) g.1 q in (
      λ u z. ⊎_elim (λ t. u.1 (t.1 u.0).0) (rest.0 (stay.unstored q u))
          (set_first h hs j.marks j.height q fine z),
      λ u z. ⊎_elim (λ t. t.1 u) (rest.1 (stay.marked q u)) (state_first h hs j.marks j.height q fine z),
    )

-- ---- without kind 15

-- no record of these stores again
abbrev pub NoneAgain : List Instr → Type 0
NoneAgain xs = Every (λ (x : Instr). stores_again (shape_of x) ≡ false) xs

-- then a slot that is set is not set again
pub marked_once : (xs : List Instr) (i : ℕ) (j : Judge) → (judge_from i j xs).number ≡ 0 → NoneAgain xs → (q : ℕ)
    → Marked j.marks q → SetSlot (map shape_of xs) q → ⊥
marked_once [] i j a n q u z = set_none q z
marked_once (x ∷ xs) i j a n q u z =
    let h = shape_of x in
    let g = judge_next i j x xs a in
    let fine = good_fine j x g.0 in
    let stay = marks_stay h j.marks j.height fine in
    ⊎_elim (λ t. not_both (t.1 u).1 n.0)
    (marked_once xs (suc i) (judged j x) g.1 n.1 q (stay.marked q u))
    (set_first h (map shape_of xs) j.marks j.height q fine z)

-- ---- a derivative

-- the mark of a state with its derivative stays where another slot is marked
other_marked : (l : List ℕ) (s x q : ℕ) → (get_or l s 0 ≡ derived_mark → ⊥) → get_or l q 0 ≡ derived_mark
    → get_or (set l s x) q 0 ≡ derived_mark
other_marked l s x q n m = get_or-set_other l s q x 0 (λ (e : q ≡ s). n (rw (← e) m)) ∙ m

-- so it stays by each good record
derived_stays : (h : Shape) (l : List ℕ) (k : ℕ) → (rule_of h).fine l k ≡ true → (q : ℕ) → get_or l q 0 ≡ derived_mark
    → get_or ((rule_of h).marks l) q 0 ≡ derived_mark
derived_stays (constant s x) l k g q m =
    other_marked l s given_mark q (λ e. omega (arith, eqb-true (get_or l s 0) unset_mark g)) m
derived_stays (initial s x) l k g q m =
    other_marked l s state_mark q (λ e. omega (arith, eqb-true (get_or l s 0) unset_mark g)) m
derived_stays (push (value x)) l k g q m = m
derived_stays (push (slot s)) l k g q m = m
derived_stays (fold o) l k g q m = m
derived_stays (store s) l k g q m =
    let t = eqb-true (get_or l s 0) unset_mark (and_true (eqb k 1) (eqb (get_or l s 0) unset_mark) g).1 in
    other_marked l s stored_mark q (λ e. omega arith) m
derived_stays (derivative s) l k g q m =
    let t = eqb-true (get_or l s 0) state_mark (and_true (eqb k 1) (eqb (get_or l s 0) state_mark) g).1 in
    other_marked l s derived_mark q (λ e. omega arith) m
derived_stays (store_again s) l k g q m = m
derived_stays bad l k g q m = m

-- it is not written again
pub derived_once : (xs : List Instr) (i : ℕ) (j : Judge) → (judge_from i j xs).number ≡ 0 → (q : ℕ)
    → get_or j.marks q 0 ≡ derived_mark → DerivedSlot (map shape_of xs) q → ⊥
derived_once [] i j a q m z = Memᴰ.not-nil z
derived_once (x ∷ xs) i j a q m z =
    let h = shape_of x in
    let l = j.marks in
    let g = judge_next i j x xs a in
    let fine = good_fine j x g.0 in
    ⊎_elim
    (λ (e : derivative q ≡ h).
    let f : (eqb j.height 1 && eqb (get_or l q 0) state_mark) ≡ true = rw (← e) at fine in
    let t = eqb-true (get_or l q 0) state_mark (and_true (eqb j.height 1) (eqb (get_or l q 0) state_mark) f).1 in
    omega arith)
    (derived_once xs (suc i) (judged j x) g.1 q (derived_stays h l j.height fine q m))
    (Memᴰ.cases_cons z)

-- a state's slot is not set
pub state_apart : (xs : List Instr) (i : ℕ) (j : Judge) → (judge_from i j xs).number ≡ 0 → (q : ℕ) → q < length j.marks
    → StateSlot (map shape_of xs) q → SetSlot (map shape_of xs) q → ⊥
state_apart [] i j a q b y z = set_none q z
state_apart (x ∷ xs) i j a q b y z =
    let h = shape_of x in
    let hs = map shape_of xs in
    let l = j.marks in
    let g = judge_next i j x xs a in
    let fine = good_fine j x g.0 in
    let later = marked_apart xs (suc i) (judged j x) g.1 q in
    let b' : q < length ((rule_of h).marks l) = rw (marks_stay h l j.height fine).long b in
    let rest = state_apart xs (suc i) (judged j x) g.1 q b' in
    let first = set_first h hs l j.height q fine z in
    ⊎_elim
    (λ s. ⊎_elim (λ t. t.0 s.0) (λ t. later.0 (s.2 b) t) first)
    (λ s. ⊎_elim (λ t. later.1 (t.2 b) s) (λ t. rest s t) first)
    (state_first h hs l j.height q fine y)

-- the slot of a record of a sound program is one of the slots
pub slot_below : (xs : List Instr) (p k : ℕ) → Sound p k xs → (h : Shape) → Memᴰ h (map shape_of xs)
    → (fields_of h).operand < slots
unfolding SoundWithin
slot_below [] p k s h z = absurd (Memᴰ.not-nil z)
slot_below (x ∷ xs) p k s h z =
    ⊎_elim (λ (e : h ≡ shape_of x). rw e s.0.slot) (λ t. slot_below xs _ _ s.1 h t) (Memᴰ.cases_cons z)
