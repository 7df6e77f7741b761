-- A program without kind 15 that is run again from where it ended changes nothing: no record of it does, and so none of
-- its statements.
use Prim.Native.Nat.{ℕ, suc, ◌+◌, ◌-◌, ◌≤◌, ◌<◌}
use mathlib.Core.Path.{◌≡◌, refl, sym, ap, ap₂, ◌∙◌}
use mathlib.Core.Bool.{true, false, not, ◌&&◌}
use mathlib.Core.Logic.{⊎_elim}
use mathlib.Core.List.{List, [], ◌∷◌}
use native.Mathlib.Omega.{arith}
use borrow.Author.Tests.{eqb-true}
use lib.Dec.{eqb}
use lib.ListN.{length, get_or, set, drop, length-drop}
use lib.Seq.{get_or-set_same, set-get_or}
use lib.Ieee.{Float, nan}
use Rattle.limits.specs.Limits.{slots}
use Rattle.laws.specs.Every.{Every}
use Rattle.laws.specs.Runs.{front_run}
use Rattle.laws.proofs.Tests.{not_both, cond_ind, and_true}
use Rattle.records.specs.declared.Instr.{Instr}
use Rattle.records.specs.declared.Instr.TheVariants.{Constant, Initial, Value, Slot, Add, Sub, Mul, Div}
use Rattle.records.specs.declared.Instr.TheVariants.{Neg, Insw, Limit, Compar, Store, Deriv, StoreAgain, Bad}
use Rattle.records.specs.Fields.{fields_of}
use Rattle.records.specs.Shape.{value, slot, operands}
use Rattle.records.specs.Shape.{Shape, constant, initial, push, fold, store, derivative, store_again, bad, shape_of}
use Rattle.evaluator.specs.Judge.{Answer}
use Rattle.evaluator.specs.Judge.{given_mark, derived_mark, stored_mark, rule_of, Judge, judged, any_open}
use Rattle.evaluator.specs.Judge.{answer, judge_from}
use Rattle.evaluator.specs.Machine.{Machine, act, run, begun}
use Rattle.evaluator.specs.Sound.{Sound, SoundWithin}
use Rattle.meaning.specs.ReadSlots.{Same}
use Rattle.meaning.specs.ReSorted.{before_parts, cut_behind, stands_first, ends_statement}
use Rattle.meaning.proofs.Acted.{top, run_next, Marked}
use Rattle.meaning.proofs.SetApart.{judge_next, good_fine, marks_stay, mark_now, stores_again, NoneAgain}
use Rattle.meaning.proofs.SetApart.{marked_once, derived_once}
use Rattle.meaning.proofs.ReadSlots.{run_stays}
use Rattle.meaning.proofs.Cut.{parts}

-- ---- how many working values stand: as many as the judge counts
stack_high : (m : Machine) (h : Shape)
    → length (act m h).stack ≡ length m.stack - (rule_of h).takes + (rule_of h).gives
stack_high m (constant s x) = omega arith
stack_high m (initial s x) = omega arith
stack_high m (push (value x)) = omega arith
stack_high m (push (slot s)) = omega arith
stack_high m (fold o) = omega (arith, length-drop (operands o) m.stack)
stack_high m (store s) = omega (arith, length-drop 1 m.stack)
stack_high m (derivative s) = omega (arith, length-drop 1 m.stack)
stack_high m (store_again s) = omega (arith, length-drop 1 m.stack)
stack_high m bad = omega arith

-- a constant and an initial leave them
setting_stack : (m : Machine) (x : Instr) → stands_first x ≡ true → (act m (shape_of x)).stack ≡ m.stack
setting_stack m (Constant s x) t = refl
setting_stack m (Initial s x) t = refl
setting_stack m (Value x) t = absurd (not_both t refl)
setting_stack m (Slot s) t = absurd (not_both t refl)
setting_stack m Add t = absurd (not_both t refl)
setting_stack m Sub t = absurd (not_both t refl)
setting_stack m Mul t = absurd (not_both t refl)
setting_stack m Div t = absurd (not_both t refl)
setting_stack m Neg t = absurd (not_both t refl)
setting_stack m Insw t = absurd (not_both t refl)
setting_stack m Limit t = absurd (not_both t refl)
setting_stack m Compar t = absurd (not_both t refl)
setting_stack m (Store s) t = absurd (not_both t refl)
setting_stack m (Deriv s) t = absurd (not_both t refl)
setting_stack m (StoreAgain s) t = absurd (not_both t refl)
setting_stack m Bad t = absurd (not_both t refl)

-- the end of a statement, with k values, leaves none
closing_height : (x : Instr) (l : List ℕ) (k : ℕ) → ends_statement x ≡ true → (rule_of (shape_of x)).fine l k ≡ true
    → k - (rule_of (shape_of x)).takes + (rule_of (shape_of x)).gives ≡ 0
closing_height (Store s) l k t g = omega (arith, eqb-true k 1 (and_true (eqb k 1) _ g).0)
closing_height (Deriv s) l k t g = omega (arith, eqb-true k 1 (and_true (eqb k 1) _ g).0)
closing_height (Constant s x) l k t g = absurd (not_both t refl)
closing_height (Initial s x) l k t g = absurd (not_both t refl)
closing_height (Value x) l k t g = absurd (not_both t refl)
closing_height (Slot s) l k t g = absurd (not_both t refl)
closing_height Add l k t g = absurd (not_both t refl)
closing_height Sub l k t g = absurd (not_both t refl)
closing_height Mul l k t g = absurd (not_both t refl)
closing_height Div l k t g = absurd (not_both t refl)
closing_height Neg l k t g = absurd (not_both t refl)
closing_height Insw l k t g = absurd (not_both t refl)
closing_height Limit l k t g = absurd (not_both t refl)
closing_height Compar l k t g = absurd (not_both t refl)
closing_height (StoreAgain s) l k t g = absurd (not_both t refl)
closing_height Bad l k t g = absurd (not_both t refl)

-- at the end none stands
end_height : (i : ℕ) (j : Judge) → (judge_from i j []).number ≡ 0 → j.height ≡ 0
unfolding judge_from
end_height i j =
    cond_ind (λ (a : Answer). a.number ≡ 0 → j.height ≡ 0) (eqb j.height 0 && not (any_open j.marks))
    (answer 0 0) (answer 4 0) (λ t e. eqb-true j.height 0 (and_true (eqb j.height 0) _ t).0)
    (λ t e. absurd (omega arith))

-- a list without members is empty
no_members : {A : Type 0} (l : List A) → length l ≡ 0 → l ≡ []
no_members [] e = refl
no_members (a ∷ l) e = absurd (omega arith)

-- only an empty list has no parts
no_parts : (xs : List Instr) → cut_behind ends_statement xs ≡ [] → xs ≡ []
unfolding cut_behind
no_parts [] e = refl
no_parts (x ∷ xs) e =
    absurd (cond_ind (λ (l : List (List Instr)). l ≡ [] → ⊥) (ends_statement x) _ _ (λ t z. not_none _ _ z)
    (λ t z. not_before (cut_behind ends_statement xs) z) e)
  where
    not_none : (s : List Instr) (ss : List (List Instr)) → s ∷ ss ≡ [] → ⊥
    not_none s ss z = let n : ◌≡◌ {A = ℕ} 0 1 = cc in omega arith

    not_before : (ss : List (List Instr)) → before_parts x ss ≡ [] → ⊥
    not_before [] z = not_none _ _ z
    not_before (s ∷ ss) z = not_none _ _ z

-- a place that gets what it has there stays
put_back : (u w : List Float) (s : ℕ) (x : Float) → u ≡ w → s < length w → Same w (set u s x) s → set u s x ≡ w
put_back u w s x e b same =
    let in_u : s < length u = rw e b in
    let y : get_or w s nan ≡ x = same ∙ get_or-set_same u s x nan in_u in
    ap₂ (λ (l : List Float) (z : Float). set l s z) e (sym y) ∙ set-get_or w s nan

-- ---- v and d are where a run ended

-- a statement rests: carried out there it changes nothing
abbrev pub Rests : List Float → List Float → List Instr → Type 0
Rests v d s = run (begun v d) s ≡ begun v d

module _ (v d : List Float) where
  -- so do all of these, of which the first is begun, from m on
  abbrev RestsFrom : Machine → List (List Instr) → Type 0
  RestsFrom m [] = Unit {0}
  RestsFrom m (s ∷ ss) = (run m s ≡ begun v d) × Every (Rests v d) ss

  -- where none is begun
  rests_each : (ss : List (List Instr)) → RestsFrom (begun v d) ss → Every (Rests v d) ss
  rests_each [] h = tt
  rests_each (s ∷ ss) h = h

  -- one record before them
  rests_before : (m : Machine) (x : Instr) (ss : List (List Instr)) → (ss ≡ [] → act m (shape_of x) ≡ begun v d)
      → RestsFrom (act m (shape_of x)) ss → RestsFrom m (before_parts x ss)
  unfolding run
  rests_before m x [] f h = (run_next m x [] ∙ f refl, tt)
  rests_before m x (s ∷ ss) f h = (run_next m x s ∙ h.0, h.1)

  -- without working values it is the machine that begins there
  begins : (m : Machine) → m.stack ≡ [] → m.values ≡ v → m.derivs ≡ d → m ≡ begun v d
  begins m e f g = rw (e, f, g)

-- .. and have a place for each slot
module _ (v d : List Float) (lv : slots ≤ length v) (ld : slots ≤ length d) where
  -- a record changes nothing, if what it writes is there at the end: what it sets, and the derivative that it writes
  still : (l : List ℕ) (k : ℕ) (m : Machine) → length l ≡ slots → m.values ≡ v → m.derivs ≡ d → (h : Shape)
      → (rule_of h).fine l k ≡ true
      → (fields_of h).operand < slots
      → stores_again h ≡ false
      → ((s : ℕ) → Marked ((rule_of h).marks l) s → Same v (act m h).values s)
      → ((s : ℕ) → get_or ((rule_of h).marks l) s 0 ≡ derived_mark → Same d (act m h).derivs s)
      → ((act m h).values ≡ v) × ((act m h).derivs ≡ d)
  still l k m long ev ed (constant s x) g b n f r =
      let now = mark_now l s given_mark (omega arith) (λ e. omega arith) in
      (put_back m.values v s x ev (omega arith) (f s now), ed)
  still l k m long ev ed (initial s x) g b n f r = (ev, ed)
  still l k m long ev ed (push (value x)) g b n f r = (ev, ed)
  still l k m long ev ed (push (slot s)) g b n f r = (ev, ed)
  still l k m long ev ed (fold o) g b n f r = (ev, ed)
  still l k m long ev ed (store s) g b n f r =
      let now = mark_now l s stored_mark (omega arith) (λ e. omega arith) in
      (put_back m.values v s (top m) ev (omega arith) (f s now), ed)
  still l k m long ev ed (derivative s) g b n f r =
      let now = get_or-set_same l s derived_mark 0 (omega arith) in
      (ev, put_back m.derivs d s (top m) ed (omega arith) (r s now))
  still l k m long ev ed (store_again s) g b n f r = absurd (not_both refl n)
  still l k m long ev ed bad g b n f r = (ev, ed)

  -- ---- on the way: from here the judge takes the records xs; both buffers are as at the end, and so they end
  pub record Quiet (i : ℕ) (j : Judge) (m : Machine) (xs : List Instr) : Type 0 where
    pub taken : (judge_from i j xs).number ≡ 0
    pub sound : Sound j.phase j.height xs
    pub kinds : NoneAgain xs
    pub long : length j.marks ≡ slots
    pub high : length m.stack ≡ j.height
    pub values : m.values ≡ v
    pub derivs : m.derivs ≡ d
    pub last_values : (run m xs).values ≡ v
    pub last_derivs : (run m xs).derivs ≡ d

  -- one record further on
  quiet_next : (i : ℕ) (j : Judge) (m : Machine) (x : Instr) (xs : List Instr) → Quiet i j m (x ∷ xs)
      → Quiet (suc i) (judged j x) (act m (shape_of x)) xs
  unfolding SoundWithin
  quiet_next i j m x xs q =
      let h = shape_of x in
      let n = act m h in
      let g = judge_next i j x xs q.taken in
      let fine = good_fine j x g.0 in
      let ends_v : (run n xs).values ≡ v = rw (run_next m x xs) at q.last_values in
      let ends_d : (run n xs).derivs ≡ d = rw (run_next m x xs) at q.last_derivs in
      let set_now : (s : ℕ) → Marked ((rule_of h).marks j.marks) s → Same v n.values s =
      λ s u. ⊎_elim (λ z. absurd (marked_once xs (suc i) (judged j x) g.1 q.kinds.1 s u z))
      (λ (e : Same (run n xs).values n.values s). ap (λ (l : List Float). get_or l s nan) (sym ends_v) ∙ e)
      (run_stays xs n s).0 in
      let derived_now : (s : ℕ) → get_or ((rule_of h).marks j.marks) s 0 ≡ derived_mark → Same d n.derivs s =
      λ s u. ⊎_elim (λ z. absurd (derived_once xs (suc i) (judged j x) g.1 s u z))
      (λ (e : Same (run n xs).derivs n.derivs s). ap (λ (l : List Float). get_or l s nan) (sym ends_d) ∙ e)
      (run_stays xs n s).1 in
      let now = still j.marks j.height m q.long q.values q.derivs h fine q.sound.0.slot
      q.kinds.0 set_now derived_now in
      record {
        taken = g.1;
        sound = q.sound.1;
        kinds = q.kinds.1;
        long = (marks_stay h j.marks j.height fine).long ∙ q.long;
        high = rw (← q.high) (stack_high m h);
        values = now.0;
        derivs = now.1;
        last_values = ends_v;
        last_derivs = ends_d;
      }

  -- the statements of records on the way
  rests_from : (i : ℕ) (j : Judge) (m : Machine) (xs : List Instr) → Quiet i j m xs
      → RestsFrom v d m (cut_behind ends_statement xs)
  unfolding cut_behind run
  rests_from i j m [] q = tt
  rests_from i j m (x ∷ xs) q =
      let n = act m (shape_of x) in
      let next = quiet_next i j m x xs q in
      let later = rests_from (suc i) (judged j x) n xs next in
      let empty : (judged j x).height ≡ 0 → n ≡ begun v d =
      λ z. begins v d n (no_members n.stack (next.high ∙ z)) next.values next.derivs in
      let fine = good_fine j x (judge_next i j x xs q.taken).0 in
      cond_ind (RestsFrom v d m) (ends_statement x) ((x ∷ []) ∷ cut_behind ends_statement xs)
      (before_parts x (cut_behind ends_statement xs))
      (λ t.
      let e = empty (closing_height x j.marks j.height t fine) in
      (run_next m x [] ∙ e, rests_each v d (cut_behind ends_statement xs) (rw e at later)))
      (λ t. rests_before v d m x (cut_behind ends_statement xs)
      (λ none. empty (end_height (suc i) (judged j x) (rw (no_parts xs none) at next.taken))) later)

  -- the constants and initials rest, and each statement behind them
  pub all_rest : (i : ℕ) (j : Judge) (xs : List Instr) → Quiet i j (begun v d) xs
      → Rests v d (front_run stands_first xs) × Every (Rests v d) (parts stands_first ends_statement xs)
  unfolding front_run run
  all_rest i j [] q = (refl, rests_each v d (cut_behind ends_statement []) (rests_from i j (begun v d) [] q))
  all_rest i j (x ∷ xs) q =
      cond_ind
      (λ (l : List Instr).
      Rests v d l × Every (Rests v d) (cut_behind ends_statement (drop (length l) (x ∷ xs)))) (stands_first x)
      (x ∷ front_run stands_first xs) []
      (λ t.
      let n = act (begun v d) (shape_of x) in
      let next = quiet_next i j (begun v d) x xs q in
      let e : n ≡ begun v d = begins v d n (setting_stack (begun v d) x t) next.values next.derivs in
      let later = all_rest (suc i) (judged j x) xs (rw e at next) in
      (run_next (begun v d) x (front_run stands_first xs) ∙ (rw e later.0), later.1))
      (λ t. (refl, rests_each v d (cut_behind ends_statement (x ∷ xs)) (rests_from i j (begun v d) (x ∷ xs) q)))
