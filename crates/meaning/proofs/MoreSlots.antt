-- More slots: with m of them a program that n accept is decoded, judged and run as with n, whatever stands behind the
-- first n marks and places.
use Prim.Native.Nat.{ℕ, zero, suc, ◌+◌, ◌-◌, ◌*◌, ◌/◌, ◌≤◌, ◌<◌}
use mathlib.Core.Path.{◌≡◌, refl, sym, ap, ap₂, ◌∙◌}
use mathlib.Core.Bool.{Bool, false, not, ◌&&◌, ◌||◌}
use mathlib.Core.List.{List, [], ◌∷◌, ◌++◌}
use native.Mathlib.Omega.{arith}
use lib.Dec.{eqb}
use lib.ListN.{length, set, take, drop, replicate, length-set, length-replicate, length-append, take-append-drop}
use lib.ListN.{get_or-append, replicate-append-replicate, length-drop}
use lib.Seq.{set-append_left, take_at, drop_at, length-take-le}
use lib.Ieee.{Float, nan, binary64, add, mul}
use Rattle.limits.specs.Limits.{record_bytes}
use Rattle.laws.proofs.Tests.{cond_ind}
use Rattle.records.specs.declared.Instr.{Instr}
use Rattle.records.specs.Fields.{fields_of}
use Rattle.records.specs.Record.{decode_at_within, decode_from_within, decoded_within}
use Rattle.records.specs.Shape.{zero64, value, slot}
use Rattle.records.specs.Shape.{Shape, constant, initial, push, fold, store, derivative, store_again, bad, shape_of}
use Rattle.records.proofs.Decoding.{decode_more}
use Rattle.evaluator.specs.Judge.{Answer}
use Rattle.evaluator.specs.Judge.{unset_mark, given_mark, state_mark, derived_mark, stored_mark, rule_of, takes, gives}
use Rattle.evaluator.specs.Judge.{phase_of}
use Rattle.evaluator.specs.Judge.{Judge, good, judged, judge_begun, any_open, answer, judge_from, judge_within}
use Rattle.evaluator.specs.Machine.{Machine, act, run, begun}
use Rattle.evaluator.specs.Evaluate.{RunOutcome, run_outcome, refusal_within, unless, evaluated_within}
use Rattle.evaluator.specs.Evaluate.{if_initial, each_state, start_all, started_within, moved, move_all, advanced}
use Rattle.evaluator.specs.Evaluate.{stepped_within}
use Rattle.evaluator.specs.Sound.{SoundWithin}
use Rattle.evaluator.proofs.AcceptedSound.{accepted_sound}
use Rattle.evaluator.proofs.EntryAnswers.{judge_decides, AnswersZero, answers_zero}
use Rattle.meaning.specs.RunsAlike.{walked_within}
use Rattle.meaning.specs.MoreSlots.{LentAlike, SameFront, MoreSlots}
use Rattle.meaning.proofs.Acted.{top, run_next, acted_long}
use Rattle.meaning.proofs.ReadSlots.{run_long}

-- ---- the records

-- k records from record i on, of which n slots refuse none
from_more : (n m : ℕ) → n ≤ m → (p : List ℕ) (i k q h : ℕ) → SoundWithin n q h (decode_from_within n p i k)
    → decode_from_within m p i k ≡ decode_from_within n p i k
unfolding SoundWithin decode_from_within
from_more n m more p i zero q h s = refl
from_more n m more p i (suc k) q h s =
    let x = decode_at_within n p (i * record_bytes) in
    ap₂ (λ (y : Instr) (ys : List Instr). y ∷ ys) (decode_more p n m (i * record_bytes) more s.0.known)
    (from_more n m more p (suc i) k (phase_of x) (h - takes x + gives x) s.1)

-- all of them
decoded_more : (n m : ℕ) → n ≤ m → (p : List ℕ) → SoundWithin n 1 0 (decoded_within n p)
    → decoded_within m p ≡ decoded_within n p
unfolding decoded_within
decoded_more n m more p s = from_more n m more p 0 (length p / record_bytes) 1 0 s

-- ---- the judge, with the marks z behind those of the slots that records name

abbrev widened : Judge → List ℕ → Judge
widened j z = record { phase = j.phase; height = j.height; marks = j.marks ++ z }

module _ (l z : List ℕ) where
  -- a slot is as fine as it was
  fine_more : (h : Shape) (k : ℕ) → (fields_of h).operand < length l
      → (rule_of h).fine (l ++ z) k ≡ (rule_of h).fine l k
  fine_more (constant s x) k b = rw (get_or-append l z 0 s b)
  fine_more (initial s x) k b = rw (get_or-append l z 0 s b)
  fine_more (push (value x)) k b = refl
  fine_more (push (slot s)) k b = rw (get_or-append l z 0 s b)
  fine_more (fold o) k b = refl
  fine_more (store s) k b = rw (get_or-append l z 0 s b)
  fine_more (derivative s) k b = rw (get_or-append l z 0 s b)
  fine_more (store_again s) k b = rw (get_or-append l z 0 s b)
  fine_more bad k b = refl

  -- the marks behind stay
  marks_more : (h : Shape) → (fields_of h).operand < length l → (rule_of h).marks (l ++ z) ≡ (rule_of h).marks l ++ z
  marks_more (constant s x) b = set-append_left l z s given_mark b
  marks_more (initial s x) b = set-append_left l z s state_mark b
  marks_more (push (value x)) b = refl
  marks_more (push (slot s)) b = refl
  marks_more (fold o) b = refl
  marks_more (store s) b = set-append_left l z s stored_mark b
  marks_more (derivative s) b = set-append_left l z s derived_mark b
  marks_more (store_again s) b = refl
  marks_more bad b = refl

  -- as many marks
  marks_long : (h : Shape) → length ((rule_of h).marks l) ≡ length l
  marks_long (constant s x) = length-set l s given_mark
  marks_long (initial s x) = length-set l s state_mark
  marks_long (push (value x)) = refl
  marks_long (push (slot s)) = refl
  marks_long (fold o) = refl
  marks_long (store s) = length-set l s stored_mark
  marks_long (derivative s) = length-set l s derived_mark
  marks_long (store_again s) = refl
  marks_long bad = refl

-- marks without an open state, and these behind others
none_open : (k : ℕ) → any_open (replicate k unset_mark) ≡ false
unfolding any_open
none_open zero = refl
none_open (suc k) = none_open k

open_more : (l z : List ℕ) → any_open z ≡ false → any_open (l ++ z) ≡ any_open l
unfolding any_open
open_more [] z e = e
open_more (m ∷ l) z e = ap (λ (b : Bool). eqb m state_mark || b) (open_more l z e)

-- the same answer
judge_more : (n : ℕ) (z : List ℕ) → any_open z ≡ false → (xs : List Instr) (i q h : ℕ) (j : Judge)
    → length j.marks ≡ n
    → SoundWithin n q h xs
    → judge_from i (widened j z) xs ≡ judge_from i j xs
unfolding judge_from good SoundWithin
judge_more n z e [] i q h j long s = rw (open_more j.marks z e)
judge_more n z e (x ∷ xs) i q h j long s =
    let inside : (fields_of (shape_of x)).operand < length j.marks = rw long s.0.slot in
    let next = judge_more n z e xs (suc i) (phase_of x) (h - takes x + gives x) (judged j x)
    (marks_long j.marks z (shape_of x) ∙ long) s.1 in
    rw (fine_more j.marks z (shape_of x) j.height inside, marks_more j.marks z (shape_of x) inside, next)

-- at the beginning
begun_more : (n m : ℕ) → 0 < n → n ≤ m → judge_begun m ≡ widened (judge_begun n) (replicate (m - n) unset_mark)
begun_more n m some more =
    let front = replicate {A = ℕ} n unset_mark in
    let behind = replicate {A = ℕ} (m - n) unset_mark in
    let first : 0 < length front = rw (length-replicate {A = ℕ} n unset_mark) some in
    let all : n + (m - n) ≡ m = omega arith in
    let marks : set (replicate m unset_mark) 0 given_mark ≡ set front 0 given_mark ++ behind =
    ap (λ (k : ℕ). set (replicate k unset_mark) 0 given_mark) (sym all)
    ∙ ap (λ (l : List ℕ). set l 0 given_mark) (sym (replicate-append-replicate n (m - n) unset_mark))
    ∙ set-append_left front behind 0 given_mark first in
    ap (λ (l : List ℕ). record { phase = 1; height = 0; marks = l }) marks

-- what n slots accept is judged as it was
judged_more : (n m : ℕ) → 0 < n → n ≤ m → (xs : List Instr) → SoundWithin n 1 0 xs
    → judge_within m xs ≡ judge_within n xs
judged_more n m some more xs s =
    let long : length (judge_begun n).marks ≡ n =
    length-set (replicate n unset_mark) 0 given_mark ∙ length-replicate {A = ℕ} n unset_mark in
    ap (λ (j : Judge). judge_from 0 j xs) (begun_more n m some more)
    ∙ judge_more n (replicate (m - n) unset_mark) (none_open (m - n)) xs 0 1 0 (judge_begun n) long s

-- a judge's answer with number 0 has no record number
zero_answer : (xs : List Instr) (i : ℕ) (j : Judge) → (judge_from i j xs).number ≡ 0 → judge_from i j xs ≡ answer 0 0
unfolding judge_from
zero_answer [] i j =
    cond_ind (λ (a : Answer). a.number ≡ 0 → a ≡ answer 0 0) (eqb j.height 0 && not (any_open j.marks))
    (answer 0 0) (answer 4 0) (λ _ _. refl) (λ _ e. absurd (omega arith))
zero_answer (x ∷ xs) i j =
    cond_ind (λ (a : Answer). a.number ≡ 0 → a ≡ answer 0 0) (good j x) (judge_from (suc i) (judged j x) xs)
    (answer 3 i)
    (λ _. zero_answer xs (suc i) (judged j x)) (λ _ e. absurd (omega arith))

-- ---- the run, with the places a and c behind those of the slots that records name

abbrev extended : Machine → List Float → List Float → Machine
extended k a c = record { stack = k.stack; values = k.values ++ a; derivs = k.derivs ++ c }

-- one record
act_more : (k : Machine) (a c : List Float) (h : Shape) → (fields_of h).operand < length k.values
    → (fields_of h).operand < length k.derivs
    → act (extended k a c) h ≡ extended (act k h) a c
act_more k a c (constant s x) bv bd = rw (set-append_left k.values a s x bv)
act_more k a c (initial s x) bv bd = refl
act_more k a c (push (value x)) bv bd = refl
act_more k a c (push (slot s)) bv bd = rw (get_or-append k.values a nan s bv)
act_more k a c (fold o) bv bd = refl
act_more k a c (store s) bv bd = rw (set-append_left k.values a s (top k) bv)
act_more k a c (derivative s) bv bd = rw (set-append_left k.derivs c s (top k) bd)
act_more k a c (store_again s) bv bd = rw (set-append_left k.values a s (top k) bv)
act_more k a c bad bv bd = refl

-- all of them
run_more : (n : ℕ) (xs : List Instr) (k : Machine) (a c : List Float) (q h : ℕ) → length k.values ≡ n
    → length k.derivs ≡ n
    → SoundWithin n q h xs
    → run (extended k a c) xs ≡ extended (run k xs) a c
unfolding run SoundWithin
run_more n [] k a c q h lv ld s = refl
run_more n (x ∷ xs) k a c q h lv ld s =
    let kept = acted_long k (shape_of x) in
    let in_values : (fields_of (shape_of x)).operand < length k.values = rw lv s.0.slot in
    let in_derivs : (fields_of (shape_of x)).operand < length k.derivs = rw ld s.0.slot in
    run_next (extended k a c) x xs
    ∙ ap (λ (o : Machine). run o xs) (act_more k a c (shape_of x) in_values in_derivs)
    ∙ run_more n xs (act k (shape_of x)) a c (phase_of x) (h - takes x + gives x) (kept.0 ∙ lv) (kept.1 ∙ ld) s.1
    ∙ ap (λ (o : Machine). extended o a c) (sym (run_next k x xs))

-- ---- what is done for each state, with the places a behind

module _ (n : ℕ) (f g : List Float → ℕ → Float → List Float) (a : List Float)
    (one : (v : List Float) (s : ℕ) (x : Float) → length v ≡ n → s < n → f (v ++ a) s x ≡ g v s x ++ a)
    (long : (v : List Float) (s : ℕ) (x : Float) → length (g v s x) ≡ length v) where
  -- one record
  shape_more : (v : List Float) (h : Shape) → length v ≡ n → (fields_of h).operand < n
      → if_initial (f (v ++ a)) (v ++ a) h ≡ if_initial (g v) v h ++ a
  shape_more v (constant s x) e b = refl
  shape_more v (initial s x) e b = one v s x e b
  shape_more v (push p) e b = refl
  shape_more v (fold o) e b = refl
  shape_more v (store s) e b = refl
  shape_more v (derivative s) e b = refl
  shape_more v (store_again s) e b = refl
  shape_more v bad e b = refl

  shape_long : (v : List Float) (h : Shape) → length (if_initial (g v) v h) ≡ length v
  shape_long v (constant s x) = refl
  shape_long v (initial s x) = long v s x
  shape_long v (push p) = refl
  shape_long v (fold o) = refl
  shape_long v (store s) = refl
  shape_long v (derivative s) = refl
  shape_long v (store_again s) = refl
  shape_long v bad = refl

  -- all of them
  each_more : (xs : List Instr) (v : List Float) (q h : ℕ) → length v ≡ n → SoundWithin n q h xs
      → each_state f (v ++ a) xs ≡ each_state g v xs ++ a
  unfolding each_state SoundWithin
  each_more [] v q h e s = refl
  each_more (x ∷ xs) v q h e s =
      ap (λ (w : List Float). each_state f w xs) (shape_more v (shape_of x) e s.0.slot)
      ∙ each_more xs (if_initial (g v) v (shape_of x)) (phase_of x) (h - takes x + gives x)
      (shape_long v (shape_of x) ∙ e) s.1

  each_long : (xs : List Instr) (v : List Float) → length (each_state g v xs) ≡ length v
  unfolding each_state
  each_long [] v = refl
  each_long (x ∷ xs) v = each_long xs (if_initial (g v) v (shape_of x)) ∙ shape_long v (shape_of x)

-- ---- what is done, by the first n places: f and g are made of these, and the places behind stay

pub record Parted (n : ℕ) (f g v d : List Float) (k : Machine) : Type 0 where
  pub values : k.values ≡ f ++ drop n v
  pub derivs : k.derivs ≡ g ++ drop n d
  pub values_long : length f ≡ n
  pub derivs_long : length g ≡ n

module _ (n : ℕ) (some : 0 < n) (xs : List Instr) (sound : SoundWithin n 1 0 xs) where
  -- from the first places of the values and of the derivatives: what evaluating makes of them, starting, and a step
  abbrev run_front : List Float → List Float → Machine
  run_front f g = run (begun f g) xs

  abbrev start_front : List Float → List Float
  start_front f = start_all (set f 0 zero64) xs

  abbrev step_front : Float → List Float → List Float → List Float
  step_front h f g = advanced h (move_all h (run_front f g).derivs (run_front f g).values xs)

  module _ (v d : List Float) (roomy : n ≤ length v) (roomy_too : n ≤ length d) where
    abbrev f : List Float
    f = take n v

    abbrev g : List Float
    g = take n d

    f_long : length f ≡ n
    f_long = length-take-le n v roomy

    g_long : length g ≡ n
    g_long = length-take-le n d roomy_too

    -- evaluating
    run_parted : Parted n (run_front f g).values (run_front f g).derivs v d (run (begun v d) xs)
    run_parted =
        let whole : run (begun v d) xs ≡ extended (run_front f g) (drop n v) (drop n d) =
        ap₂ (λ (x y : List Float). run (begun x y) xs) (sym (take-append-drop n v)) (sym (take-append-drop n d))
        ∙ run_more n xs (begun f g) (drop n v) (drop n d) 1 0 f_long g_long sound in
        let long = run_long xs (begun f g) in
        record {
          values = ap (λ (k : Machine). k.values) whole;
          derivs = ap (λ (k : Machine). k.derivs) whole;
          values_long = long.0 ∙ f_long;
          derivs_long = long.1 ∙ g_long;
        }

    -- starting
    start_parted : Parted n (start_front f) g v d (begun (start_all (set v 0 zero64) xs) d)
    start_parted =
        let first : set v 0 zero64 ≡ set f 0 zero64 ++ drop n v =
        ap (λ (l : List Float). set l 0 zero64) (sym (take-append-drop n v))
        ∙ set-append_left f (drop n v) 0 zero64 (rw f_long some) in
        let long : length (set f 0 zero64) ≡ n = length-set f 0 zero64 ∙ f_long in
        let one : (l : List Float) (s : ℕ) (x : Float) → length l ≡ n → s < n
        → set (l ++ drop n v) s x ≡ set l s x ++ drop n v =
        λ l s x e b. set-append_left l (drop n v) s x (rw e b) in
        record {
          values =
              ap (λ (l : List Float). start_all l xs) first
              ∙ each_more n set set (drop n v) one length-set xs (set f 0 zero64) 1 0 long sound;
          derivs = sym (take-append-drop n d);
          values_long = each_long n set set (drop n v) one length-set xs (set f 0 zero64) ∙ long;
          derivs_long = g_long;
        }

    -- a step of h
    step_parted : (h : Float) → let k = run (begun v d) xs in
        Parted n (step_front h f g) (run_front f g).derivs v d
        (begun (advanced h (move_all h k.derivs k.values xs)) k.derivs)
    step_parted h =
        let r = run_parted in
        let k = run_front f g in
        let a = drop n v in
        let c = drop n d in
        let one : (l : List Float) (s : ℕ) (x : Float) → length l ≡ n → s < n
        → moved h (k.derivs ++ c) (l ++ a) s x ≡ moved h k.derivs l s x ++ a =
        λ l s x e b.
        let at = get_or-append l a nan s (rw e b) in
        let by = get_or-append k.derivs c nan s (rw r.derivs_long b) in
        ap₂ (λ (y z : Float). set (l ++ a) s (add binary64 y (mul binary64 h z))) at by
        ∙ set-append_left l a s _ (rw e b) in
        let keeps : (l : List Float) (s : ℕ) (x : Float) → length (moved h k.derivs l s x) ≡ length l =
        λ l s x. length-set l s _ in
        let states = move_all h k.derivs k.values xs in
        let states_long : length states ≡ n =
        each_long n (moved h (k.derivs ++ c)) (moved h k.derivs) a one keeps xs k.values ∙ r.values_long in
        let all : move_all h (k.derivs ++ c) (k.values ++ a) xs ≡ states ++ a =
        each_more n (moved h (k.derivs ++ c)) (moved h k.derivs) a one keeps xs k.values 1 0 r.values_long
        sound in
        let time : advanced h (states ++ a) ≡ advanced h states ++ a =
        ap (λ (y : Float). set (states ++ a) 0 (add binary64 y h))
        (get_or-append states a nan 0 (rw states_long some))
        ∙ set-append_left states a 0 _ (rw states_long some) in
        record {
          values =
              ap₂ (λ (x y : List Float). advanced h (move_all h x y xs)) r.derivs r.values
              ∙ ap (advanced h) all ∙ time;
          derivs = r.derivs;
          values_long = length-set states 0 _ ∙ states_long;
          derivs_long = r.derivs_long;
        }

-- ---- both outcomes

-- two machines that are made of the same first places
module _ (n : ℕ) (f g v d w e : List Float) (k l : Machine) (x : Parted n f g v d k) (y : Parted n f g w e l) where
  parted_same : (a : Answer)
      → SameFront n w e (run_outcome a k.values k.derivs) (run_outcome a l.values l.derivs)
  parted_same a =
      rw (x.values, x.derivs, y.values, y.derivs)
      (record {
        answer = refl;
        values = take_at f (drop n w) n x.values_long ∙ sym (take_at f (drop n v) n x.values_long);
        derivs = take_at g (drop n e) n x.derivs_long ∙ sym (take_at g (drop n d) n x.derivs_long);
        values_stay = drop_at f (drop n w) n x.values_long;
        derivs_stay = drop_at g (drop n e) n x.derivs_long;
      })

-- a machine that is made so has as many places as were lent
parted_long : (n : ℕ) (f g v d : List Float) (k : Machine) → Parted n f g v d k → n ≤ length v → n ≤ length d
    → (length k.values ≡ length v) × (length k.derivs ≡ length d)
parted_long n f g v d k x hv hd =
    let values = ap length x.values ∙ length-append f (drop n v) in
    let derivs = ap length x.derivs ∙ length-append g (drop n d) in (
      omega (arith, values, x.values_long, length-drop n v),
      omega (arith, derivs, x.derivs_long, length-drop n d),
    )

-- of a program, with n slots and with m
module _ (n m : ℕ) (some : 0 < n) (more : n ≤ m) (p : List ℕ) where
  abbrev xs : List Instr
  xs = decoded_within n p

  module _ (v d : List Float) (taken : (refusal_within n p v d).number ≡ 0) where
    unrefused : AnswersZero n p v d
    unrefused = answers_zero n p v d taken

    sound : SoundWithin n 1 0 xs
    sound = accepted_sound n some p unrefused.judged

    same_records : decoded_within m p ≡ xs
    same_records = decoded_more n m more p sound

    -- whatever is lent, with room for n slots or for m, the judge's answer is the same
    by_few : (w e : List Float) → n ≤ length w → n ≤ length e → refusal_within n p w e ≡ answer 0 0
    by_few w e hw he =
        judge_decides n p w e hw he unrefused.whole unrefused.few
        ∙ zero_answer xs 0 (judge_begun n) unrefused.judged

    by_many : (w e : List Float) → m ≤ length w → m ≤ length e → refusal_within m p w e ≡ answer 0 0
    by_many w e hw he =
        judge_decides m p w e hw he unrefused.whole unrefused.few
        ∙ ap (judge_within m) same_records
        ∙ judged_more n m some more xs sound
        ∙ zero_answer xs 0 (judge_begun n) unrefused.judged

  -- the outcomes agree as they should, and what they leave is lent alike again
  pub record Goes (w e : List Float) (o q : RunOutcome) : Type 0 where
    pub same : SameFront n w e o q
    pub next : LentAlike n m p o.values o.derivs q.values q.derivs

  module _ (v d w e : List Float) (lent : LentAlike n m p v d w e) where
    few : AnswersZero n p v d
    few = unrefused v d lent.accepted

    -- what is done is `made` of the records and of both buffers, and by the first places it is f and g of these
    goes : (f g : List Float → List Float → List Float) (made : List Instr → List Float → List Float → Machine)
        → ((a b : List Float) → n ≤ length a → n ≤ length b
        → Parted n (f (take n a) (take n b)) (g (take n a) (take n b)) a b (made xs a b))
        → Goes w e (unless (refusal_within n p v d) v d (made xs v d))
        (unless (refusal_within m p w e) w e (made (decoded_within m p) w e))
    goes f g made parts =
        let roomy : n ≤ length w = omega (arith, lent.values_room) in
        let roomy_too : n ≤ length e = omega (arith, lent.derivs_room) in
        let k = made xs v d in
        let l = made xs w e in
        let x = parts v d few.values few.derivs in
        let y = rw (lent.values, lent.derivs) at (parts w e roomy roomy_too) in
        let k_long = parted_long n _ _ v d k x few.values few.derivs in
        let l_long = parted_long n _ _ w e l y roomy roomy_too in
        let same = parted_same n _ _ v d w e k l x y (answer 0 0) in
        rw (
          same_records v d lent.accepted,
          by_few v d lent.accepted v d few.values few.derivs,
          by_many v d lent.accepted w e lent.values_room lent.derivs_room,
        )
        (record {
          same = same;
          next = record {
            accepted =
                ap (λ (a : Answer). a.number)
                (by_few v d lent.accepted k.values k.derivs (omega (arith, k_long.0, few.values))
                (omega (arith, k_long.1, few.derivs)));
            values_room = omega (arith, l_long.0, lent.values_room);
            derivs_room = omega (arith, l_long.1, lent.derivs_room);
            values = same.values;
            derivs = same.derivs;
          };
        })

    as_sound : SoundWithin n 1 0 xs
    as_sound = sound v d lent.accepted

    evaluate_goes : Goes w e (evaluated_within n p v d) (evaluated_within m p w e)
    unfolding evaluated_within
    evaluate_goes =
        goes (λ f g. (run_front n some xs as_sound f g).values) (λ f g. (run_front n some xs as_sound f g).derivs)
        (λ ys a b. run (begun a b) ys) (run_parted n some xs as_sound)

    start_goes : Goes w e (started_within n p v d) (started_within m p w e)
    unfolding started_within
    start_goes =
        goes (λ f g. start_front n some xs as_sound f) (λ f g. g)
        (λ ys a b. begun (start_all (set a 0 zero64) ys) b) (start_parted n some xs as_sound)

    step_goes : (h : Float) → Goes w e (stepped_within n p h v d) (stepped_within m p h w e)
    unfolding stepped_within
    step_goes h =
        goes (λ f g. step_front n some xs as_sound h f g) (λ f g. (run_front n some xs as_sound f g).derivs)
        (λ ys a b.
        let k = run (begun a b) ys in
        begun (advanced h (move_all h k.derivs k.values ys)) k.derivs)
        (λ a b ha hb. step_parted n some xs as_sound a b ha hb h)

  -- steps one after the other
  walk_same : (hs : List Float) (w e : List Float) (o q : RunOutcome) → Goes w e o q
      → SameFront n w e (walked_within n p hs o) (walked_within m p hs q)
  unfolding walked_within
  walk_same [] w e o q g = g.same
  walk_same (h ∷ hs) w e o q g =
      let step = step_goes o.values o.derivs q.values q.derivs g.next h in
      let same = step.same in
      walk_same hs w e (stepped_within n p h o.values o.derivs) (stepped_within m p h q.values q.derivs)
      (record {
        same = record {
          answer = same.answer;
          values = same.values;
          derivs = same.derivs;
          values_stay = same.values_stay ∙ g.same.values_stay;
          derivs_stay = same.derivs_stay ∙ g.same.derivs_stay;
        };
        next = step.next;
      })

  -- what is lent, before the first step
  as_it_is : (v d w e : List Float) → LentAlike n m p v d w e
      → Goes w e (run_outcome (answer 0 0) v d) (run_outcome (answer 0 0) w e)
  as_it_is v d w e lent =
      record {
        same = record {
          answer = refl;
          values = lent.values;
          derivs = lent.derivs;
          values_stay = refl;
          derivs_stay = refl;
        };
        next = lent;
      }

  -- MORE SLOTS
  pub more_slots : MoreSlots n m p
  more_slots =
      record {
        accepted = λ v d w e taken hw he. by_many v d taken w e hw he;
        evaluates = λ v d w e lent. (evaluate_goes v d w e lent).same;
        starts = λ v d w e lent. (start_goes v d w e lent).same;
        steps = λ h v d w e lent. (step_goes v d w e lent h).same;
        walks = λ hs v d w e lent. walk_same hs w e _ _ (as_it_is v d w e lent);
        start_walks = λ hs v d w e lent. walk_same hs w e _ _ (start_goes v d w e lent);
      }
