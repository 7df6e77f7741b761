-- The entries: refusals in their order, and what an answer of 0 writes.
use Prim.Native.Nat.{ℕ, ◌/◌, ◌%◌, ◌≤◌, ◌<◌}
use mathlib.Core.Path.{◌≡◌, refl, sym, ap, ◌∙◌}
use mathlib.Core.Bool.{not, ◌||◌}
use mathlib.Core.List.{List}
use Rattle.std.specs.Prelude.{Ok, Err}
use native.Mathlib.Omega.{arith}
use borrow.Author.Tests.{ne_eqb, lt-ltb, le-ltb, eqb-true, ltb-false}
use lib.Dec.{eqb, ltb, lit<}
use lib.ListN.{length, set}
use lib.Ieee.{Float}
use Rattle.limits.specs.Limits.{slots, record_bytes, most_records}
use Rattle.laws.proofs.Tests.{cond_ind, or_blocked}
use Rattle.laws.proofs.Bools.{or_false}
use Rattle.records.specs.Shape.{zero64}
use Rattle.records.specs.Record.{decoded, decoded_within}
use Rattle.evaluator.specs.Machine.{Machine, begun}
use Rattle.evaluator.specs.Judge.{answer, judge_within, judge}
use Rattle.evaluator.specs.Evaluate.{run_outcome, refusal, refusal_within, unless, ran, evaluated_within, start_all}
use Rattle.evaluator.specs.Evaluate.{started_within}
use Rattle.evaluator.specs.Evaluate.{move_all, advanced, stepped_within}
use Rattle.evaluator.specs.Contract.{answer_in, Evaluated, Started, Stepped}
use Rattle.evaluator.specs.declared.Refusal.{Refusal}
use Rattle.evaluator.specs.declared.Refusal.TheVariants.{ShortRoom, WrongSize, BadRecord, Unfinished}
use Rattle.evaluator.specs.Sound.{Granted}
use Rattle.evaluator.specs.Stack.{Ran}
use Rattle.evaluator.specs.Judge.{Answer}
use Rattle.evaluator.proofs.AcceptedSound.{accepted_sound}

-- ---- refusals

-- with n slots, where there is room and the records are whole and not too many, the judge decides
pub judge_decides : (n : ℕ) (p : List ℕ) (v d : List Float) → n ≤ length v → n ≤ length d
    → length p % record_bytes ≡ 0
    → length p / record_bytes ≤ most_records
    → refusal_within n p v d ≡ judge_within n (decoded_within n p)
unfolding refusal_within
judge_decides n p v d hv hd hp h =
    let short = le-ltb most_records (length p / record_bytes) h in
    rw (le-ltb (length v) n hv, le-ltb (length d) n hd, hp, short)

module _ (p : List ℕ) (v d : List Float) (r : Answer) where
  -- 1: either is shorter
  pub short_values : r ≡ answer 1 0 → length v < slots → r ≡ refusal p v d
  unfolding refusal_within
  short_values e h = rw (e, lt-ltb (length v) slots h)

  pub short_derivs : r ≡ answer 1 0 → slots ≤ length v → length d < slots → r ≡ refusal p v d
  unfolding refusal_within
  short_derivs e hv h = rw (e, le-ltb (length v) slots hv, lt-ltb (length d) slots h)

  module _ (hv : slots ≤ length v) (hd : slots ≤ length d) where
    -- 2: no whole records, or too many of them
    pub ragged : r ≡ answer 2 0 → (length p % record_bytes ≡ 0 → ⊥) → r ≡ refusal p v d
    unfolding refusal_within
    ragged e h =
        rw (e, le-ltb (length v) slots hv, le-ltb (length d) slots hd, ne_eqb (length p % record_bytes) 0 h)

    module _ (hp : length p % record_bytes ≡ 0) where
      pub too_long : r ≡ answer 2 0 → most_records < length p / record_bytes → r ≡ refusal p v d
      unfolding refusal_within
      too_long e h =
          let long = lt-ltb most_records (length p / record_bytes) h in
          rw (e, le-ltb (length v) slots hv, le-ltb (length d) slots hd, hp, long)

  -- 3, 4 or 0: the judge's
  pub by_judge : slots ≤ length v → slots ≤ length d → length p % record_bytes ≡ 0 → r ≡ judge (decoded p)
      → length p / record_bytes ≤ most_records → r ≡ refusal p v d
  by_judge hv hd hp e h = e ∙ sym (judge_decides slots p v d hv hd hp h)

-- ---- no refusal

-- what an answer of 0 says, with n slots: there is room, the records are whole and not too many, the judge takes them
pub record AnswersZero (n : ℕ) (p : List ℕ) (v d : List Float) : Type 0 where
  pub values : n ≤ length v
  pub derivs : n ≤ length d
  pub whole : length p % record_bytes ≡ 0
  pub few : length p / record_bytes ≤ most_records
  pub judged : (judge_within n (decoded_within n p)).number ≡ 0

pub answers_zero : (n : ℕ) (p : List ℕ) (v d : List Float) → (refusal_within n p v d).number ≡ 0 → AnswersZero n p v d
unfolding refusal_within
answers_zero n p v d =
    let Q : Answer → Type 0 = λ (a : Answer). a.number ≡ 0 → AnswersZero n p v d in
    let whole = eqb (length p % record_bytes) 0 in
    let many = ltb most_records (length p / record_bytes) in
    cond_ind Q (ltb (length v) n || ltb (length d) n) (answer 1 0) _ (λ _ e. absurd (omega arith))
    (λ t.
    let large = or_false (ltb (length v) n) (ltb (length d) n) t in
    cond_ind Q (not whole || many) (answer 2 0) (judge_within n (decoded_within n p)) (λ _ e. absurd (omega arith))
    (λ u e.
    let fit = or_blocked whole many u in
    record {
      values = ltb-false (length v) n large.0;
      derivs = ltb-false (length d) n large.1;
      whole = eqb-true (length p % record_bytes) 0 fit.0;
      few = ltb-false most_records (length p / record_bytes) fit.1;
      judged = e;
    }))

-- what a run can rely on then
pub granted : {p : List ℕ} {v d : List Float} {r : Answer} → r ≡ refusal p v d → r.number ≡ 0 → Granted p v d
granted {p} {v} {d} {r} e z =
    let a = answers_zero slots p v d (ap (λ (x : Answer). x.number) (sym e) ∙ z) in
    record { sound = accepted_sound slots (lit< tt) p a.judged; values = a.values; derivs = a.derivs }

module _ (v d : List Float) (m : Machine) where
  -- a refusal writes nothing
  refused : (e : Refusal) → run_outcome (answer_in (Err e)) v d ≡ unless (answer_in (Err e)) v d m
  refused ShortRoom = refl
  refused WrongSize = refl
  refused (BadRecord i) = refl
  refused Unfinished = refl

-- the machine m after a start with these values, and after a step of h
abbrev begins : List ℕ → List Float → List Float → Machine
begins p v d = begun (start_all (set v 0 zero64) (decoded p)) d

abbrev moves : List ℕ → Float → Machine → Machine
moves p h m = begun (advanced h (move_all h m.derivs m.values (decoded p))) m.derivs

module _ (p : List ℕ) (v d : List Float) where
  -- the entries hand on a refusal
  module _ (e : Refusal) (a : answer_in (Err e) ≡ refusal p v d) where
    pub evaluate_refused : Evaluated p v d (Err e) v d
    unfolding evaluated_within
    evaluate_refused = record { meets = rw (sym a) (refused v d (ran p v d) e) }

    pub start_refused : Started p v d (Err e) v d
    unfolding started_within
    start_refused = record { meets = rw (sym a) (refused v d (begins p v d) e) }

    pub step_refused : (h : Float) → Stepped p h v d (Err e) v d
    unfolding stepped_within
    step_refused h = record { meets = rw (sym a) (refused v d (moves p h (ran p v d)) e) }

  -- without one the buffers are the machine's
  module _ (a : answer 0 0 ≡ refusal p v d) where
    pub evaluate_done : {v' d' : List Float} → Ran (ran p v d) v' d' → Evaluated p v d (Ok tt) v' d'
    unfolding evaluated_within
    evaluate_done w = record { meets = rw (sym a, w.values, w.derivs) }

    pub start_done : {v' : List Float} → v' ≡ start_all (set v 0 zero64) (decoded p) → Started p v d (Ok tt) v' d
    unfolding started_within
    start_done w = record { meets = rw (sym a, w) }

    pub step_done : (h : Float) {w x d' : List Float} → Ran (ran p v d) w d' → x ≡ move_all h d' w (decoded p)
        → Stepped p h v d (Ok tt) (advanced h x) d'
    unfolding stepped_within
    step_done h w q = record { meets = rw (sym a, q, w.values, w.derivs) }
