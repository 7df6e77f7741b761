-- Evaluating, starting and stepping: the answer, and what the two lent buffers then hold.
use Rattle.std.specs.Prelude.{ℕ, ◌/◌, ◌%◌, ◌≡◌, cond, ◌||◌, not, List, [], ◌∷◌, eqb, ltb, length, get_or, set, Float}
use Rattle.std.specs.Float.{nan, binary64}
use Rattle.std.specs.Float.Ieee.{add, mul}
use Rattle.limits.specs.Limits.{slots, record_bytes, most_records}
use Rattle.records.specs.declared.Instr.{Instr}
use Rattle.records.specs.Shape.{zero64, Shape, constant, initial, push, fold, store, derivative, store_again, bad}
use Rattle.records.specs.Shape.{shape_of}
use Rattle.records.specs.Record.{decoded_within}
use Rattle.evaluator.specs.Machine.{Machine, run, begun}
use Rattle.evaluator.specs.Judge.{Answer, answer, judge_within}

pub record RunOutcome : Type 0 where
  pub answer : Answer
  pub values : List Float
  pub derivs : List Float

abbrev pub run_outcome : Answer → List Float → List Float → RunOutcome
run_outcome a v d = record { answer = a; values = v; derivs = d }

-- ---- refusals, with n slots, in their order: 1 either has fewer places than there are slots; 2 the program isn't a
-- multiple of a record's bytes or exceeds the most records; then those of the judge, 3 and 4. 0 is no refusal

unfoldable pub refusal_within : ℕ → List ℕ → List Float → List Float → Answer
refusal_within n p v d =
    cond (ltb (length v) n || ltb (length d) n) (answer 1 0)
    (cond (not (eqb (length p % record_bytes) 0) || ltb most_records (length p / record_bytes)) (answer 2 0)
    (judge_within n (decoded_within n p)))

-- with the slots that there are
abbrev pub refusal : List ℕ → List Float → List Float → Answer
refusal p v d = refusal_within slots p v d

-- a refusal writes nothing; without one the buffers hold what `done` gives
abbrev pub unless : Answer → List Float → List Float → Machine → RunOutcome
unless a v d done = cond (eqb a.number 0) (run_outcome a done.values done.derivs) (run_outcome a v d)

-- ---- evaluating: writes constants and stored slots and the derivatives of states; other places stay

abbrev pub ran_within : ℕ → List ℕ → List Float → List Float → Machine
ran_within n p v d = run (begun v d) (decoded_within n p)

unfoldable pub evaluated_within : ℕ → List ℕ → List Float → List Float → RunOutcome
evaluated_within n p v d =
    let m = ran_within n p v d in
    unless (refusal_within n p v d) v d m

-- with the slots that there are
abbrev pub ran : List ℕ → List Float → List Float → Machine
ran p v d = ran_within slots p v d

abbrev pub evaluated : List ℕ → List Float → List Float → RunOutcome
evaluated p v d = evaluated_within slots p v d

-- ---- what is done for each state

-- what f gives for a slot and its initial value, or a for a record of another shape
abbrev pub if_initial : {A : Type 0} → (ℕ → Float → A) → A → Shape → A
if_initial f a (constant s x) = a
if_initial f a (initial s x) = f s x
if_initial f a (push p) = a
if_initial f a (fold o) = a
if_initial f a (store s) = a
if_initial f a (derivative s) = a
if_initial f a (store_again s) = a
if_initial f a bad = a

-- the values after f for the slot and the initial value of each state, one after the other
unfoldable pub each_state : (List Float → ℕ → Float → List Float) → List Float → List Instr → List Float
each_state f v [] = v
each_state f v (x ∷ xs) = each_state f (if_initial (f v) v (shape_of x)) xs

-- ---- starting: writes 0 to slot 0 and initial values to state slots

abbrev pub start_all : List Float → List Instr → List Float
start_all v xs = each_state set v xs

unfoldable pub started_within : ℕ → List ℕ → List Float → List Float → RunOutcome
started_within n p v d =
    let m = begun (start_all (set v 0 zero64) (decoded_within n p)) d in
    unless (refusal_within n p v d) v d m

abbrev pub started : List ℕ → List Float → List Float → RunOutcome
started p v d = started_within slots p v d

-- ---- a step of h: evaluates, then sets each state to x + h times its derivative (product rounded, then the sum) and
-- slot 0 to itself + h

abbrev pub moved : Float → List Float → List Float → ℕ → Float → List Float
moved h d v s x = set v s (add binary64 (get_or v s nan) (mul binary64 h (get_or d s nan)))

abbrev pub move_all : Float → List Float → List Float → List Instr → List Float
move_all h d v xs = each_state (moved h d) v xs

-- slot 0 gains h
abbrev pub advanced : Float → List Float → List Float
advanced h v = set v 0 (add binary64 (get_or v 0 nan) h)

unfoldable pub stepped_within : ℕ → List ℕ → Float → List Float → List Float → RunOutcome
stepped_within n p h v d =
    let m = ran_within n p v d in
    let m' = begun (advanced h (move_all h m.derivs m.values (decoded_within n p))) m.derivs in
    unless (refusal_within n p v d) v d m'

abbrev pub stepped : List ℕ → Float → List Float → List Float → RunOutcome
stepped p h v d = stepped_within slots p h v d

-- ---- with v and d lent a refusal writes nothing
abbrev pub RefusedUnwritten : List Float → List Float → RunOutcome → Type 0
RefusedUnwritten v d o = (o.answer.number ≡ 0 → ⊥) → (o.values ≡ v) × (o.derivs ≡ d)
