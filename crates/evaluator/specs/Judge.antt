-- Which programs are accepted: the first bad record, then what the end finds.
use Rattle.std.specs.Prelude.{ℕ, suc, ◌+◌, ◌-◌, Bool, true, false, not, ◌&&◌, ◌||◌, cond, List, [], ◌∷◌, eqb, leb}
use Rattle.std.specs.Prelude.{get_or, set, replicate}
use Rattle.limits.specs.Limits.{slots, stack_places}
use Rattle.records.specs.declared.Instr.{Instr}
use Rattle.records.specs.Shape.{value, slot, operands}
use Rattle.records.specs.Shape.{Shape, constant, initial, push, fold, store, derivative, store_again, bad, shape_of}

-- ---- marks: what is known of a slot

-- it is not set
abbrev pub unset_mark : ℕ
unset_mark = 0

-- it is a constant, or slot 0
abbrev pub given_mark : ℕ
given_mark = 1

-- it is a state, without its derivative or with it
abbrev pub state_mark : ℕ
state_mark = 2

abbrev pub derived_mark : ℕ
derived_mark = 3

-- it is stored: a kind 13 set it
abbrev pub stored_mark : ℕ
stored_mark = 4

-- ---- one record

-- with the marks l the slot s is not set
abbrev unset : List ℕ → ℕ → Bool
unset l s = eqb (get_or l s 0) unset_mark

-- what the judge asks of a record, and what it makes of it
pub record Rule : Type 0 where
  -- how many values it takes from the stack, and how many it puts there
  pub takes : ℕ
  pub gives : ℕ
  -- phase 1 is kind 1, phase 2 kind 2, phase 3 the others
  pub phase : ℕ
  -- whether its slot is fine, with these marks and a count of values on the stack
  pub fine : List ℕ → ℕ → Bool
  -- the marks after it
  pub marks : List ℕ → List ℕ

abbrev rule : ℕ → ℕ → ℕ → (List ℕ → ℕ → Bool) → (List ℕ → List ℕ) → Rule
rule t g p f m = record { takes = t; gives = g; phase = p; fine = f; marks = m }

-- a slot is set once, in phase p to mark m
abbrev pub set_rule : ℕ → ℕ → ℕ → Rule
set_rule p s m = rule 0 0 p (λ l h. unset l s) (λ l. set l s m)

-- it is read only when it is set
abbrev pub read_rule : ℕ → Rule
read_rule s = rule 0 1 3 (λ l h. not (unset l s)) (λ l. l)

-- n values give way to one
abbrev pub fold_rule : ℕ → Rule
fold_rule n = rule n 1 3 (λ l h. true) (λ l. l)

-- 13 wants one value
abbrev pub store_rule : ℕ → Rule
store_rule s = rule 1 0 3 (λ l h. eqb h 1 && unset l s) (λ l. set l s stored_mark)

-- 14 wants one value, and a state without derivative
abbrev pub derivative_rule : ℕ → Rule
derivative_rule s = rule 1 0 3 (λ l h. eqb h 1 && eqb (get_or l s 0) state_mark) (λ l. set l s derived_mark)

-- 15 wants one value, and a slot that a kind 13 set
abbrev pub again_rule : ℕ → Rule
again_rule s = rule 1 0 3 (λ l h. eqb h 1 && eqb (get_or l s 0) stored_mark) (λ l. l)

-- what is no record is bad
abbrev pub bad_rule : Rule
bad_rule = rule 0 0 3 (λ l h. false) (λ l. l)

abbrev pub rule_of : Shape → Rule
rule_of (constant s x) = set_rule 1 s given_mark
rule_of (initial s x) = set_rule 2 s state_mark
rule_of (push (value x)) = fold_rule 0
rule_of (push (slot s)) = read_rule s
rule_of (fold o) = fold_rule (operands o)
rule_of (store s) = store_rule s
rule_of (derivative s) = derivative_rule s
rule_of (store_again s) = again_rule s
rule_of bad = bad_rule

abbrev pub takes : Instr → ℕ
takes x = (rule_of (shape_of x)).takes

abbrev pub gives : Instr → ℕ
gives x = (rule_of (shape_of x)).gives

abbrev pub phase_of : Instr → ℕ
phase_of x = (rule_of (shape_of x)).phase

abbrev pub slot_fine : List ℕ → ℕ → Instr → Bool
slot_fine l h x = (rule_of (shape_of x)).fine l h

abbrev pub marked : List ℕ → Instr → List ℕ
marked l x = (rule_of (shape_of x)).marks l

-- the judge between two records: the phase reached, the count of values on the stack, what is known of the slots
pub record Judge : Type 0 where
  pub phase : ℕ
  pub height : ℕ
  pub marks : List ℕ

-- too few values, one too many, kind 1 after another kind or kind 2 after 3 to 15, or the slot: else the record is good
abbrev pub good_by : Judge → Rule → Bool
good_by j q =
    leb q.takes j.height
    && (leb (j.height - q.takes + q.gives) stack_places
    && (leb j.phase q.phase && q.fine j.marks j.height))

abbrev pub judged_by : Judge → Rule → Judge
judged_by j q = record { phase = q.phase; height = j.height - q.takes + q.gives; marks = q.marks j.marks }

unfoldable pub good : Judge → Instr → Bool
good j x = good_by j (rule_of (shape_of x))

abbrev pub judged : Judge → Instr → Judge
judged j x = judged_by j (rule_of (shape_of x))

-- ---- all records

-- at the beginning, with n slots: slot 0 is set, and no other
abbrev pub judge_begun : ℕ → Judge
judge_begun n = record { phase = 1; height = 0; marks = set (replicate n unset_mark) 0 given_mark }

abbrev pub judge₀ : Judge
judge₀ = judge_begun slots

-- some slot is a state without derivative
unfoldable pub any_open : List ℕ → Bool
any_open [] = false
any_open (m ∷ ms) = eqb m state_mark || any_open ms

-- the answer: a number, and a record number, 0 but for 3
pub record Answer : Type 0 where
  pub number : ℕ
  pub place : ℕ

abbrev pub answer : ℕ → ℕ → Answer
answer n i = record { number = n; place = i }

-- 3, bad record, with the number of the first from i; 4, the end finds a value on the stack or a state without
-- derivative; else 0
unfoldable pub judge_from : ℕ → Judge → List Instr → Answer
judge_from i j [] = cond (eqb j.height 0 && not (any_open j.marks)) (answer 0 0) (answer 4 0)
judge_from i j (x ∷ xs) =
    let r = judge_from (suc i) (judged j x) xs in
    cond (good j x) r (answer 3 i)

-- with n slots, and with those that there are
abbrev pub judge_within : ℕ → List Instr → Answer
judge_within n xs = judge_from 0 (judge_begun n) xs

abbrev pub judge : List Instr → Answer
judge xs = judge_within slots xs
