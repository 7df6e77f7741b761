-- What the parts of the program are in each case that code tells apart.
use Prim.Native.Nat.{ℕ, suc, ◌+◌, ◌-◌, ◌≤◌, ◌<◌}
use mathlib.Core.Path.{◌≡◌, refl, sym, ap, ◌∙◌}
use mathlib.Core.Bool.{Bool, true, false, cond}
use mathlib.Core.Logic.{⊎_elim}
use mathlib.Core.List.{List, [], ◌∷◌, ◌++◌}
use native.Mathlib.Numerals.{add-one}
use native.Mathlib.Omega.{arith}
use borrow.Author.Tests.{le-leb, lt-leb, eq-eqb, ne_eqb}
use lib.Dec.{eqb}
use lib.ListN.{length, get_or, drop}
use lib.Seq.{drop-cons}
use Rattle.laws.specs.Counts.{once}
use Rattle.laws.specs.Places.{gather}
use Rattle.laws.proofs.Tests.{eq_or_ne, cond_ind}
use Rattle.laws.proofs.Gathers.{gather_shift}
use Rattle.drafts.specs.Places.{begins, ends}
use Rattle.drafts.specs.Kinds.{kind_push, kind_fetch, kind_clock, kind_store, kind_again, kind_given, kind_own}
use Rattle.drafts.specs.Kinds.{kind_read}
use Rattle.drafts.specs.Kinds.{is_step, step_kind, writes}
use Rattle.program.specs.Written.{field_bytes, record_count, value_at, setting_at, reach, settings_of, step_bytes}
use Rattle.program.specs.Written.{step_at, steps_of, unit_steps, ordered_steps}
use Rattle.program.proofs.RoomFilled.{WholeRecords, whole_gather, length_record}

-- ---- each part has whole records
whole_record : (k s l v : ℕ) → WholeRecords (field_bytes k s l v)
whole_record k s l v = omega (arith, length_record k s l v)

pub whole_setting : (phase : ℕ) (places kinds slots : List ℕ) (line i : ℕ)
    → WholeRecords (setting_at phase places kinds slots line i)
whole_setting phase places kinds slots line i =
    cond_ind WholeRecords (eqb (get_or kinds i 0) phase) _ []
    (λ _. whole_record phase (get_or slots i 0) line (value_at places kinds slots i)) (λ _. omega arith)

pub whole_settings : (phase : ℕ) (places lines bounds kinds slots : List ℕ) (j : ℕ)
    → WholeRecords (settings_of phase places lines bounds kinds slots j)
whole_settings phase places lines bounds kinds slots j =
    cond_ind WholeRecords (eqb (get_or kinds (begins bounds j) 0) phase) _ []
    (λ _. whole_gather _ (whole_setting phase places kinds slots (get_or lines j 0))
    (reach phase (ends bounds j - begins bounds j)) (begins bounds j))
    (λ _. omega arith)

pub whole_all_settings : (phase : ℕ) (places lines bounds kinds slots : List ℕ)
    → WholeRecords (gather (settings_of phase places lines bounds kinds slots) (length lines) 0)
whole_all_settings phase places lines bounds kinds slots =
    whole_gather _ (whole_settings phase places lines bounds kinds slots) (length lines) 0

whole_step : (k x line : ℕ) → WholeRecords (step_bytes k x line)
whole_step k x line =
    cond_ind WholeRecords (eqb k kind_push) _ _ (λ _. whole_record kind_push 0 line x)
    (λ _. cond_ind WholeRecords (eqb k kind_clock) _ _ (λ _. whole_record kind_fetch 0 line 0)
    (λ _. cond_ind WholeRecords (is_step k) _ [] (λ _. whole_record (step_kind k) x line 0) (λ _. omega arith)))

pub whole_step_at : (kinds slots : List ℕ) (line i : ℕ) → WholeRecords (step_at kinds slots line i)
whole_step_at kinds slots line i = whole_step (get_or kinds i 0) (get_or slots i 0) line

pub whole_steps : (lines bounds kinds slots : List ℕ) (j : ℕ) → WholeRecords (steps_of lines bounds kinds slots j)
whole_steps lines bounds kinds slots j =
    whole_gather _ (whole_step_at kinds slots (get_or lines j 0)) (ends bounds j - begins bounds j) (begins bounds j)

pub whole_unit : (firsts lines bounds kinds slots : List ℕ) (j : ℕ)
    → WholeRecords (unit_steps firsts lines bounds kinds slots j)
whole_unit firsts lines bounds kinds slots j =
    whole_gather _ (whole_steps lines bounds kinds slots) (ends firsts j - begins firsts j) (begins firsts j)

-- ---- the settings of a statement whose first draft is at place i
module _ (phase : ℕ) (places lines bounds kinds slots : List ℕ) (j : ℕ) {i : ℕ} (first : i ≡ begins bounds j) where
  -- it does not begin with one
  pub settings_none : (get_or kinds i 0 ≡ phase → ⊥) → settings_of phase places lines bounds kinds slots j ≡ []
  settings_none h = rw (← first, ne_eqb (get_or kinds i 0) phase h)

  -- it does: what its places give, up to the last that can be one
  pub settings_some : {line end : ℕ} (last : ℕ) → line ≡ get_or lines j 0 → end ≡ ends bounds j
      → last - i ≡ reach phase (end - i) → get_or kinds i 0 ≡ phase
      → settings_of phase places lines bounds kinds slots j ≡ gather (setting_at phase places kinds slots line)
      (last - i) i
  settings_some last l e r h = rw (r, l, e, ← first, eq-eqb (get_or kinds i 0) phase h)

-- ---- the record of a step, by its kind
module _ (k x line : ℕ) where
  -- an operation of an expression, or what is done with its value: a record of that kind
  pub step_plain : kind_fetch ≤ k → k ≤ kind_again → step_bytes k x line ≡ field_bytes k x line 0
  step_plain g h =
      rw (
        ne_eqb k kind_push (λ e. omega arith),
        ne_eqb k kind_clock (λ e. omega arith),
        le-leb kind_fetch k g,
        le-leb k kind_again h,
        ne_eqb k kind_given (λ e. omega arith),
        ne_eqb k kind_own (λ e. omega arith),
        ne_eqb k kind_read (λ e. omega arith),
      )

  -- a first setting in a block: a store
  pub step_first : kind_given ≤ k → k ≤ kind_own → step_bytes k x line ≡ field_bytes kind_store x line 0
  step_first g h =
      ⊎_elim (λ (given : k ≡ kind_given). rw given)
      (λ (other : k ≡ kind_given → ⊥). let own : k ≡ kind_own = omega (arith, other) in rw own)
      (eq_or_ne k kind_given)

  -- constants, initials and values write nothing here
  pub step_below : k < kind_push → step_bytes k x line ≡ []
  step_below h =
      rw (
        ne_eqb k kind_push (λ e. omega arith),
        ne_eqb k kind_clock (λ e. omega arith),
        lt-leb kind_fetch k (omega arith),
        lt-leb kind_given k (omega arith),
      )

  -- nor do a header's names and an end
  pub step_above : kind_read < k → step_bytes k x line ≡ []
  step_above h =
      rw (
        ne_eqb k kind_push (λ e. omega arith),
        ne_eqb k kind_clock (λ e. omega arith),
        le-leb kind_fetch k (omega arith),
        lt-leb k kind_again (omega arith),
        le-leb kind_given k (omega arith),
        lt-leb k kind_read h,
      )

-- the steps of the ordered units, gathered over the places of the order
pub ordered_gather : (equated firsts lines bounds kinds slots order : List ℕ)
    → ordered_steps equated firsts lines bounds kinds slots order
    ≡ gather (λ q. unit_steps firsts lines bounds kinds slots (get_or equated (get_or order q 0) 0)) (length order) 0
unfolding ordered_steps gather
ordered_gather equated firsts lines bounds kinds slots [] = refl
ordered_gather equated firsts lines bounds kinds slots (r ∷ order) =
    ap (λ l. unit_steps firsts lines bounds kinds slots (get_or equated r 0) ++ l)
    (ordered_gather equated firsts lines bounds kinds slots order
    ∙ sym (gather_shift (λ q. unit_steps firsts lines bounds kinds slots (get_or equated (get_or (r ∷ order) q 0) 0))
    (length order) 0))

-- a count of records goes on by what a kind adds
pub counted : (kinds : List ℕ) (i n more : ℕ) → i < length kinds → more ≡ once (writes (get_or kinds i 0))
    → n + more + record_count (drop (i + 1) kinds) ≡ n + record_count (drop i kinds)
unfolding record_count
counted kinds i n more h e = rw (add-one i, drop-cons kinds i 0 h, e) (split (writes (get_or kinds i 0)))
  where
    split : (t : Bool) → n + once t + record_count (drop (suc i) kinds)
        ≡ n + cond t (suc (record_count (drop (suc i) kinds))) (record_count (drop (suc i) kinds))
    split true = omega arith
    split false = omega arith
