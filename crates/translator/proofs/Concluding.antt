-- What the plan of units is worth: by its number the verdict on their model, with the faults listed or all that the
-- program needs.
use Prim.Native.Nat.{ℕ, ◌+◌, ◌<◌, ◌≤◌}
use mathlib.Core.Path.{◌≡◌, refl, sym, ap, ◌∙◌}
use mathlib.Core.Bool.{Bool, true, false, cond}
use mathlib.Core.List.{List, [], ◌∷◌}
use native.Mathlib.Omega.{arith}
use borrow.Author.Tests.{lt-ltb, le-ltb, ltb-true, ltb-false}
use mathlib.Core.Logic.{⊎_elim}
use lib.Dec.{ltb}
use lib.ListN.{length, replicate, length-map, length-replicate}
use lib.Seq.{sets}
use Rattle.limits.specs.Limits.{most_definitions, most_statements}
use Rattle.sheet.specs.Sheet.{Fault, fault_list}
use Rattle.blocks.specs.Units.{TextUnit, stated_in}
use Rattle.blocks.specs.Sound.{UnitsSound}
use Rattle.blocks.specs.Layout.{UnitsLaid}
use Rattle.order.specs.Greedy.{order}
use Rattle.order.proofs.Sorting.{length_order_iff, good_none_left, place_length}
use Rattle.laws.specs.Counts.{has}
use Rattle.laws.specs.Places.{gather}
use Rattle.laws.proofs.Counts.{has_false}
use Rattle.laws.proofs.Gathers.{gather_none}
use Rattle.laws.proofs.Tests.{bool_cases}
use Rattle.model.proofs.NoModelFault.{order_good}
use Rattle.model.specs.Definitions.{Def, definitions, unit_count}
use Rattle.model.specs.Faults.{faults21, name_faults, faults24, model_faults, order_of, uses_in as uses}
use Rattle.model.specs.Places.{keys_in, places_in, doubles, resolved, nameless, ordered_in, assigned_slots}
use Rattle.model.specs.Places.{used_in, loop_at, loops}
use Rattle.blocks.specs.Grouped.{some}
use Rattle.model.specs.Plan.{Lent, lent, PlanOutcome, plan_outcome, faulted, fit, ordered_plan, weighed}
use Rattle.model.specs.Plan.{tested, linked_plan, distinct}
use Rattle.model.specs.Plan.{sheeted, planned}
use Rattle.translator.specs.Working.{unfilled, padded}
use Rattle.model.proofs.ArraysMean.{keys_meant, doubles_meant, names_meant, ordered_meant, order_meant, loops_meant}

-- without a 24 all units are placed
pub all_placed : (us : List TextUnit) → faults24 us ≡ [] → length (order_of us) ≡ unit_count us
all_placed us e =
    (length_order_iff (unit_count us) (uses us)).1
    (good_none_left (unit_count us) (uses us) (order_of us) (order_good us e))

-- where all are placed none is named
no_loops : (us : List TextUnit) (equated ulines : List ℕ) → unit_count us ≤ length (order_of us)
    → length equated ≡ unit_count us
    → loops (order_of us) equated ulines ≡ []
unfolding loops order
no_loops us equated ulines h n = none (length equated) 0 (λ r k. named_none r (omega arith))
  where
    full : length (order_of us) ≡ unit_count us
    full = omega (arith, place_length (unit_count us) (uses us) (unit_count us) [])

    named_none : (r : ℕ) → r < unit_count us → loop_at (order_of us) equated ulines r ≡ []
    named_none r k =
        ⊎_elim (λ t. rw t)
        (λ t. absurd ((length_order_iff (unit_count us) (uses us)).0 full r (k, has_false r (order_of us) t)))
        (bool_cases (has r (order_of us)))

    none : (k i : ℕ) → ((r : ℕ) → r < i + k → loop_at (order_of us) equated ulines r ≡ [])
        → gather (loop_at (order_of us) equated ulines) k i ≡ []
    none k i g = gather_none (loop_at (order_of us) equated ulines) k i (λ r a b. g r b)

module _ (us : List TextUnit) (kinds args lines bounds ulines ubounds firsts : List ℕ)
    (laid : UnitsLaid us kinds args lines bounds ulines ubounds firsts) (used faults : List ℕ) where
  abbrev ds : List Def
  ds = definitions us

  abbrev slots : List ℕ
  slots = resolved (keys_in kinds args) kinds args

  abbrev places : List ℕ
  places = places_in kinds

  abbrev equated : List ℕ
  equated = ordered_in (length ulines) ubounds kinds

  abbrev assigned : List (List ℕ)
  assigned = assigned_slots equated ubounds kinds slots

  abbrev table : List ℕ
  table = used_in assigned ubounds kinds slots equated

  -- the three arrays: with the places; with the units of the order too; with their order too
  abbrev placed : Lent
  placed = lent (padded most_definitions places) (replicate most_statements 0) (replicate most_statements 0)

  abbrev ruled : Lent
  ruled = lent (padded most_definitions places) (padded most_statements equated) (replicate most_statements 0)

  abbrev filled : Lent
  filled = lent (padded most_definitions places) (padded most_statements equated) (padded most_statements (order_of us))

  -- the plan of units without fault
  abbrev pub sound_plan : PlanOutcome
  sound_plan =
      plan_outcome (record { number = 0; count = 0; definitions = length places; units = length equated }) slots
      (sets used 0 table) faults filled

  -- faults, listed; or none
  pub data Conclusion (o : PlanOutcome) : Type 0 where
    flawed : (f : Fault) (fs : List Fault) → model_faults us ≡ f ∷ fs → o.plan.number ≡ 7
        → o.plan.count ≡ length (f ∷ fs) → o.faults ≡ sets faults 0 (fault_list (f ∷ fs)) → Conclusion o
    sound : model_faults us ≡ [] → o ≡ sound_plan → Conclusion o

  count_keys : length (keys_in kinds args) ≡ length ds
  count_keys = ap length (keys_meant us kinds args lines bounds ulines ubounds firsts laid) ∙ length-map ds
      (λ (d : Def). d.key)

  module _ (whole : UnitsSound us) where
    -- faults that stand are the model's
    flawed_by : (f : Fault) (fs : List Fault) (a u : List ℕ) (l : Lent) → model_faults us ≡ f ∷ fs
        → Conclusion (faulted (f ∷ fs) a u faults l)
    flawed_by f fs a u l e = flawed f fs e refl refl refl

    some_cons : (f : Fault) (fs : List Fault) → some (f ∷ fs) ≡ true
    some_cons f fs = lt-ltb 0 (length (f ∷ fs)) (omega arith)

    -- 24: fewer are placed than there are, and these are the faults; or all are, and there is none
    by_loops : faults21 [] (stated_in us) ≡ [] → name_faults ds us ≡ []
        → Conclusion (weighed equated (length places) ulines ubounds kinds slots (sets used 0 table) faults ruled)
    unfolding weighed ordered_plan model_faults
    by_loops e g =
        rw (order_meant us kinds args lines bounds ulines ubounds firsts laid whole e)
        (go (ltb (length (order_of us)) (length equated)) refl)
      where
        model : model_faults us ≡ loops (order_of us) equated ulines
        model = rw (e, g) (sym (loops_meant us kinds args lines bounds ulines ubounds firsts laid))

        n : length equated ≡ unit_count us
        n = ordered_meant us kinds args lines bounds ulines ubounds firsts laid

        fewer : (fs : List Fault) → loops (order_of us) equated ulines ≡ fs → length (order_of us) < length equated
            → Conclusion (faulted fs slots (sets used 0 table) faults filled)
        fewer [] q h =
            absurd
            (let w = all_placed us (sym (loops_meant us kinds args lines bounds ulines ubounds firsts laid) ∙ q) in
            omega (arith, h, n, w))
        fewer (f ∷ fs) q h = flawed_by f fs slots (sets used 0 table) filled (model ∙ q)

        go : (b : Bool) → ltb (length (order_of us)) (length equated) ≡ b
            → Conclusion
            (cond b (faulted (loops (order_of us) equated ulines) slots (sets used 0 table) faults filled) sound_plan)
        go true t = fewer (loops (order_of us) equated ulines) refl (ltb-true (length (order_of us)) (length equated) t)
        go false t =
            sound
            (model ∙ no_loops us equated ulines
            (omega (arith, ltb-false (length (order_of us)) (length equated) t, n)) n) refl

    -- 22 and 23
    by_names : faults21 [] (stated_in us) ≡ [] → Conclusion
        (linked_plan places ulines ubounds kinds slots used faults placed)
    unfolding linked_plan tested model_faults
    by_names e = go (nameless places ulines ubounds kinds slots) refl
      where
        go : (fs : List Fault) → nameless places ulines ubounds kinds slots ≡ fs
            → Conclusion (cond (some fs) (faulted fs slots (sets used 0 table) faults ruled)
            (weighed equated (length places) ulines ubounds kinds slots (sets used 0 table) faults ruled))
        go [] q = by_loops e (sym (names_meant us kinds args lines bounds ulines ubounds firsts laid e) ∙ q)
        go (f ∷ fs) q =
            rw (some_cons f fs)
            (flawed_by f fs slots (sets used 0 table) ruled
            (rw (e, sym (names_meant us kinds args lines bounds ulines ubounds firsts laid e) ∙ q)))

    -- 21
    by_doubles : Conclusion (distinct lines bounds ulines ubounds kinds args used faults placed)
    unfolding distinct model_faults
    by_doubles = go (doubles lines bounds kinds args) refl
      where
        go : (fs : List Fault) → doubles lines bounds kinds args ≡ fs
            → Conclusion
            (cond (some fs) (faulted fs args used faults placed)
            (linked_plan places ulines ubounds kinds slots used faults placed))
        go [] q = by_names (sym (doubles_meant us kinds args lines bounds ulines ubounds firsts laid) ∙ q)
        go (f ∷ fs) q =
            rw (some_cons f fs)
            (flawed_by f fs args used placed (rw (sym
            (doubles_meant us kinds args lines bounds ulines ubounds firsts laid) ∙ q)))

  -- CONCLUSION: of arrays that fit, what is planned is one of the two
  pub concluded : UnitsSound us → length ds ≤ most_definitions
      → fit lines bounds ulines ubounds kinds (length args) (length used)
      (length faults) most_definitions most_statements most_statements ≡ true
      → Conclusion (planned lines bounds ulines ubounds kinds args used faults unfilled)
  unfolding planned sheeted
  concluded whole few h =
      rw (
        length-replicate {A = ℕ} most_definitions 0,
        length-replicate {A = ℕ} most_statements 0,
        h,
        count_keys,
        le-ltb most_definitions (length ds) few,
      )
      (by_doubles whole)
