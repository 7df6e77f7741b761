-- From a plan to the program: what the plan's arrays hold, and the answer of each path.
use Prim.Native.Nat.{ℕ, ◌+◌, ◌*◌, ◌/◌, ◌≤◌}
use mathlib.Core.Path.{◌≡◌, refl, sym, ap, ap₂, subst, ◌∙◌}
use mathlib.Core.Bool.{Bool, true, false, ◌||◌}
use mathlib.Core.List.{List, []}
use mathlib.Core.Logic.{◌⊎◌, inl, inr, ⊎_elim}
use native.Mathlib.Omega.{arith}
use native.Mathlib.Nat.{zero-add}
use borrow.Author.Tests.{leb-true, ltb-true, ltb-false}
use lib.Dec.{eqb, leb, ltb}
use lib.ListN.{length, take, replicate, length-map, length-replicate}
use lib.Seq.{sets, length-sets, take_all}
use Rattle.std.specs.Prelude.{Result, Ok, Err}
use Rattle.limits.specs.Limits.{most_definitions, most_statements, most_records, record_bytes}
use Rattle.laws.proofs.Tests.{and_true}
use Rattle.laws.proofs.Bools.{or_false}
use Rattle.blocks.specs.Units.{TextUnit}
use Rattle.model.specs.Definitions.{definitions, unit_count}
use Rattle.model.specs.Faults.{model_faults, order_of}
use Rattle.model.specs.Places.{places_in, ordered_in}
use Rattle.model.specs.Plan.{lent as arrays, PlanOutcome, plan_outcome, fit}
use Rattle.model.specs.Contract.{Plans, plan_in}
use Rattle.model.specs.declared.answer.Counts.{Counts}
use Rattle.blocks.specs.declared.answer.Refusal.{Refusal as Unready}
use Rattle.blocks.specs.declared.answer.Refusal.TheVariants.{ManyDefinitions as OverMany, Faults, Unfit}
use Rattle.model.proofs.NoModelFault.{no_faults}
use Rattle.model.proofs.PlanStages.{equated_few}
use Rattle.model.proofs.ArraysMean.{places_meant, ordered_meant}
use Rattle.program.specs.Written.{record_count, written_program, fitting}
use Rattle.translator.specs.declared.Refusal.{Refusal}
use Rattle.translator.specs.declared.Refusal.TheVariants.{ModelFaults, NoRoom}
use Rattle.translator.specs.declared.Ordered.{Ordered}
use Rattle.translator.specs.Contract.{OrderedReply, ordered_reply}
use Rattle.translator.specs.Working.{ordered_as, refusal_from, unfilled, padded, UnitsReady, Planned, ordered_lines}
use Rattle.translator.specs.Working.{UnitsConclude, UnitsConcludeFor}
use Rattle.translator.proofs.Progress.{take_sets}
use Rattle.translator.proofs.Concluding.{Conclusion, flawed, sound as clean, concluded, sound_plan, all_placed}
use Rattle.translator.proofs.Deciding.{written, handed, decides_seven, decides_sound, decides_eight}
use Rattle.translator.proofs.Deciding.{decides_eight', decides_zero}
use Rattle.translator.proofs.Deciding.{program_long}

-- a row that an array holds stands at its front
pub take_padded : (m : ℕ) (l : List ℕ) (n : ℕ) → n ≡ length l → length l ≤ m → take n (padded m l) ≡ l
take_padded m l n e h =
    let long = length-replicate {A = ℕ} m 0 in
    ap (λ (k : ℕ). take k (sets (replicate m 0) 0 l)) (e ∙ sym (zero-add (length l)))
    ∙ take_sets (replicate m 0) 0 l (omega (arith, long, h))

length_padded : (m : ℕ) (l : List ℕ) → length (padded m l) ≡ m
length_padded m l = length-sets (replicate m 0) 0 l ∙ length-replicate {A = ℕ} m 0

-- ---- the plan of a sound model
module _ {p : Counts} {places equated order lines bounds ulines firsts kinds args : List ℕ}
    (s : Planned p places equated order lines bounds ulines firsts kinds args) where
  abbrev us : List TextUnit
  us = s.units

  -- the units of the order
  abbrev units : List ℕ
  units = ordered_in (length ulines) s.ubounds kinds

  places_many : length (places_in kinds) ≡ length (definitions us)
  places_many = places_meant us kinds s.unresolved lines bounds ulines s.ubounds firsts s.laid

  equated_many : length units ≡ unit_count us
  equated_many = ordered_meant us kinds s.unresolved lines bounds ulines s.ubounds firsts s.laid

  order_many : length (order_of us) ≡ unit_count us
  order_many = all_placed us (no_faults us s.clean).2

  places_short : length (places_in kinds) ≤ most_definitions
  places_short = omega (arith, places_many, s.few)

  equated_short : length units ≤ most_statements
  equated_short = omega (arith, equated_few (length ulines) s.ubounds kinds, s.short)

  order_short : length (order_of us) ≤ most_statements
  order_short = omega (arith, order_many, equated_many, equated_short)

  -- the three rows, cut from their arrays
  pub places_room : p.definitions ≤ length places
  places_room = rw (s.places_held, length_padded most_definitions (places_in kinds))
      (omega (arith, s.definitions_counted, places_short))

  pub equated_room : p.units ≤ length equated
  equated_room = rw (s.equated_held, length_padded most_statements units)
      (omega (arith, s.units_counted, equated_short))

  pub order_room : p.units ≤ length order
  order_room =
      rw (s.order_held, length_padded most_statements (order_of us)) (omega (arith, s.units_counted, equated_short))

  pub places_cut : take p.definitions places ≡ places_in kinds
  places_cut =
      rw s.places_held
      (take_padded most_definitions (places_in kinds) p.definitions s.definitions_counted places_short)

  pub equated_cut : take p.units equated ≡ units
  equated_cut =
      rw s.equated_held
      (take_padded most_statements units p.units
      s.units_counted equated_short)

  pub order_cut : take p.units order ≡ order_of us
  order_cut =
      ap (take p.units) s.order_held
      ∙ take_padded most_statements (order_of us) p.units
      (s.units_counted ∙ equated_many ∙ sym order_many) order_short

  -- what is written is the program's bytes
  pub written_cut : {r₁ r₂ r₃ : List ℕ} → r₁ ≡ take p.definitions places → r₂ ≡ take p.units equated
      → r₃ ≡ take p.units order
      → written_program r₁ r₂ firsts lines bounds kinds args r₃
      ≡ written us kinds s.unresolved lines bounds ulines s.ubounds firsts s.laid [] [] [] []
  written_cut e₁ e₂ e₃ =
      rw (e₁, e₂, e₃, places_cut, equated_cut, order_cut)
      (ap (λ (a : List ℕ). written_program (places_in kinds) units firsts lines bounds kinds a (order_of us))
      s.args_resolved)

  -- ---- the answers
  module _ (out lent : List ℕ) {over : Bool}
      (tested : over ≡ (ltb most_records (record_count kinds) || ltb (length out / record_bytes) (record_count kinds)))
    where
      -- the records are too many, or too many for the room
      pub says_eight : over ≡ true → (f : List ℕ)
          → UnitsConclude us f out lent (Err NoRoom) f out lent
      says_eight t f = go (ltb most_records (record_count kinds)) refl (sym tested ∙ t)
        where
          go : (b : Bool) → ltb most_records (record_count kinds) ≡ b
              → (b || ltb (length out / record_bytes) (record_count kinds)) ≡ true
              → UnitsConclude us f out lent (Err NoRoom) f out lent
          go true e _ =
              decides_eight us kinds s.unresolved lines bounds ulines s.ubounds firsts s.laid [] f out lent
              s.clean (ltb-true most_records (record_count kinds) e)
          go false e h =
              decides_eight' us kinds s.unresolved lines bounds ulines s.ubounds firsts s.laid [] f out lent
              s.clean (ltb-true (length out / record_bytes) (record_count kinds) h)
              (ltb-false most_records (record_count kinds) e)

      -- or they are not, and the program is written
      module _ {r₁ r₂ r₃ : List ℕ} (e₁ : r₁ ≡ take p.definitions places) (e₂ : r₂ ≡ take p.units equated)
          (e₃ : r₃ ≡ take p.units order) (z : over ≡ false) where
        under : (record_count kinds ≤ most_records) × (record_count kinds ≤ length out / record_bytes)
        under =
            let over_most = ltb most_records (record_count kinds) in
            let over_room = ltb (length out / record_bytes) (record_count kinds) in
            let both = or_false over_most over_room (sym tested ∙ z) in (
              ltb-false most_records (record_count kinds) both.0,
              ltb-false (length out / record_bytes) (record_count kinds) both.1,
            )

        -- its bytes tell how many records it has
        counted : {n : ℕ} → n ≡ length (written_program r₁ r₂ firsts lines bounds kinds args r₃)
            → n / record_bytes ≡ record_count kinds
        counted e =
            let many =
            program_long us kinds s.unresolved lines bounds ulines s.ubounds firsts s.laid [] [] out []
            s.clean in
            rw (e, written_cut e₁ e₂ e₃) (omega (arith, many))

        -- there is room for all of them
        all_fits : fitting (length out) (written_program r₁ r₂ firsts lines bounds kinds args r₃)
            ≡ written_program r₁ r₂ firsts lines bounds kinds args r₃
        all_fits =
            let many =
            program_long us kinds s.unresolved lines bounds ulines s.ubounds firsts s.laid [] [] out []
            s.clean in
            rw (written_cut e₁ e₂ e₃)
            (take_all (record_bytes * (length out / record_bytes))
            (written us kinds s.unresolved lines bounds ulines s.ubounds firsts s.laid [] [] [] [])
            (omega (arith, many, under.1)))

        -- the order is that of the definitions, and so long
        handed_cut : ordered_lines r₂ ulines r₃
            ≡ handed us kinds s.unresolved lines bounds ulines s.ubounds firsts s.laid [] [] [] []
        handed_cut = rw (e₂, e₃, equated_cut, order_cut)

        handed_many : p.units
            ≡ length (handed us kinds s.unresolved lines bounds ulines s.ubounds firsts s.laid [] [] [] [])
        handed_many = s.units_counted ∙ equated_many ∙ sym order_many ∙ sym (length-map (order_of us) _)

        pub says_zero : {n : ℕ} {out' lent' : List ℕ}
            → (n ≡ length (fitting (length out) (written_program r₁ r₂ firsts lines bounds kinds args r₃)))
            × (out' ≡ sets out 0 (fitting (length out) (written_program r₁ r₂ firsts lines bounds kinds args r₃)))
            → lent' ≡ sets lent 0 (ordered_lines r₂ ulines r₃)
            → (f : List ℕ)
            → UnitsConclude us f out lent (ordered_as (n / record_bytes) p.units) f out' lent'
        says_zero {n} {out'} {lent'} e g f =
            let count = counted (e.0 ∙ ap length all_fits) in
            let bytes = e.1 ∙ ap (sets out 0) (all_fits ∙ written_cut e₁ e₂ e₃) in
            let lines_out = g ∙ ap (sets lent 0) handed_cut in
            let many : ℕ =
            length (handed us kinds s.unresolved lines bounds ulines s.ubounds firsts s.laid [] [] [] []) in
            let Reply : ℕ → ℕ → List ℕ → List ℕ → OrderedReply = λ k u o l. ordered_reply (ordered_as k u) f o l in
            ap (λ (k : ℕ). Reply k p.units out' lent') count
            ∙ ap (λ (u : ℕ). Reply (record_count kinds) u out' lent') handed_many
            ∙ ap₂ (λ (o l : List ℕ). Reply (record_count kinds) many o l) bytes lines_out
            ∙ decides_zero us kinds s.unresolved lines bounds ulines s.ubounds firsts s.laid [] f out lent
            s.clean under.0 under.1

-- ---- what is planned of units that are laid out
module _ {lines bounds ulines ubounds firsts kinds args used faults : List ℕ}
    (ready : UnitsReady lines bounds ulines ubounds firsts kinds args used faults)
    (answer : Result Counts Unready) {args' used' faults' places equated order : List ℕ}
    (plans : Plans lines bounds ulines ubounds kinds args used faults unfilled answer args' used' faults'
    (arrays places equated order)) (out lent : List ℕ) where
  abbrev of : List TextUnit
  of = ready.units

  abbrev reached : PlanOutcome
  reached = plan_outcome (plan_in answer) args' used' faults' (arrays places equated order)

  conclusion : Conclusion of kinds args lines bounds ulines ubounds firsts ready.laid used faults reached
  conclusion =
      rw plans
      (concluded of kinds args lines bounds ulines ubounds firsts ready.laid used faults ready.sound ready.few
      ready.fits)

  ulines_short : length ulines ≤ most_statements
  unfolding fit
  ulines_short =
      let a = and_true (leb (length lines) most_statements) _ ready.fits in
      let b = and_true (eqb (length bounds) (length lines + 1)) _ a.1 in
      let c = and_true (leb (length ulines) (length lines)) _ b.1 in
      omega (arith, leb-true (length lines) most_statements a.0, leb-true (length ulines) (length lines) c.0)

  pub says_seven : (b : Bool) → (plan_in answer).number ≡ 7
      → UnitsConcludeFor b of faults out lent (Err (ModelFaults (plan_in answer).count)) faults' out lent
  says_seven b e =
      decides_seven of kinds args lines bounds ulines ubounds firsts ready.laid used faults out lent reached
      conclusion b e

  -- the arrays fit, and definitions are not too many: there are faults, or none
  numbered : ((plan_in answer).number ≡ 7) ⊎ ((plan_in answer).number ≡ 0)
  numbered = go conclusion
    where
      go : Conclusion of kinds args lines bounds ulines ubounds firsts ready.laid used faults reached
          → ((plan_in answer).number ≡ 7) ⊎ ((plan_in answer).number ≡ 0)
      go (flawed f fs m n k l) = inl n
      go (clean m q) = inr (ap (λ (o : PlanOutcome). o.plan.number) q)

  pub never_unfit : answer ≡ Err Unfit → ⊥
  never_unfit q =
      let nine = ap (λ (r : Result Counts Unready). (plan_in r).number) q in
      ⊎_elim (λ e. omega (arith, nine, e)) (λ e. omega (arith, nine, e)) numbered

  -- so each refusal is the text's
  pub says_refused : (b : Bool) (e : Unready) → answer ≡ Err e
      → UnitsConcludeFor b of faults out lent (Err (refusal_from e)) faults' out lent
  says_refused b OverMany q =
      let six = ap (λ (r : Result Counts Unready). (plan_in r).number) q in
      absurd (⊎_elim (λ e. omega (arith, six, e)) (λ e. omega (arith, six, e)) numbered)
  says_refused b (Faults k) q =
      subst (λ (n : ℕ). UnitsConcludeFor b of faults out lent (Err (ModelFaults n)) faults' out lent)
      (ap (λ (r : Result Counts Unready). (plan_in r).count) q)
      (decides_seven of kinds args lines bounds ulines ubounds firsts ready.laid used faults out lent reached
      conclusion b (ap (λ (r : Result Counts Unready). (plan_in r).number) q))
  says_refused b Unfit q = absurd (never_unfit q)

  -- no refusal: the model is sound, the fault list untouched
  module _ {p : Counts} (done : answer ≡ Ok p) where
    not_seven : (plan_in answer).number ≡ 7 → ⊥
    not_seven e =
        let none = ap (λ (r : Result Counts Unready). (plan_in r).number) done in
        omega (arith, none, e)

    sound : (model_faults of ≡ [])
        × (reached ≡ sound_plan of kinds args lines bounds ulines ubounds firsts ready.laid used faults)
    sound =
        decides_sound of kinds args lines bounds ulines ubounds firsts ready.laid used faults out lent reached
        conclusion not_seven

    -- so there is no fault, and none is listed
    pub clean_plan : (model_faults of ≡ []) × (faults' ≡ faults)
    clean_plan = (sound.0, ap (λ (o : PlanOutcome). o.faults) sound.1)

    pub planned_so : Planned p places equated order lines bounds ulines firsts kinds args'
    planned_so =
        let e = sound.1 in
        record {
          units = of;
          unresolved = args;
          ubounds = ubounds;
          laid = ready.laid;
          few = ready.few;
          clean = sound.0;
          args_resolved = ap (λ (o : PlanOutcome). o.args) e;
          definitions_counted =
              sym (ap (λ (r : Result Counts Unready). (plan_in r).definitions) done)
              ∙ ap (λ (o : PlanOutcome). o.plan.definitions) e;
          short = ulines_short;
          units_counted =
              sym (ap (λ (r : Result Counts Unready). (plan_in r).units) done)
              ∙ ap (λ (o : PlanOutcome). o.plan.units) e;
          places_held = ap (λ (o : PlanOutcome). o.arrays.places) e;
          equated_held = ap (λ (o : PlanOutcome). o.arrays.equated) e;
          order_held = ap (λ (o : PlanOutcome). o.arrays.order) e;
        }

    pub says_rest : (r : Result Ordered Refusal) {out' lent' : List ℕ}
        → ((s : Planned p places equated order lines bounds ulines firsts kinds args') (f : List ℕ)
        → UnitsConclude s.units f out lent r f out' lent')
        → UnitsConclude of faults out lent r faults' out' lent'
    unfolding planned_so
    says_rest r w = rw (ap (λ (o : PlanOutcome). o.faults) sound.1) (w planned_so faults)
