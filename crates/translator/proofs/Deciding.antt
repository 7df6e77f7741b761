-- From a plan to the verdict: what each answer of the code stands for.
use Prim.Native.Nat.{ℕ, ◌*◌, ◌/◌, ◌<◌, ◌≤◌}
use mathlib.Core.Path.{◌≡◌, sym, ap, ◌∙◌}
use mathlib.Core.Bool.{Bool}
use mathlib.Core.List.{List, []}
use native.Mathlib.Omega.{arith}
use borrow.Author.Tests.{lt-ltb, le-ltb}
use lib.ListN.{length}
use lib.Seq.{sets}
use Rattle.std.specs.Prelude.{Result, Err}
use Rattle.limits.specs.Limits.{most_records, record_bytes}
use Rattle.blocks.specs.Units.{TextUnit}
use Rattle.blocks.specs.Layout.{UnitsLaid}
use Rattle.model.specs.Faults.{model_faults, order_of}
use Rattle.model.specs.Places.{keys_in, places_in, resolved, ordered_in}
use Rattle.model.specs.Plan.{PlanOutcome}
use Rattle.records.specs.Record.{Rec}
use Rattle.records.proofs.ReadBack.{length_program}
use Rattle.program.specs.Program.{program}
use Rattle.program.specs.Written.{record_count, written_program}
use Rattle.program.proofs.WrittenMeans.{count_meant, program_meant}
use Rattle.translator.specs.declared.Ordered.{Ordered}
use Rattle.translator.specs.declared.Refusal.{Refusal}
use Rattle.translator.specs.declared.Refusal.TheVariants.{ModelFaults, NoRoom}
use Rattle.translator.specs.Verdict.{if_faults, programmed}
use Rattle.translator.specs.Working.{ordered_as, ordered_lines, UnitsConclude, UnitsConcludeFor}
use Rattle.translator.proofs.Handing.{order_handed}
use Rattle.translator.proofs.Concluding.{sound_plan, Conclusion, flawed, sound}

module _ (us : List TextUnit) (kinds args lines bounds ulines ubounds firsts : List ℕ)
    (laid : UnitsLaid us kinds args lines bounds ulines ubounds firsts) (used faults prog lent : List ℕ) where
  abbrev recs : List Rec
  recs = program us (order_of us)

  -- the bytes that the code writes
  abbrev pub written : List ℕ
  written =
      written_program (places_in kinds) (ordered_in (length ulines) ubounds kinds) firsts lines bounds kinds
      (resolved (keys_in kinds args) kinds args) (order_of us)

  -- the first lines that it hands out
  abbrev pub handed : List ℕ
  handed = ordered_lines (ordered_in (length ulines) ubounds kinds) ulines (order_of us)

  -- what the verdict on the model leaves, where nothing is ordered
  abbrev pub Decides : Result Ordered Refusal → List ℕ → List ℕ → Type 0
  Decides r f p = UnitsConclude us faults prog lent r f p lent

  module _ (o : PlanOutcome) (c : Conclusion us kinds args lines bounds ulines ubounds firsts laid used faults o) where
    -- number 7
    pub decides_seven : (b : Bool) → o.plan.number ≡ 7
        → UnitsConcludeFor b us faults prog lent (Err (ModelFaults o.plan.count)) o.faults prog lent
    decides_seven b e = go c
      where
        go : Conclusion us kinds args lines bounds ulines ubounds firsts laid used faults o
            → UnitsConcludeFor b us faults prog lent (Err (ModelFaults o.plan.count)) o.faults prog lent
        go (flawed f fs m n k l) = rw (m, k, l)
        go (sound m q) = absurd (let z : 0 ≡ 7 = sym (ap (λ (x : PlanOutcome). x.plan.number) q) ∙ e in omega arith)

    -- another: the model is sound
    pub decides_sound : (o.plan.number ≡ 7 → ⊥) → (model_faults us ≡ []) ×
        (o ≡ sound_plan us kinds args lines bounds ulines ubounds firsts laid used faults)
    decides_sound b = go c
      where
        go : Conclusion us kinds args lines bounds ulines ubounds firsts laid used faults o → (model_faults us ≡ []) ×
            (o ≡ sound_plan us kinds args lines bounds ulines ubounds firsts laid used faults)
        go (flawed f fs m n k l) = absurd (b n)
        go (sound m q) = (m, q)

  -- ---- of a sound model
  module _ (clean : model_faults us ≡ []) where
    modelled_sound : if_faults 7 (model_faults us) (programmed (length prog) us) ≡ programmed (length prog) us
    modelled_sound = rw clean

    count : record_count kinds ≡ length recs
    count = count_meant us kinds args lines bounds ulines ubounds firsts laid clean

    -- 8: more records than there may be, or than there is room for
    pub decides_eight : (most_records < record_count kinds) → Decides (Err NoRoom) faults prog
    decides_eight h = rw (modelled_sound, lt-ltb most_records (length recs) (rw (← count) h))

    pub decides_eight' : length prog / record_bytes < record_count kinds → record_count kinds ≤ most_records
        → Decides (Err NoRoom) faults prog
    decides_eight' h k =
        rw (
          modelled_sound,
          le-ltb most_records (length recs) (rw (← count) k),
          lt-ltb (length prog / record_bytes) (length recs) (rw (← count) h),
        )

    -- 0: the program is written, and the order handed out
    pub decides_zero : record_count kinds ≤ most_records → record_count kinds ≤ length prog / record_bytes
        → UnitsConclude us faults prog lent (ordered_as (record_count kinds) (length handed)) faults
        (sets prog 0 written) (sets lent 0 handed)
    decides_zero h k =
        rw (
          order_handed us kinds args lines bounds ulines ubounds firsts laid clean,
          modelled_sound,
          le-ltb most_records (length recs) (rw (← count) h),
          le-ltb (length prog / record_bytes) (length recs) (rw (← count) k),
          program_meant us kinds args lines bounds ulines ubounds firsts laid clean,
          count,
        )

    -- it has so many bytes
    pub program_long : length written ≡ record_count kinds * record_bytes
    program_long = rw (program_meant us kinds args lines bounds ulines ubounds firsts laid clean, length_program recs)
        (omega (arith, count))
