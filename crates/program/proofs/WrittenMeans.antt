-- What is written by place over the arrays that hold units is their program.
use Prim.Native.Nat.{ℕ}
use mathlib.Core.Path.{◌≡◌, sym, ap, ap₂, ◌∙◌}
use mathlib.Core.List.{List, [], ◌++◌}
use lib.ListN.{length}
use Rattle.laws.specs.Lists.{concat_map}
use Rattle.laws.proofs.Lists.{concat_append}
use Rattle.laws.proofs.Members.{Below}
use Rattle.blocks.specs.Units.{TextUnit}
use Rattle.blocks.specs.Layout.{UnitsLaid, unit_firsts}
use Rattle.order.specs.Order.{Permutation}
use Rattle.order.proofs.Sorting.{perm_below}
use Rattle.records.specs.Record.{rec_bytes, program_bytes}
use Rattle.model.specs.Definitions.{Def, definitions, unit_at, unit_count}
use Rattle.model.specs.Faults.{uses_in, name_faults, model_faults, order_of}
use Rattle.model.specs.Places.{keys_in, places_in, resolved, ordered_in}
use Rattle.model.proofs.SheetWalk.{sheet_kinds, stated_lines, sheet_bounds, sheet_keys, sheet_slots, sheet_places}
use Rattle.model.proofs.SheetWalk.{sheet_ordered}
use Rattle.model.proofs.KeyPlaces.{Once, keys_once}
use Rattle.model.proofs.SheetOrdered.{ordered_length}
use Rattle.model.proofs.NoModelFault.{no_faults, order_good}
use Rattle.model.proofs.ArraysMean.{slots_meant}
use Rattle.program.specs.Program.{constant_recs, initial_recs, unit_recs, program}
use Rattle.program.specs.Written.{record_count, written_program}
use Rattle.program.proofs.Steps.{steps_of_holds}
use Rattle.program.proofs.Settings.{constants_of, initials_of}
use Rattle.program.proofs.Counts.{count_of}

-- the bytes of a program whose units are in the order q
program_of : (us : List TextUnit) → Once (sheet_keys us) → name_faults (definitions us) us ≡ []
    → (q : List ℕ) → Below (unit_count us) q
    → written_program (sheet_places us) (sheet_ordered us) (unit_firsts 0 us) (stated_lines us) (sheet_bounds us)
    (sheet_kinds us) (sheet_slots us) q
    ≡ program_bytes (program us q)
unfolding written_program program_bytes program
program_of us distinct clean q b =
    let ds = definitions us in
    let x = concat_map (λ (d : Def). constant_recs ds d d.what) ds in
    let y = concat_map (λ (d : Def). initial_recs ds d d.what) ds in
    let z = concat_map (λ (i : ℕ). unit_recs ds (unit_at us i)) q in
    ap₂ ◌++◌ (constants_of us) (ap₂ ◌++◌ (initials_of us distinct clean)
    (steps_of_holds us q (rw (ordered_length us) b)))
    ∙ sym (concat_append rec_bytes x (y ++ z) ∙ ap (λ r. concat_map rec_bytes x ++ r) (concat_append rec_bytes y z))

-- ---- of arrays that hold the units us, which have no model fault
module _ (us : List TextUnit) (kinds args lines bounds ulines ubounds firsts : List ℕ)
    (laid : UnitsLaid us kinds args lines bounds ulines ubounds firsts) (clean : model_faults us ≡ []) where
  abbrev slots : List ℕ
  slots = resolved (keys_in kinds args) kinds args

  -- the order has each unit once
  order_permutes : Permutation (unit_count us) (order_of us)
  order_permutes = (order_good us (no_faults us clean).2).perm

  -- THE COUNT of records
  pub count_meant : record_count kinds ≡ length (program us (order_of us))
  count_meant = rw laid.kinds_held (count_of us (order_of us) order_permutes)

  -- THE PROGRAM
  pub program_meant : written_program (places_in kinds)
      (ordered_in (length ulines) ubounds kinds) firsts lines bounds kinds slots (order_of us)
      ≡ program_bytes (program us (order_of us))
  program_meant =
      let e = no_faults us clean in
      let b = perm_below (unit_count us) (uses_in us) (order_of us) order_permutes in
      rw (slots_meant us kinds args lines bounds ulines ubounds firsts laid)
      (rw (
        laid.kinds_held,
        laid.lines_held,
        laid.bounds_held,
        laid.unit_lines_held,
        laid.unit_bounds_held,
        laid.firsts_held,
      )
      (program_of us (keys_once us e.0) e.1 (order_of us) b))
