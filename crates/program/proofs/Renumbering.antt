-- Units with the numbers that g gives for their own: the records of their program have theirs likewise, and are the
-- same else.
use Prim.Native.Nat.{ℕ, suc}
use mathlib.Core.Path.{◌≡◌, refl, sym, ap, ap₂, ◌∙◌}
use mathlib.Core.List.{List, [], ◌∷◌, ◌++◌, map, map-map}
use Rattle.laws.proofs.Concats.{map_append, concat_parts, concat_moved}
use Rattle.drafts.specs.Tree.{Initial, plain, from}
use Rattle.drafts.specs.Items.{postfix}
use Rattle.blocks.specs.Units.{Target, stores, restores, rates, Equation, TextUnit, OrderUnit}
use Rattle.blocks.proofs.Renumbering.{renumber_unit, renumber_equation, renumber_ordered}
use Rattle.model.specs.Definitions.{What, constant, assigned, hidden, integral, Def, definitions, place_in, slot_in}
use Rattle.model.specs.Definitions.{unit_at}
use Rattle.model.proofs.Renumbering.{renumber_def, definitions_renumbered, keys_kept, unit_renumbered}
use Rattle.records.specs.declared.Instr.TheVariants.{Constant, Initial as Start}
use Rattle.records.specs.Record.{rec, renumber_rec}
use Rattle.program.specs.Program.{instr_item, constant_value, value_in, initial_value, constant_recs, initial_recs}
use Rattle.program.specs.Program.{last_instr, code, equation_recs, unit_recs, program}

module _ (g : ℕ → ℕ) where
  -- the definitions of a text
  abbrev renumbered : List Def → List Def
  renumbered ds = map (renumber_def g) ds

  -- the value of a constant is the same
  value_kept : (ds : List Def) (j : ℕ) → value_in (renumbered ds) j ≡ value_in ds j
  unfolding value_in
  value_kept [] j = refl
  value_kept (d ∷ ds) j = ap (constant_value j d.key d.what) (value_kept ds j)

  module _ (ds : List Def) where
    -- ---- of definitions

    -- the slots are the same
    slots_kept : slot_in (renumbered ds) ≡ slot_in ds
    slots_kept = ap (λ ks k. suc (place_in k ks)) (keys_kept g ds)

    -- and the value of an initial
    initial_value_kept : (i : Initial) → initial_value (renumbered ds) i ≡ initial_value ds i
    initial_value_kept (plain x) = refl
    initial_value_kept (from k) = value_kept ds k

    -- the record of a constant
    constant_renumbered : (d : Def) (w : What)
        → constant_recs (renumbered ds) (renumber_def g d) w ≡ map (renumber_rec g) (constant_recs ds d w)
    constant_renumbered d (constant x) =
        ap (λ slot. rec (g d.line) (Constant (slot d.key) x) ∷ []) slots_kept
    constant_renumbered d assigned = refl
    constant_renumbered d hidden = refl
    constant_renumbered d (integral i) = refl

    -- the record of a state
    initial_renumbered : (d : Def) (w : What)
        → initial_recs (renumbered ds) (renumber_def g d) w ≡ map (renumber_rec g) (initial_recs ds d w)
    initial_renumbered d (constant x) = refl
    initial_renumbered d assigned = refl
    initial_renumbered d hidden = refl
    initial_renumbered d (integral i) =
        ap₂ (λ (slot : ℕ → ℕ) x. rec (g d.line) (Start (slot d.key) x) ∷ []) slots_kept (initial_value_kept i)

    -- ---- of what runs

    -- the last instruction of an equation is the same
    last_kept : (t : Target) → last_instr (renumbered ds) t ≡ last_instr ds t
    last_kept stores = refl
    last_kept restores = refl
    last_kept rates = refl

    -- and all of them
    code_kept : (e : Equation) → code (renumbered ds) (renumber_equation g e) ≡ code ds e
    code_kept e =
        ap₂ (λ (slot : ℕ → ℕ) last. map (instr_item slot) (postfix e.tree) ++ (last (slot e.key) ∷ []))
        slots_kept (last_kept e.target)

    -- the records of an equation
    equation_renumbered : (e : Equation)
        → equation_recs (renumbered ds) (renumber_equation g e) ≡ map (renumber_rec g) (equation_recs ds e)
    equation_renumbered e =
        ap (map (rec (g e.line))) (code_kept e) ∙ sym (map-map (renumber_rec g) (rec e.line) (code ds e))

    -- of a unit
    unit_recs_renumbered : (o : OrderUnit)
        → unit_recs (renumbered ds) (renumber_ordered g o) ≡ map (renumber_rec g) (unit_recs ds o)
    unit_recs_renumbered o =
        concat_moved (equation_recs (renumbered ds)) (equation_recs ds) (renumber_equation g) (renumber_rec g)
        equation_renumbered o.runs

  -- THE PROGRAM, with the units in the order q
  pub program_renumbered : g 0 ≡ 0 → (us : List TextUnit) (q : List ℕ)
      → program (map (renumber_unit g) us) q ≡ map (renumber_rec g) (program us q)
  unfolding program
  program_renumbered z us q =
      let ds = definitions us in
      let constants =
      concat_moved _ (λ (d : Def). constant_recs ds d d.what) (renumber_def g) (renumber_rec g)
      (λ (d : Def). constant_renumbered ds d d.what) ds in
      let initials =
      concat_moved _ (λ (d : Def). initial_recs ds d d.what) (renumber_def g) (renumber_rec g)
      (λ (d : Def). initial_renumbered ds d d.what) ds in
      let runs =
      concat_parts _ (λ (i : ℕ). unit_recs ds (unit_at us i)) (renumber_rec g)
      (λ i. ap (unit_recs (renumbered ds)) (unit_renumbered g z us i) ∙ unit_recs_renumbered ds (unit_at us i)) q in
      rw (definitions_renumbered g us, map_append, map_append) (ap₂ ◌++◌ constants (ap₂ ◌++◌ initials runs))
