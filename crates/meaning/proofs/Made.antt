-- A program is made of its units: of the constants of all, of the initials of all, and of the steps of each unit of the
-- order, once.
use Prim.Native.Nat.{ℕ, ◌<◌}
use mathlib.Core.Path.{◌≡◌, refl, sym, ap, ap₂, ◌∙◌}
use mathlib.Core.List.{List, [], ◌∷◌, ◌++◌, map, append-nil}
use lib.ListN.{length, get_or, length-map, get_or-map}
use Rattle.laws.specs.Lists.{concat_map}
use Rattle.laws.specs.Every.{Every}
use Rattle.laws.proofs.Every.{every_part, every_at}
use Rattle.laws.proofs.Concats.{concat_concat, map_concat, concat_mapped, concat_same, concat_same_in, concat_none}
use Rattle.drafts.specs.Tree.{Constant}
use Rattle.blocks.specs.Units.{constants, assignment, state, Sets, given, own, anew, Inner, UnitBody, single}
use Rattle.blocks.specs.Units.{block, TextUnit, stores, rates, equation, OrderUnit, order_unit, target_of}
use Rattle.blocks.specs.Units.{inner_equation}
use Rattle.blocks.specs.Units.{order_unit_of, order_units}
use Rattle.drafts.specs.Tree.{names}
use Rattle.order.proofs.Sorting.{perm_below}
use Rattle.model.specs.Definitions.{Def, defined_alone, defined_inside, definitions, keys, slot_in, no_unit, unit_at}
use Rattle.model.specs.Definitions.{unit_count}
use Rattle.model.specs.Faults.{uses_in, GoodOrder}
use Rattle.records.specs.declared.Instr.TheVariants.{Constant as Fixed}
use Rattle.records.specs.Record.{Rec, rec}
use Rattle.program.specs.Program.{initial_value, constant_recs, initial_recs, last_instr, equation_recs, unit_recs}
use Rattle.program.specs.Program.{program}
use Rattle.meaning.specs.Statements.{slot_among}
use Rattle.meaning.specs.Recorded.{set_instr, inner_stretch, block_stretch, constants_from, initials_from, steps_from}
use Rattle.meaning.specs.Recorded.{equating, equating_in, equating_at, MadeOf}
use Rattle.meaning.proofs.Runs.{constant_part, initial_part, ordered_part}
use Rattle.meaning.proofs.Owned.{defined_from, defined_in, definitions_parts, block_defined}
use Rattle.meaning.proofs.Asked.{names_same}
use Rattle.meaning.proofs.BlockFunctions.{group_of}
use Rattle.meaning.proofs.Initials.{EachResolved}

-- a unit that is ordered, as a unit of the order
abbrev ordered_from : ℕ → UnitBody → OrderUnit
ordered_from l (single (constants cs)) = no_unit
ordered_from l (single (assignment k e)) = order_unit l (k ∷ []) (names e) (equation l k stores e ∷ [])
ordered_from l (single (state k i e)) = order_unit l [] (names e) (equation l k rates e ∷ [])
ordered_from l (block os is ns z) = order_unit l os is (group_of ns)

abbrev ordered : TextUnit → OrderUnit
ordered u = ordered_from u.line u.body

module _ (us : List TextUnit) where
  abbrev ds : List Def
  ds = definitions us

  abbrev slot : ℕ → ℕ
  slot = slot_in ds

  -- ---- the constants and the initials

  -- a row of records, one part for each definition, goes by units
  parts_made : (f : Def → List Rec) → concat_map f ds ≡ concat_map (λ (u : TextUnit). concat_map f (defined_in u)) us
  parts_made f = ap (concat_map f) (definitions_parts us) ∙ concat_concat f defined_in us

  -- what is defined inside a block has none
  none_inside : (f : Def → List Rec) → ((l k : ℕ) (s : Sets) → concat_map f (defined_inside l k s) ≡ [])
      → (l : ℕ) (os is : List ℕ) (ns : List Inner) (z : ℕ) → concat_map f (defined_from l (block os is ns z)) ≡ []
  none_inside f h l os is ns z =
      ap (concat_map f) (block_defined l os is ns z)
      ∙ concat_concat f (λ (n : Inner). defined_inside n.line n.key n.sets) ns
      ∙ concat_none _ (λ (n : Inner). h n.line n.key n.sets) ns

  inside_constant : (l k : ℕ) (s : Sets) → constant_part ds (defined_inside l k s) ≡ []
  unfolding concat_map
  inside_constant l k given = refl
  inside_constant l k own = refl
  inside_constant l k anew = refl

  inside_initial : (l k : ℕ) (s : Sets) → initial_part ds (defined_inside l k s) ≡ []
  unfolding concat_map
  inside_initial l k given = refl
  inside_initial l k own = refl
  inside_initial l k anew = refl

  constants_of : (l : ℕ) (x : UnitBody) → constant_part ds (defined_from l x) ≡ constants_from slot l x
  unfolding concat_map
  constants_of l (single (constants cs)) = pairs cs
    where
      pairs : (cs : List Constant)
          → constant_part ds (defined_alone l (constants cs) ++ []) ≡ constants_from slot l (single (constants cs))
      pairs [] = refl
      pairs (c ∷ cs) = ap (◌∷◌ (rec l (Fixed (slot c.key) c.worth))) (pairs cs)
  constants_of l (single (assignment k e)) = refl
  constants_of l (single (state k i e)) = refl
  constants_of l (block os is ns z) =
      none_inside (λ (d : Def). constant_recs ds d d.what) inside_constant l os is ns z

  initials_of : (l : ℕ) (x : UnitBody) → initial_part ds (defined_from l x) ≡ initials_from slot (initial_value ds) l x
  unfolding concat_map
  initials_of l (single (constants cs)) = pairs cs
    where
      pairs : (cs : List Constant) → initial_part ds (defined_alone l (constants cs) ++ []) ≡ []
      pairs [] = refl
      pairs (c ∷ cs) = pairs cs
  initials_of l (single (assignment k e)) = refl
  initials_of l (single (state k i e)) = refl
  initials_of l (block os is ns z) =
      none_inside (λ (d : Def). initial_recs ds d d.what) inside_initial l os is ns z

  -- ---- the units of the order
  units_of : (l : ℕ) (x : UnitBody) → order_unit_of l x ≡ map ordered (equating l x)
  units_of l (single (constants cs)) = refl
  units_of l (single (assignment k e)) = refl
  units_of l (single (state k i e)) = refl
  units_of l (block os is ns z) = refl

  -- of all
  units_made : order_units us ≡ map ordered (equating_in us)
  units_made =
      concat_same _ _ (λ (u : TextUnit). units_of u.line u.body) us
      ∙ sym (map_concat ordered (λ (u : TextUnit). equating u.line u.body) us)

  -- as many
  units_many : unit_count us ≡ length (equating_in us)
  units_many = ap length units_made ∙ length-map (equating_in us) ordered

  -- a statement inside a block has its stretch
  inner_last : (s : Sets) (p : ℕ) → last_instr ds (target_of s) p ≡ set_instr slot s p
  inner_last given p = refl
  inner_last own p = refl
  inner_last anew p = refl

  inner_steps : (n : Inner) → equation_recs ds (inner_equation n) ≡ inner_stretch slot n
  inner_steps n = rw (inner_last n.sets (slot n.key))

  pub block_steps : (ns : List Inner) → concat_map (equation_recs ds) (group_of ns) ≡ block_stretch slot ns
  block_steps ns = concat_mapped (equation_recs ds) inner_equation ns ∙ concat_same _ _ inner_steps ns

  -- so each unit has its steps
  abbrev Stepped : TextUnit → Type 0
  Stepped u = unit_recs ds (ordered u) ≡ steps_from slot u.line u.body

  steps_of_holds : (l : ℕ) (x : UnitBody) → Every Stepped (equating l x)
  unfolding concat_map
  steps_of_holds l (single (constants cs)) = tt
  steps_of_holds l (single (assignment k e)) = (append-nil (equation_recs ds (equation l k stores e)), tt)
  steps_of_holds l (single (state k i e)) = (append-nil (equation_recs ds (equation l k rates e)), tt)
  steps_of_holds l (block os is ns z) = (block_steps ns, tt)

  -- at a place
  steps_at : (i : ℕ) → i < length (equating_in us)
      → unit_recs ds (unit_at us i) ≡ steps_from slot (equating_at us i).line (equating_at us i).body
  steps_at i h =
      let same : unit_at us i ≡ ordered (equating_at us i) =
      ap (λ (os : List OrderUnit). get_or os i no_unit) units_made ∙ get_or-map ordered (equating_in us) i _ in
      ap (unit_recs ds) same
      ∙ every_at Stepped (equating_in us) _
      (every_part Stepped (λ (u : TextUnit). equating u.line u.body) (λ u. steps_of_holds u.line u.body) us) i h

  module _ (q : List ℕ) (g : GoodOrder us q) (resolved : EachResolved us) where
    -- in their order
    steps_made : ordered_part us q
        ≡ concat_map (λ (i : ℕ). steps_from slot (equating_at us i).line (equating_at us i).body) q
    steps_made =
        concat_same_in _ _ q
        (λ i m. steps_at i (rw units_many at (perm_below (unit_count us) (uses_in us) q g.perm i m)))

    -- what is made, with slots by these names
    abbrev made : List ℕ → List Rec
    made ns =
        concat_map (λ (u : TextUnit). constants_from (slot_among ns) u.line u.body) us
        ++ (concat_map (λ (u : TextUnit). initials_from (slot_among ns) (initial_value ds) u.line u.body) us
        ++ concat_map (λ (i : ℕ). steps_from (slot_among ns) (equating_at us i).line (equating_at us i).body) q)

    -- the program is
    program_made : program us q ≡ made (keys ds)
    unfolding program
    program_made =
        ap₂ ◌++◌
        (parts_made (λ (d : Def). constant_recs ds d d.what)
        ∙ concat_same _ _ (λ (u : TextUnit). constants_of u.line u.body) us)
        (ap₂ ◌++◌
        (parts_made (λ (d : Def). initial_recs ds d d.what)
        ∙ concat_same _ _ (λ (u : TextUnit). initials_of u.line u.body) us)
        steps_made)

    -- MADE OF UNITS, and of nothing else
    pub made_of : MadeOf us (program us q)
    made_of =
        record {
          start = initial_value ds;
          resolved = resolved;
          q = q;
          once = rw units_many at g.perm;
          made = program_made ∙ ap made (names_same us);
        }
