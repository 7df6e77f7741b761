-- Units that hold are groups at rest, and back. `slot` gives each name its slot; v and d are the values and the
-- derivatives.
use Prim.Native.Nat.{ℕ, ◌<◌}
use mathlib.Core.Path.{◌≡◌, sym, ap, subst, ◌∙◌}
use mathlib.Core.Logic.{⊎_elim}
use mathlib.Core.List.{List, [], ◌∷◌, ◌++◌, map}
use native.Mathlib.Omega.{arith}
use lib.ListN.{length, get_or}
use lib.Seq.{ext_get_or}
use lib.Ieee.{Float, nan}
use Rattle.laws.specs.Lists.{concat_map}
use Rattle.laws.specs.Every.{Every}
use Rattle.laws.specs.Counts.{count, ◌∈◌}
use Rattle.laws.proofs.Every.{every_left, every_right, every_append, every_at, every_all, every_map, every_concat}
use Rattle.laws.proofs.Every.{every_mapped, every_part}
use Rattle.drafts.specs.Tree.{Tree, Constant, Initial, value}
use Rattle.blocks.specs.Units.{constants, assignment, state, Sets, given, own, anew, Inner, UnitBody, single}
use Rattle.blocks.specs.Units.{block, TextUnit, Equation, OrderUnit, order_unit_of, order_units}
use Rattle.order.proofs.Sorting.{perm_below}
use Rattle.model.specs.Definitions.{Def, defined_alone, defined_inside, definitions, no_unit, unit_count}
use Rattle.model.specs.Faults.{uses_in, GoodOrder}
use Rattle.meaning.specs.Meaning.{value_of}
use Rattle.meaning.specs.Statements.{Asked, EachAsked, carried}
use Rattle.meaning.proofs.Rows.{every_both, every_places, every_parts, every_unmapped, every_number}
use Rattle.meaning.proofs.Rows.{number_every}
use Rattle.meaning.proofs.Settle.{assigned_keys, values_after, derivs_after, long_values, long_derivs}
use Rattle.meaning.proofs.Settle.{Taken, taken_or_free, kept_values, kept_derivs, Rests, stored_holds}
use Rattle.meaning.proofs.Settle.{stored_rests}
use Rattle.meaning.proofs.Settle.{rated_holds, rated_rests}
use Rattle.meaning.proofs.BlockFunctions.{group_of, keys_inside, group_assigned, group_rated, carried_after}
use Rattle.meaning.proofs.Runs.{as_equation, fixed}
use Rattle.meaning.proofs.Owned.{defined_from, defined_in, definitions_parts, block_defined, runs_at}
use Rattle.meaning.proofs.Fairness.{alone, groups_of}
use Rattle.meaning.proofs.Asked.{each_defined}

module _ (slot : ℕ → ℕ) (v d : List Float) where
  -- ---- what holds of a unit
  abbrev ConstantMet : ℕ → Constant → Type 0
  ConstantMet l c = get_or v (slot c.key) nan ≡ c.worth

  abbrev AssignmentMet : ℕ → ℕ → Tree → Type 0
  AssignmentMet l k e = get_or v (slot k) nan ≡ value_of slot v e

  abbrev StateMet : ℕ → ℕ → Initial → Tree → Type 0
  StateMet l k i e = get_or d (slot k) nan ≡ value_of slot v e

  abbrev BlockMet : List Inner → Type 0
  BlockMet ns = Every (λ (n : Inner). get_or v (slot n.key) nan ≡ get_or (carried slot ns v) (slot n.key) nan) ns

  abbrev UnitMet : ℕ → UnitBody → Type 0
  UnitMet l x = Asked ConstantMet AssignmentMet StateMet BlockMet l x

  abbrev pub EachMet : List TextUnit → Type 0
  EachMet us = EachAsked ConstantMet AssignmentMet StateMet BlockMet us

  -- there is a place for its name
  abbrev UnitPlaced : ℕ → UnitBody → Type 0
  UnitPlaced l x =
      Asked (λ l c. slot c.key < length v) (λ l k e. slot k < length v) (λ l k i e. slot k < length d)
      (λ ns. Unit {0}) l x

  abbrev pub EachPlaced : List TextUnit → Type 0
  EachPlaced us =
      EachAsked (λ l c. slot c.key < length v) (λ l k e. slot k < length v) (λ l k i e. slot k < length d)
      (λ ns. Unit {0}) us

  -- ---- what rests: each of its constants, as a group of one, and what it runs
  abbrev ConstantRests : Equation → Type 0
  ConstantRests e = Rests slot v d (e ∷ [])

  abbrev DefRests : Def → Type 0
  DefRests a = Every ConstantRests (as_equation a.line a.key a.what)

  abbrev RowRests : OrderUnit → Type 0
  RowRests o = Rests slot v d o.runs

  abbrev UnitRests : ℕ → UnitBody → Type 0
  UnitRests l x = Every DefRests (defined_from l x) × Every RowRests (order_unit_of l x)

  abbrev EachRests : List TextUnit → Type 0
  EachRests us = Every (λ (u : TextUnit). UnitRests u.line u.body) us

  -- ---- at rest it holds
  block_holds : (ns : List Inner) → Rests slot v d (group_of ns) → BlockMet ns
  block_holds ns r =
      every_all _ (λ (n : Inner). ap (λ (z : List Float). get_or z (slot n.key) nan)
      (sym (carried_after slot ns v ∙ r.0)))
      ns

  unit_holds : (l : ℕ) (x : UnitBody) → UnitPlaced l x → UnitRests l x → UnitMet l x
  unfolding concat_map value_of
  unit_holds l (single (constants cs)) p r = pairs cs p r.0
    where
      pairs : (bs : List Constant) → Every (λ (c : Constant). slot c.key < length v) bs
          → Every DefRests (defined_alone l (constants bs) ++ []) → Every (ConstantMet l) bs
      pairs [] p r = tt
      pairs (c ∷ bs) p r =
          (stored_holds slot l c.key (value c.worth) v d p.0 r.0.0, pairs bs p.1 r.1)
  unit_holds l (single (assignment k e)) p r = stored_holds slot l k e v d p r.1.0
  unit_holds l (single (state k i e)) p r = rated_holds slot l k e v d p r.1.0
  unit_holds l (block os is ns z) p r = block_holds ns r.1.0

  -- ---- and back
  block_rests : (ns : List Inner) → BlockMet ns → Rests slot v d (group_of ns)
  unfolding count
  block_rests ns h =
      let g = group_of ns in
      let at : (k : ℕ) → k ∈ keys_inside ns → get_or (carried slot ns v) (slot k) nan ≡ get_or v (slot k) nan =
      λ k m. sym (every_number
      (λ (k : ℕ). get_or v (slot k) nan ≡ get_or (carried slot ns v) (slot k) nan) (keys_inside ns)
      (every_mapped _ _ (λ (n : Inner). n.key) (λ n e. e) ns h) k m) in
      let set_slot : (p : ℕ) → Taken slot (assigned_keys g) p → get_or (values_after slot g v) p nan ≡ get_or v p nan =
      λ p t.
      subst (λ (s : ℕ). get_or (values_after slot g v) s nan ≡ get_or v s nan) t.2
      (ap (λ (z : List Float). get_or z (slot t.0) nan) (sym (carried_after slot ns v))
      ∙ at t.0 (rw (group_assigned ns) at t.1)) in (
        ext_get_or nan (values_after slot g v) v (long_values slot g v)
            (λ p _. ⊎_elim (set_slot p) (kept_values slot g v p) (taken_or_free slot (assigned_keys g) p)),
        ext_get_or nan (derivs_after slot g v d) d (long_derivs slot g v d)
            (λ p _. kept_derivs slot g v d p (rw (group_rated ns) (λ j m e. omega arith))),
      )

  -- what is defined inside is no constant
  inside_rests : (l k : ℕ) (s : Sets) → Every DefRests (defined_inside l k s)
  inside_rests l k given = (tt, tt)
  inside_rests l k own = (tt, tt)
  inside_rests l k anew = tt

  unit_rests : (l : ℕ) (x : UnitBody) → UnitMet l x → UnitRests l x
  unfolding concat_map value_of
  unit_rests l (single (constants cs)) h = (pairs cs h, tt)
    where
      pairs : (bs : List Constant) → Every (ConstantMet l) bs → Every DefRests (defined_alone l (constants bs) ++ [])
      pairs [] h = tt
      pairs (c ∷ bs) h = ((stored_rests slot l c.key (value c.worth) v d h.0, tt), pairs bs h.1)
  unit_rests l (single (assignment k e)) h = ((tt, tt), (stored_rests slot l k e v d h, tt))
  unit_rests l (single (state k i e)) h = ((tt, tt), (rated_rests slot l k e v d h, tt))
  unit_rests l (block os is ns z) h = (
    rw (block_defined l os is ns z)
        (every_part DefRests (λ (n : Inner). defined_inside n.line n.key n.sets)
        (λ n. inside_rests n.line n.key n.sets) ns),
    (block_rests ns h, tt),
  )

  -- ---- the groups of a good order
  module _ (us : List TextUnit) (q : List ℕ) (g : GoodOrder us q) where
    abbrev ds : List Def
    ds = definitions us

    -- UNITS AT REST hold
    pub rested_hold : EachPlaced us → Every (Rests slot v d) (groups_of us ds q) → EachMet us
    rested_hold p r =
        let cs = every_unmapped (Rests slot v d) alone (fixed ds)
        (every_left (Rests slot v d) (map alone (fixed ds)) (map (runs_at us) q) r) in
        let defs = each_defined DefRests us
        (every_parts ConstantRests (λ (a : Def). as_equation a.line a.key a.what) ds cs) in
        let at_q = every_unmapped (Rests slot v d) (runs_at us) q
        (every_right (Rests slot v d) (map alone (fixed ds)) (map (runs_at us) q) r) in
        let rows : Every RowRests (order_units us) =
        every_places RowRests no_unit (order_units us)
        (λ i h. every_number (λ (i : ℕ). Rests slot v d (runs_at us i)) q at_q i (omega (arith, g.perm.within i h))) in
        let each : EachRests us =
        every_both _ _ us defs (every_parts RowRests (λ (u : TextUnit). order_unit_of u.line u.body) us rows) in
        every_map _ _ us (λ u t. unit_holds u.line u.body t.0 t.1) (every_both _ _ us p each)

    -- UNITS THAT HOLD rest
    pub holding_rest : EachMet us → Every (Rests slot v d) (groups_of us ds q)
    holding_rest h =
        let each : EachRests us = every_map _ _ us (λ u t. unit_rests u.line u.body t) h in
        let defs : Every DefRests ds =
        subst (Every DefRests) (sym (definitions_parts us))
        (every_concat (λ (u : TextUnit). UnitRests u.line u.body) DefRests defined_in (λ u t. t.0) us each) in
        let rows : Every RowRests (order_units us) =
        every_concat (λ (u : TextUnit). UnitRests u.line u.body) RowRests
        (λ (u : TextUnit). order_unit_of u.line u.body) (λ u t. t.1) us each in
        every_append (Rests slot v d) (map alone (fixed ds)) (map (runs_at us) q)
        (every_mapped ConstantRests (Rests slot v d) alone (λ e t. t) (fixed ds)
        (every_concat DefRests ConstantRests (λ (a : Def). as_equation a.line a.key a.what) (λ a t. t) ds defs))
        (every_mapped (λ (i : ℕ). Rests slot v d (runs_at us i)) (Rests slot v d) (runs_at us) (λ i t. t) q
        (number_every (λ (i : ℕ). Rests slot v d (runs_at us i)) q
        (λ i m. every_at RowRests (order_units us) no_unit rows i
        (perm_below (unit_count us) (uses_in us) q g.perm i m))))
