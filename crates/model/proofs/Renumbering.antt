-- Units with the numbers that g gives for their own: definitions and model faults have theirs likewise; names, uses and
-- the order are the same.
use Prim.Native.Nat.{ℕ}
use mathlib.Core.Path.{◌≡◌, refl, sym, ap, ap₂, fun_ext, ◌∙◌}
use mathlib.Core.Bool.{Bool, true, false}
use mathlib.Core.List.{List, [], ◌∷◌, ◌++◌, map, map-map}
use lib.ListN.{length, get_or, length-map, get_or-map}
use Rattle.laws.specs.Lists.{concat_map, numbers}
use Rattle.laws.proofs.Concats.{concat_mapped, concat_parts, concat_moved, both_moved}
use Rattle.sheet.specs.Sheet.{Numbered}
use Rattle.sheet.specs.Numbers.{renumber_fault}
use Rattle.sheet.proofs.Numbers.{renumber_numbered}
use Rattle.blocks.specs.Tests.{fault_if, again, within}
use Rattle.blocks.specs.Units.{constants, assignment, state, given, own, anew, UnitBody, single, block, TextUnit}
use Rattle.blocks.specs.Units.{Stood, alone, heading, inner, closing, Stated, stated_in, OrderUnit, order_unit}
use Rattle.blocks.specs.Units.{order_units}
use Rattle.blocks.specs.Inside.{block_faults}
use Rattle.blocks.specs.Members.{units_of}
use Rattle.blocks.proofs.Renumbering.{renumber_body, renumber_unit, renumber_stated, renumber_ordered, renumber_faults}
use Rattle.blocks.proofs.Renumbering.{if_renumbered, else_renumbered, blocks_renumbered, units_renumbered}
use Rattle.blocks.proofs.Renumbering.{stated_renumbered, ordered_renumbered}
use Rattle.order.specs.Order.{unsortable}
use Rattle.order.specs.Greedy.{order}
use Rattle.model.specs.Definitions.{Def, defined, defined_by, definitions, keys, no_unit, unit_at, unit_count}
use Rattle.model.specs.Faults.{faults21, named_by, initial_of, outside_keys, constant_keys, name_fault, name_fault_of}
use Rattle.model.specs.Faults.{name_faults, meets, uses_in, fault24, faults24, model_faults, order_of}
use Rattle.model.specs.Text.{model_faults_in}

module _ (g : ℕ → ℕ) where
  -- a definition renumbered
  abbrev pub renumber_def : Def → Def
  renumber_def d = defined (g d.line) d.key d.what

  -- the units of a text
  abbrev renumbered : List TextUnit → List TextUnit
  renumbered us = map (renumber_unit g) us

  -- ---- definitions

  -- what a statement defines
  defined_renumbered : (l : ℕ) (x : Stood) → defined_by (g l) x ≡ map renumber_def (defined_by l x)
  defined_renumbered l (alone (constants cs)) = sym (map-map renumber_def _ cs)
  defined_renumbered l (alone (assignment k e)) = refl
  defined_renumbered l (alone (state k i e)) = refl
  defined_renumbered l (heading os is) = refl
  defined_renumbered l (inner k e given) = refl
  defined_renumbered l (inner k e own) = refl
  defined_renumbered l (inner k e anew) = refl
  defined_renumbered l closing = refl

  -- what all define
  pub definitions_renumbered : (us : List TextUnit) → definitions (renumbered us) ≡ map renumber_def (definitions us)
  definitions_renumbered us =
      let by : Stated → List Def = λ t. defined_by t.line t.stood in
      ap (concat_map by) (stated_renumbered g us)
      ∙ concat_moved by by (renumber_stated g) renumber_def (λ t. defined_renumbered t.line t.stood) (stated_in us)

  -- the names are the same
  pub keys_kept : (ds : List Def) → keys (map renumber_def ds) ≡ keys ds
  keys_kept ds = map-map _ renumber_def ds

  -- those that are known outside blocks
  pub outside_kept : (ds : List Def) → outside_keys (map renumber_def ds) ≡ outside_keys ds
  outside_kept ds = concat_mapped _ renumber_def ds

  -- those of the constants
  pub constants_kept : (ds : List Def) → constant_keys (map renumber_def ds) ≡ constant_keys ds
  constants_kept ds = concat_mapped _ renumber_def ds

  -- ---- 21

  -- the faults of the statements behind those that define the names seen
  pub faults21_renumbered : (seen : List ℕ) (ts : List Stated)
      → faults21 seen (map (renumber_stated g) ts) ≡ renumber_faults g (faults21 seen ts)
  unfolding faults21
  faults21_renumbered seen [] = refl
  faults21_renumbered seen (t ∷ ts) =
      let ks = keys (defined_by t.line t.stood) in
      let same : keys (defined_by (g t.line) t.stood) ≡ ks =
      ap keys (defined_renumbered t.line t.stood) ∙ keys_kept (defined_by t.line t.stood) in
      ap (λ ks. fault_if (again seen ks) (g t.line) 21 ++ faults21 (seen ++ ks) (map (renumber_stated g) ts)) same
      ∙ both_moved (renumber_fault g) (fault_if (again seen ks) t.line 21) (faults21 (seen ++ ks) ts)
      (if_renumbered g (again seen ks) t.line 21) (faults21_renumbered (seen ++ ks) ts)

  -- ---- 22 and 23

  -- what a unit names is the same
  named_kept : (x : UnitBody) → named_by (renumber_body g x) ≡ named_by x
  named_kept (single x) = refl
  named_kept (block os is ns z) = refl

  -- and the name of its initial
  initial_kept : (x : UnitBody) → initial_of (renumber_body g x) ≡ initial_of x
  initial_kept (single x) = refl
  initial_kept (block os is ns z) = refl

  -- the fault of a unit
  name_renumbered : (ds : List Def) (u : TextUnit)
      → name_fault_of (map renumber_def ds) (renumber_unit g u) ≡ renumber_faults g (name_fault_of ds u)
  name_renumbered ds u =
      let all = within (named_by u.body) (outside_keys ds) in
      let known = within (initial_of u.body) (constant_keys ds) in
      ap₂ (λ a b. name_fault a b (g u.line)) (ap₂ within (named_kept u.body) (outside_kept ds))
      (ap₂ within (initial_kept u.body) (constants_kept ds))
      ∙ go all known u.line
    where
      go : (a b : Bool) (l : ℕ) → name_fault a b (g l) ≡ renumber_faults g (name_fault a b l)
      go false b l = refl
      go true false l = refl
      go true true l = refl

  -- of all
  pub names_renumbered : (ds : List Def) (us : List TextUnit)
      → name_faults (map renumber_def ds) (renumbered us) ≡ renumber_faults g (name_faults ds us)
  names_renumbered ds =
      concat_moved (name_fault_of (map renumber_def ds)) (name_fault_of ds) (renumber_unit g) (renumber_fault g)
      (name_renumbered ds)

  -- ---- the units of the order. What is read past the last has line 0

  -- as many
  pub unit_count_kept : (us : List TextUnit) → unit_count (renumbered us) ≡ unit_count us
  unit_count_kept us = ap length (ordered_renumbered g us) ∙ length-map (order_units us) (renumber_ordered g)

  module _ (z : g 0 ≡ 0) where
    -- the one at any place
    pub unit_renumbered : (us : List TextUnit) (i : ℕ) → unit_at (renumbered us) i ≡ renumber_ordered g (unit_at us i)
    unit_renumbered us i =
        let none : no_unit ≡ renumber_ordered g no_unit = ap (λ l. order_unit l [] [] []) (sym z) in
        ap₂ (λ os o. get_or os i o) (ordered_renumbered g us) none
        ∙ get_or-map (renumber_ordered g) (order_units us) i no_unit

    -- its line
    pub line_renumbered : (us : List TextUnit) (i : ℕ) → (unit_at (renumbered us) i).line ≡ g (unit_at us i).line
    line_renumbered us i = ap (λ (o : OrderUnit). o.line) (unit_renumbered us i)

    -- each uses the same
    pub uses_kept : (us : List TextUnit) → uses_in (renumbered us) ≡ uses_in us
    uses_kept us = fun_ext (λ i. fun_ext (go i))
      where
        go : (i j : ℕ) → uses_in (renumbered us) i j ≡ uses_in us i j
        go i j = ap₂ (λ (a b : OrderUnit). meets a.assigns b.reads) (unit_renumbered us j) (unit_renumbered us i)

    -- the order is the same
    pub order_kept : (us : List TextUnit) → order_of (renumbered us) ≡ order_of us
    order_kept us = ap₂ order (unit_count_kept us) (uses_kept us)

    -- ---- 24

    -- of all units
    pub faults24_renumbered : (us : List TextUnit) → faults24 (renumbered us) ≡ renumber_faults g (faults24 us)
    faults24_renumbered us =
        ap (λ n. concat_map (fault24 (renumbered us)) (numbers n 0)) (unit_count_kept us)
        ∙ concat_parts (fault24 (renumbered us)) (fault24 us) (renumber_fault g) one (numbers (unit_count us) 0)
      where
        one : (i : ℕ) → fault24 (renumbered us) i ≡ renumber_faults g (fault24 us i)
        one i =
            ap₂ (λ t l. fault_if t l 24) (ap₂ (λ n uses. unsortable n uses i) (unit_count_kept us) (uses_kept us))
            (line_renumbered us i)
            ∙ if_renumbered g (unsortable (unit_count us) (uses_in us) i) (unit_at us i).line 24

    -- ---- 21 to 26

    -- of all model faults of units
    pub model_renumbered : (us : List TextUnit) → model_faults (renumbered us) ≡ renumber_faults g (model_faults us)
    unfolding model_faults
    model_renumbered us =
        let doubled = ap (faults21 []) (stated_renumbered g us) ∙ faults21_renumbered [] (stated_in us) in
        let named =
        ap (λ ds. name_faults ds (renumbered us)) (definitions_renumbered us) ∙ names_renumbered (definitions us) us in
        else_renumbered g (faults21 [] (stated_in us)) _ doubled
        (else_renumbered g (name_faults (definitions us) us) (faults24 us) named (faults24_renumbered us))

    -- OF ALL model faults of statements
    pub faults_in_renumbered : (ss : List Numbered)
        → model_faults_in (map (renumber_numbered g) ss) ≡ renumber_faults g (model_faults_in ss)
    faults_in_renumbered ss =
        else_renumbered g (block_faults ss) (model_faults (units_of ss)) (blocks_renumbered g ss)
        (ap model_faults (units_renumbered g ss) ∙ model_renumbered (units_of ss))
