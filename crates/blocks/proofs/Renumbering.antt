-- Statements with the numbers that g gives for their own: the units and the faults of blocks have theirs likewise, and
-- are the same else.
use Prim.Native.Nat.{ℕ, suc}
use mathlib.Core.Path.{◌≡◌, refl, sym, ap, ap₂, ◌∙◌}
use mathlib.Core.Bool.{Bool, true, false, not}
use mathlib.Core.List.{List, [], ◌∷◌, ◌++◌, map, map-map}
use Rattle.laws.proofs.Concats.{map_append, concat_mapped, concat_moved, both_moved}
use Rattle.drafts.specs.Tree.{Says, constants as constants_said, assignment as assignment_said, state as state_said}
use Rattle.drafts.specs.Tree.{Tree, header, ending}
use Rattle.sheet.specs.Sheet.{Numbered, Fault}
use Rattle.sheet.specs.Numbers.{renumber_fault}
use Rattle.sheet.proofs.Numbers.{renumber_numbered}
use Rattle.blocks.specs.Tests.{fault_if, or_else}
use Rattle.blocks.specs.Units.{constants, assignment, state, Inner, UnitBody, single, block, TextUnit, text_unit}
use Rattle.blocks.specs.Units.{heading, closing, Stated, stated, stated_inner, stated_by, stated_in, Equation}
use Rattle.blocks.specs.Units.{equation, inner_equation, OrderUnit, order_unit, order_unit_of, order_units}
use Rattle.blocks.specs.Pairing.{Pair, bracket_of, brackets, pairs, unpaired, faults25_from, faults25}
use Rattle.blocks.specs.Inside.{free_known, set_next, set_inside, head_wrong, inner_right, Standing, outer, enclosed}
use Rattle.blocks.specs.Inside.{inner_fault, fault26, standing_next, faults26_from, faults26, block_faults}
use Rattle.blocks.specs.Sound.{sets_for}
use Rattle.blocks.specs.Members.{settings, Pending, idle, partly, inner_of, units_by, pending_by}
use Rattle.blocks.specs.Members.{units_from, units_of}

module _ (g : ℕ → ℕ) where
  -- ---- what is renumbered

  -- a statement inside a block
  abbrev pub renumber_inner : Inner → Inner
  renumber_inner n = record { line = g n.line; key = n.key; tree = n.tree; sets = n.sets }

  -- what a unit is: a block has the number of its end
  abbrev pub renumber_body : UnitBody → UnitBody
  renumber_body (single x) = single x
  renumber_body (block os is ns z) = block os is (map renumber_inner ns) (g z)

  -- a unit
  abbrev pub renumber_unit : TextUnit → TextUnit
  renumber_unit u = text_unit (g u.line) (renumber_body u.body)

  -- what has been read of a block
  abbrev renumber_pending : Pending → Pending
  renumber_pending idle = idle
  renumber_pending (partly h os is ns) = partly (g h) os is (map renumber_inner ns)

  -- a statement of a unit
  abbrev pub renumber_stated : Stated → Stated
  renumber_stated t = stated (g t.line) t.stood

  -- an equation
  abbrev pub renumber_equation : Equation → Equation
  renumber_equation e = equation (g e.line) e.key e.target e.tree

  -- a unit of the order
  abbrev pub renumber_ordered : OrderUnit → OrderUnit
  renumber_ordered o = order_unit (g o.line) o.assigns o.reads (map renumber_equation o.runs)

  -- the statements of a text
  abbrev renumbered : List Numbered → List Numbered
  renumbered ss = map (renumber_numbered g) ss

  -- faults
  abbrev pub renumber_faults : List Fault → List Fault
  renumber_faults fs = map (renumber_fault g) fs

  -- ---- faults

  -- one that stands if a test holds
  pub if_renumbered : (b : Bool) (l c : ℕ) → fault_if b (g l) c ≡ renumber_faults (fault_if b l c)
  if_renumbered true l c = refl
  if_renumbered false l c = refl

  -- the one list, or the other
  pub else_renumbered : (x y : List Fault) {v w : List Fault} → v ≡ renumber_faults x → w ≡ renumber_faults y
      → or_else v w ≡ renumber_faults (or_else x y)
  else_renumbered x y p q = ap₂ or_else p q ∙ go x
    where
      go : (fs : List Fault) → or_else (renumber_faults fs) (renumber_faults y) ≡ renumber_faults (or_else fs y)
      go [] = refl
      go (f ∷ fs) = refl

  -- ---- 25

  -- the brackets are the same
  pub brackets_kept : (ss : List Numbered) → brackets (renumbered ss) ≡ brackets ss
  brackets_kept ss = map-map _ (renumber_numbered g) ss

  -- the faults of the statements from place i on
  unpaired_renumbered : (ps : List Pair) (i : ℕ) (ss : List Numbered)
      → faults25_from ps i (renumbered ss) ≡ renumber_faults (faults25_from ps i ss)
  unfolding faults25_from
  unpaired_renumbered ps i [] = refl
  unpaired_renumbered ps i (s ∷ ss) =
      let wrong = unpaired ps i (bracket_of s.says) in
      both_moved (renumber_fault g) (fault_if wrong s.line 25) (faults25_from ps (suc i) ss)
      (if_renumbered wrong s.line 25) (unpaired_renumbered ps (suc i) ss)

  -- of all
  pub faults25_renumbered : (ss : List Numbered) → faults25 (renumbered ss) ≡ renumber_faults (faults25 ss)
  faults25_renumbered ss =
      ap (λ bs. faults25_from (pairs bs) 0 (renumbered ss)) (brackets_kept ss)
      ∙ unpaired_renumbered (pairs (brackets ss)) 0 ss

  -- ---- 26

  -- the constants and the states are the same
  pub free_kept : (ss : List Numbered) → free_known (renumbered ss) ≡ free_known ss
  free_kept ss = concat_mapped _ (renumber_numbered g) ss

  -- and the names set before the next end
  pub set_kept : (ss : List Numbered) → set_inside (renumbered ss) ≡ set_inside ss
  unfolding set_inside
  set_kept [] = refl
  set_kept (s ∷ ss) = ap (set_next s.says) (set_kept ss)

  -- the fault of a statement at its standing
  inner_renumbered : (free : List ℕ) (p : Standing) (s : Numbered)
      → inner_fault free p (renumber_numbered g s) ≡ renumber_faults (inner_fault free p s)
  inner_renumbered free outer s = refl
  inner_renumbered free (enclosed is above) s =
      if_renumbered (not (inner_right free is above s.says)) s.line 26

  -- .. whatever it says
  fault26_renumbered : (free ks : List ℕ) (p : Standing) (s : Numbered) (x : Says)
      → fault26 free ks p (renumber_numbered g s) x ≡ renumber_faults (fault26 free ks p s x)
  fault26_renumbered free ks p s (constants_said cs) = inner_renumbered free p s
  fault26_renumbered free ks p s (assignment_said k e) = inner_renumbered free p s
  fault26_renumbered free ks p s (state_said k i e) = inner_renumbered free p s
  fault26_renumbered free ks p s (header os is) = if_renumbered (head_wrong os ks) s.line 26
  fault26_renumbered free ks p s ending = refl

  -- the faults of the statements from a standing on
  inside_renumbered : (free : List ℕ) (p : Standing) (ss : List Numbered)
      → faults26_from free p (renumbered ss) ≡ renumber_faults (faults26_from free p ss)
  unfolding faults26_from
  inside_renumbered free p [] = refl
  inside_renumbered free p (s ∷ ss) =
      let t = renumber_numbered g s in
      let next = standing_next p s.says in
      both_moved (renumber_fault g) (fault26 free (set_inside ss) p s s.says) (faults26_from free next ss)
      (ap (λ ks. fault26 free ks p t s.says) (set_kept ss) ∙ fault26_renumbered free (set_inside ss) p s s.says)
      (inside_renumbered free next ss)

  -- of all
  pub faults26_renumbered : (ss : List Numbered) → faults26 (renumbered ss) ≡ renumber_faults (faults26 ss)
  faults26_renumbered ss =
      ap (λ free. faults26_from free outer (renumbered ss)) (free_kept ss) ∙ inside_renumbered (free_known ss) outer ss

  -- the faults of blocks
  pub blocks_renumbered : (ss : List Numbered) → block_faults (renumbered ss) ≡ renumber_faults (block_faults ss)
  unfolding block_faults
  blocks_renumbered ss =
      else_renumbered (faults25 ss) (faults26 ss) (faults25_renumbered ss) (faults26_renumbered ss)

  -- ---- units

  -- every setting of a name is the same
  pub settings_kept : (ss : List Numbered) → settings (renumbered ss) ≡ settings ss
  settings_kept ss = concat_mapped _ (renumber_numbered g) ss

  -- what has been read behind one assignment more inside a block
  partly_renumbered : (h : ℕ) (os is : List ℕ) (ns : List Inner) (l k : ℕ) (e : Tree)
      → partly (g h) os is (map renumber_inner ns ++ (inner_of os (map renumber_inner ns) (g l) k e ∷ []))
      ≡ partly (g h) os is (map renumber_inner (ns ++ (inner_of os ns l k e ∷ [])))
  partly_renumbered h os is ns l k e =
      let ms = map renumber_inner ns in
      let last : inner_of os ms (g l) k e ≡ renumber_inner (inner_of os ns l k e) =
      ap (λ ks. record { line = g l; key = k; tree = e; sets = sets_for os ks k }) (map-map _ renumber_inner ns) in
      ap (partly (g h) os is) (ap (λ n. ms ++ (n ∷ [])) last ∙ sym (map_append renumber_inner ns _))

  -- the units that a statement ends
  ended_renumbered : (b : Pending) (l : ℕ) (x : Says)
      → units_by (renumber_pending b) (g l) x ≡ map renumber_unit (units_by b l x)
  ended_renumbered idle l (constants_said cs) = refl
  ended_renumbered idle l (assignment_said k e) = refl
  ended_renumbered idle l (state_said k i e) = refl
  ended_renumbered idle l (header os is) = refl
  ended_renumbered idle l ending = refl
  ended_renumbered (partly h os is ns) l (constants_said cs) = refl
  ended_renumbered (partly h os is ns) l (assignment_said k e) = refl
  ended_renumbered (partly h os is ns) l (state_said k i e) = refl
  ended_renumbered (partly h os is ns) l (header os' is') = refl
  ended_renumbered (partly h os is ns) l ending = refl

  -- what has been read then
  pending_renumbered : (b : Pending) (l : ℕ) (x : Says)
      → pending_by (renumber_pending b) (g l) x ≡ renumber_pending (pending_by b l x)
  pending_renumbered b l (constants_said cs) = refl
  pending_renumbered idle l (assignment_said k e) = refl
  pending_renumbered (partly h os is ns) l (assignment_said k e) = partly_renumbered h os is ns l k e
  pending_renumbered b l (state_said k i e) = refl
  pending_renumbered b l (header os is) = refl
  pending_renumbered b l ending = refl

  -- the units of the statements behind what has been read
  from_renumbered : (b : Pending) (ss : List Numbered)
      → units_from (renumber_pending b) (renumbered ss) ≡ map renumber_unit (units_from b ss)
  unfolding units_from
  from_renumbered b [] = refl
  from_renumbered b (s ∷ ss) =
      let next = pending_by b s.line s.says in
      both_moved renumber_unit (units_by b s.line s.says) (units_from next ss)
      (ended_renumbered b s.line s.says)
      (ap (λ q. units_from q (renumbered ss)) (pending_renumbered b s.line s.says) ∙ from_renumbered next ss)

  -- of all
  pub units_renumbered : (ss : List Numbered) → units_of (renumbered ss) ≡ map renumber_unit (units_of ss)
  units_renumbered ss = from_renumbered idle ss

  -- ---- the statements of units, and the units of the order

  -- the statements, in text order
  pub stated_renumbered : (us : List TextUnit) → stated_in (map renumber_unit us) ≡ map renumber_stated (stated_in us)
  stated_renumbered = concat_moved _ _ renumber_unit renumber_stated (λ (u : TextUnit). go u.line u.body)
    where
      go : (l : ℕ) (x : UnitBody) → stated_by (g l) (renumber_body x) ≡ map renumber_stated (stated_by l x)
      go l (single x) = refl
      go l (block os is ns z) =
          let inner : map stated_inner (map renumber_inner ns) ≡ map renumber_stated (map stated_inner ns) =
          map-map stated_inner renumber_inner ns ∙ sym (map-map renumber_stated stated_inner ns) in
          ap (◌∷◌ (stated (g l) (heading os is)))
          (both_moved renumber_stated (map stated_inner ns) (stated z closing ∷ []) inner refl)

  -- the units of the order
  pub ordered_renumbered : (us : List TextUnit)
      → order_units (map renumber_unit us) ≡ map renumber_ordered (order_units us)
  ordered_renumbered = concat_moved _ _ renumber_unit renumber_ordered (λ (u : TextUnit). go u.line u.body)
    where
      go : (l : ℕ) (x : UnitBody) → order_unit_of (g l) (renumber_body x) ≡ map renumber_ordered (order_unit_of l x)
      go l (single (constants cs)) = refl
      go l (single (assignment k e)) = refl
      go l (single (state k i e)) = refl
      go l (block os is ns z) =
          ap (λ es. order_unit (g l) os is es ∷ [])
          (map-map inner_equation renumber_inner ns ∙ sym (map-map renumber_equation inner_equation ns))
