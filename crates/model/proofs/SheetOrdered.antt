-- Which units are those of the order, and what stands there.
use Prim.Native.Nat.{ℕ, suc, ◌≤◌, ◌<◌}
use mathlib.Core.Path.{◌≡◌, refl, sym, ap, ◌∙◌}
use mathlib.Core.Bool.{Bool, true, false, cond}
use mathlib.Core.List.{List, [], ◌∷◌, ◌++◌, map, append-nil, append_assoc}
use native.Mathlib.Numerals.{add-one}
use native.Mathlib.Omega.{arith}
use borrow.Author.Tests.{lt-ltb, le-ltb}
use lib.Dec.{eqb}
use lib.ListN.{length, get_or, length-append, length-map}
use lib.Seq.{get_or_at}
use Rattle.laws.specs.Lists.{concat_map}
use Rattle.laws.specs.Every.{Every}
use Rattle.laws.specs.Places.{only_if}
use Rattle.laws.proofs.Lists.{concat_append}
use Rattle.laws.proofs.Concats.{map_concat, concat_none, same_at, same_length}
use Rattle.laws.proofs.Along.{gather_over, map_gather}
use Rattle.drafts.specs.Tree.{Tree, Constant, Initial}
use Rattle.drafts.specs.Items.{Item, postfix}
use Rattle.drafts.specs.Drafts.{Draft, draft, draft_item, constant_drafts, initial_draft}
use Rattle.drafts.specs.Kinds.{kind_number, kind_constant, kind_initial, kind_store, kind_rate, kind_output, kind_input}
use Rattle.drafts.specs.Kinds.{kind_ending, is_use, closes}
use Rattle.drafts.specs.Places.{begins, ends, last_kind}
use Rattle.blocks.specs.Units.{constants, assignment, state, Sets, given, own, anew, Inner, UnitBody, single, block}
use Rattle.blocks.specs.Units.{TextUnit, heading, stated, closing, stated_inner, stated_by, OrderUnit, order_unit_of}
use Rattle.blocks.specs.Units.{order_units}
use Rattle.blocks.specs.Layout.{inner_item, sets_kind, drafts_stood, drafts_stated, drafts_unit, unit_bounds}
use Rattle.model.specs.Definitions.{place_in, no_unit, unit_at, unit_count}
use Rattle.model.specs.Faults.{initial_of}
use Rattle.model.specs.Places.{is_ordered, ordered_in, output_slots, assigned_by, used_by, used_at, used_by_unit}
use Rattle.model.proofs.StatementDrafts.{no_draft, by_item, by_inner, expression_drafts, inner_drafts}
use Rattle.model.proofs.StatementDrafts.{spoken, unit_names}
use Rattle.model.proofs.SheetWalk.{sheet_drafts, sheet_kinds, unit_lines, sheet_keys, sheet_slots, sheet_ordered}
use Rattle.model.proofs.SheetWalk.{draft_slot, kind_at, slot_at_holds, line_at, begins_at, ends_at, drafts_split, span}
use Rattle.model.proofs.SheetWalk.{in_part, last_at, by_unit}

-- the slot of a name
abbrev pub slot_by : List ℕ → ℕ → ℕ
slot_by ks k = suc (place_in k ks)

-- the slots that a unit of the order assigns
abbrev pub slots_for : List ℕ → OrderUnit → List ℕ
slots_for ks o = map (slot_by ks) o.assigns

-- the units that names use
abbrev pub used_by_names : List (List ℕ) → List ℕ → List ℕ → List ℕ
used_by_names assigned ks ns = concat_map (λ k. used_by assigned (slot_by ks k)) ns

-- ---- how the drafts of a unit end

-- the last draft of constants is a value
constants_end : (c : Constant) (cs : List Constant)
    → (m : List Draft) × (x : ℕ) × (concat_map constant_drafts (c ∷ cs) ≡ m ++ (draft kind_number x ∷ []))
unfolding concat_map
constants_end c [] = (draft kind_constant c.key ∷ [], _, refl)
constants_end c (d ∷ cs) =
    let r = constants_end d cs in
    let f = constant_drafts c in
    (f ++ r.0, r.1, ap (λ l. f ++ l) r.2)

-- the drafts of a state statement, all but the last
abbrev state_front : ℕ → Initial → Tree → List Draft
state_front k i t = draft kind_initial k ∷ initial_draft i ∷ expression_drafts t

-- those of a block, all but its end
abbrev block_front : List ℕ → List ℕ → List Inner → List Draft
block_front os is ns = drafts_stood (heading os is) ++ drafts_stated (map stated_inner ns)

block_end : (l : ℕ) (os is : List ℕ) (ns : List Inner) (z : ℕ)
    → drafts_stated (stated_by l (block os is ns z)) ≡ block_front os is ns ++ (draft kind_ending 0 ∷ [])
unfolding concat_map
block_end l os is ns z =
    ap (λ r. drafts_stood (heading os is) ++ r)
    (concat_append (λ t. drafts_stood t.stood) (map stated_inner ns) (stated z closing ∷ []))
    ∙ sym (append_assoc (drafts_stood (heading os is)) (drafts_stated (map stated_inner ns)) (draft kind_ending 0 ∷ []))

-- ---- the outputs in front of drafts
unfoldable pub front_slots : List ℕ → List Draft → List ℕ
front_slots ks [] = []
front_slots ks (d ∷ m) =
    let r = draft_slot ks d ∷ front_slots ks m in
    cond (eqb d.kind kind_output) r []

-- of drafts that stand in a list
front_slots_holds : (ks : List ℕ) (kinds slots : List ℕ) (x m y : List Draft)
    → ((i : ℕ) → get_or kinds i 0 ≡ (get_or (x ++ (m ++ y)) i no_draft).kind)
    → ((i : ℕ) → get_or slots i 0 ≡ draft_slot ks (get_or (x ++ (m ++ y)) i no_draft))
    → output_slots kinds slots (length m) (length x) ≡ front_slots ks m
unfolding output_slots front_slots
front_slots_holds ks kinds slots x [] y p q = refl
front_slots_holds ks kinds slots x (d ∷ m) y p q =
    let here : get_or (x ++ (d ∷ (m ++ y))) (length x) no_draft ≡ d = get_or_at x d (m ++ y) no_draft (length x) refl in
    let next : x ++ (d ∷ (m ++ y)) ≡ (x ++ (d ∷ [])) ++ (m ++ y) = sym (append_assoc x (d ∷ []) (m ++ y)) in
    let more : length (x ++ (d ∷ [])) ≡ suc (length x) = length-append x (d ∷ []) ∙ add-one (length x) in
    rw (p (length x), q (length x), here)
    (ap (λ r. cond (eqb d.kind kind_output) (draft_slot ks d ∷ r) [])
    (rw more at
    (front_slots_holds ks kinds slots (x ++ (d ∷ [])) m y
    (λ i. p i ∙ ap (λ (l : List Draft). (get_or l i no_draft).kind) next)
    (λ i. q i ∙ ap (λ (l : List Draft). draft_slot ks (get_or l i no_draft)) next))))

module _ (ks : List ℕ) where
  -- an expression has none, and one draft behind it that is no output is none either
  front_none : (f : Item → Draft) → ((x : Item) → eqb (f x).kind kind_output ≡ false) → (xs : List Item) (z k : ℕ)
      (y : List Draft) → eqb z kind_output ≡ false → front_slots ks (map f xs ++ (draft z k ∷ y)) ≡ []
  unfolding front_slots
  front_none f e [] z k y n = rw n
  front_none f e (x ∷ xs) z k y n = rw (e x)

  front_expression : (t : Tree) (z k : ℕ) → eqb z kind_output ≡ false
      → front_slots ks (expression_drafts t ++ (draft z k ∷ [])) ≡ []
  front_expression t z k n =
      front_none draft_item (by_item (λ x d. eqb d.kind kind_output ≡ false) (λ k p. refl) (λ x k a p _ _. p.4))
      (postfix t) z k [] n

  -- behind a block's header stands none
  setting_kind : (s : Sets) → eqb (sets_kind s) kind_output ≡ false
  setting_kind given = refl
  setting_kind own = refl
  setting_kind anew = refl

  front_inside : (is : List ℕ) (ns : List Inner)
      → front_slots ks
      (map (draft kind_input) is ++ (drafts_stated (map stated_inner ns) ++ (draft kind_ending 0 ∷ [])))
      ≡ []
  unfolding front_slots concat_map
  front_inside (k ∷ is) ns = refl
  front_inside [] [] = refl
  front_inside [] (n ∷ ns) =
      let last = draft (sets_kind n.sets) n.key in
      let rest = drafts_stated (map stated_inner ns) in
      let e : ((inner_drafts n.tree ++ (last ∷ [])) ++ rest) ++ (draft kind_ending 0 ∷ [])
      ≡ inner_drafts n.tree ++ (last ∷ (rest ++ (draft kind_ending 0 ∷ []))) =
      append_assoc (inner_drafts n.tree ++ (last ∷ [])) rest (draft kind_ending 0 ∷ [])
      ∙ append_assoc (inner_drafts n.tree) (last ∷ []) (rest ++ (draft kind_ending 0 ∷ [])) in
      ap (front_slots ks) e
      ∙ front_none inner_item (by_inner (λ d. eqb d.kind kind_output ≡ false) (λ k a p _. p.4)) (postfix n.tree)
      (sets_kind n.sets) n.key (rest ++ (draft kind_ending 0 ∷ [])) (setting_kind n.sets)

  -- so of a block they are its outputs
  front_outputs : (os : List ℕ) (m : List Draft) → front_slots ks m ≡ []
      → front_slots ks (map (draft kind_output) os ++ m) ≡ map (slot_by ks) os
  unfolding front_slots
  front_outputs [] m e = e
  front_outputs (k ∷ os) m e = ap (◌∷◌ (slot_by ks k)) (front_outputs os m e)

  front_block : (os is : List ℕ) (ns : List Inner)
      → front_slots ks (block_front os is ns ++ (draft kind_ending 0 ∷ [])) ≡ map (slot_by ks) os
  front_block os is ns =
      let ending = draft kind_ending 0 ∷ [] in
      let inside = drafts_stated (map stated_inner ns) in
      ap (front_slots ks)
      (append_assoc (drafts_stood (heading os is)) inside ending
      ∙ append_assoc (map (draft kind_output) os) (map (draft kind_input) is) (inside ++ ending))
      ∙ front_outputs os _ (front_inside is ns)

-- a unit that is ordered
abbrev is_unit : UnitBody → Bool
is_unit (single (constants cs)) = false
is_unit (single (assignment k e)) = true
is_unit (single (state k i e)) = true
is_unit (block os is ns z) = true

-- what is asked of each unit of the order that a unit is
abbrev pub EachUnit : (OrderUnit → Type 0) → ℕ → UnitBody → Type 0
EachUnit P l x = Every P (order_unit_of l x)

module _ (us : List TextUnit) where
  abbrev ks : List ℕ
  ks = sheet_keys us

  abbrev all : List Draft
  all = sheet_drafts us

  -- unit j is one of the order
  abbrev is_equated : ℕ → Bool
  is_equated j = is_ordered (unit_bounds 0 us) (sheet_kinds us) j

  module _ (a : List TextUnit) (u : TextUnit) (b : List TextUnit) (p : us ≡ a ++ u ∷ b) where
    abbrev begin : ℕ
    begin = begins (unit_bounds 0 us) (length a)

    abbrev end : ℕ
    end = ends (unit_bounds 0 us) (length a)

    -- the kind of a unit's last draft
    last_kind_holds : (m : List Draft) (z : Draft) → drafts_unit u ≡ m ++ (z ∷ [])
        → last_kind (unit_bounds 0 us) (sheet_kinds us) (length a) ≡ z.kind
    last_kind_holds m z e = kind_at all _ ∙ ap (λ (d : Draft). d.kind) (last_at (by_unit us) a u b p m z e)

    -- it says whether the unit is ordered
    ends_with : (m : List Draft) (z : Draft) → drafts_unit u ≡ m ++ (z ∷ []) → is_equated (length a) ≡ closes z.kind
    ends_with m z e =
        let w = by_unit us in
        let l : begin < end =
        omega (arith, begins_at w a u b p, ends_at w a u b p, ap length e, length-append m (z ∷ [])) in
        rw (lt-ltb begin end l, last_kind_holds m z e)

    -- the drafts of a single statement are those of the unit
    abbrev Body : UnitBody → Type 0
    Body x = u.body ≡ x

    drafts_are : (x : UnitBody) → Body x → drafts_unit u ≡ drafts_stated (stated_by u.line x)
    drafts_are x e = ap (λ (x : UnitBody). drafts_stated (stated_by u.line x)) e

    assignment_end : (k : ℕ) (t : Tree) → Body (single (assignment k t))
        → drafts_unit u ≡ expression_drafts t ++ (draft kind_store k ∷ [])
    unfolding concat_map
    assignment_end k t e = drafts_are _ e ∙ append-nil (expression_drafts t ++ (draft kind_store k ∷ []))

    state_end : (k : ℕ) (i : Initial) (t : Tree) → Body (single (state k i t))
        → drafts_unit u ≡ state_front k i t ++ (draft kind_rate k ∷ [])
    unfolding concat_map
    state_end k i t e = drafts_are _ e ∙ append-nil (state_front k i t ++ (draft kind_rate k ∷ []))

    block_ends : (os is : List ℕ) (ns : List Inner) (z : ℕ) → Body (block os is ns z)
        → drafts_unit u ≡ block_front os is ns ++ (draft kind_ending 0 ∷ [])
    block_ends os is ns z e = drafts_are _ e ∙ block_end u.line os is ns z

    -- constants are not ordered, all others are
    is_ordered_holds : (x : UnitBody) → Body x → is_equated (length a) ≡ is_unit x
    unfolding concat_map
    is_ordered_holds (single (constants [])) e =
        let w = by_unit us in
        let l : end ≤ begin =
        omega (arith, begins_at w a u b p, ends_at w a u b p, ap length (drafts_are (single (constants [])) e)) in
        rw (le-ltb begin end l)
    is_ordered_holds (single (constants (c ∷ cs))) e =
        let r = constants_end c cs in
        ends_with r.0 (draft kind_number r.1)
        (drafts_are (single (constants (c ∷ cs))) e ∙ append-nil (concat_map constant_drafts (c ∷ cs)) ∙ r.2)
    is_ordered_holds (single (assignment k t)) e =
        ends_with (expression_drafts t) (draft kind_store k) (assignment_end k t e)
    is_ordered_holds (single (state k i t)) e = ends_with (state_front k i t) (draft kind_rate k) (state_end k i t e)
    is_ordered_holds (block os is ns z) e =
        ends_with (block_front os is ns) (draft kind_ending 0) (block_ends os is ns z e)

  -- WHAT STANDS AT EACH ROW: h gives at each unit's number what H says of it as a unit of the order
  pub ordered_by : {B : Type 0} (h : ℕ → B) (H : OrderUnit → B)
      → ((a : List TextUnit) (u : TextUnit) (b : List TextUnit) → us ≡ a ++ u ∷ b → (x : UnitBody) → u.body ≡ x
      → EachUnit (λ o. h (length a) ≡ H o) u.line x)
      → map h (sheet_ordered us) ≡ map H (order_units us)
  unfolding ordered_in concat_map
  ordered_by h H each =
      rw (length-map us (λ (u : TextUnit). u.line))
      (map_gather h (λ j. only_if (is_equated j) j) (length us) 0
      ∙ gather_over (λ j. map h (only_if (is_equated j) j)) (λ u. map H (order_unit_of u.line u.body)) us
      (λ a u b p. go a u b p u.body refl (each a u b p u.body refl))
      ∙ sym (map_concat H (λ u. order_unit_of u.line u.body) us))
    where
      go : (a : List TextUnit) (u : TextUnit) (b : List TextUnit) → us ≡ a ++ u ∷ b → (x : UnitBody) → u.body ≡ x
          → EachUnit (λ o. h (length a) ≡ H o) u.line x
          → map h (only_if (is_equated (length a)) (length a)) ≡ map H (order_unit_of u.line x)
      go a u b p (single (constants cs)) e w = rw (is_ordered_holds a u b p (single (constants cs)) e)
      go a u b p (single (assignment k t)) e w =
          rw (is_ordered_holds a u b p (single (assignment k t)) e) (ap (λ r. r ∷ []) w.0)
      go a u b p (single (state k i t)) e w =
          rw (is_ordered_holds a u b p (single (state k i t)) e) (ap (λ r. r ∷ []) w.0)
      go a u b p (block os is ns z) e w =
          rw (is_ordered_holds a u b p (block os is ns z) e) (ap (λ r. r ∷ []) w.0)

  -- .. and so at one of them
  pub ordered_at : {B : Type 0} (h : ℕ → B) (H : OrderUnit → B) → map h (sheet_ordered us) ≡ map H (order_units us)
      → (r : ℕ) → r < length (sheet_ordered us) → h (get_or (sheet_ordered us) r 0) ≡ H (unit_at us r)
  ordered_at h H e r l = same_at h H (sheet_ordered us) (order_units us) 0 no_unit e r l

  -- THE LINES of the units of the order
  pub ordered_lines_holds : map (λ j. get_or (unit_lines us) j 0) (sheet_ordered us)
      ≡ map (λ (o : OrderUnit). o.line) (order_units us)
  ordered_lines_holds =
      ordered_by (λ j. get_or (unit_lines us) j 0) (λ (o : OrderUnit). o.line)
      (λ a u b p x e. one _ u.line x (line_at (λ (u : TextUnit). u.line) us a u b p))
    where
      one : (n l : ℕ) (x : UnitBody) → n ≡ l → EachUnit (λ (o : OrderUnit). n ≡ o.line) l x
      one n l (single (constants cs)) e = tt
      one n l (single (assignment k t)) e = (e, tt)
      one n l (single (state k i t)) e = (e, tt)
      one n l (block os is ns z) e = (e, tt)

  -- HOW MANY they are
  pub ordered_length : length (sheet_ordered us) ≡ unit_count us
  ordered_length =
      same_length (λ j. get_or (unit_lines us) j 0) (λ (o : OrderUnit). o.line) (sheet_ordered us) (order_units us)
      ordered_lines_holds

  -- ---- what each assigns
  abbrev assigned_at : ℕ → List ℕ
  assigned_at j = assigned_by (unit_bounds 0 us) (sheet_kinds us) (sheet_slots us) j

  module _ (a : List TextUnit) (u : TextUnit) (b : List TextUnit) (p : us ≡ a ++ u ∷ b) where
    -- by the outputs in front and the last draft
    assigned_ending : (m : List Draft) (z : Draft) → drafts_unit u ≡ m ++ (z ∷ [])
        → assigned_at (length a)
        ≡ front_slots ks (m ++ (z ∷ [])) ++ only_if (eqb z.kind kind_store) (draft_slot ks z)
    assigned_ending m z e =
        let w = by_unit us in
        let before = concat_map drafts_unit a in
        let behind = concat_map drafts_unit b in
        let split = drafts_split w a u b p in
        let front : output_slots (sheet_kinds us) (sheet_slots us) (length (drafts_unit u)) (length before)
        ≡ front_slots ks (drafts_unit u) =
        front_slots_holds ks (sheet_kinds us) (sheet_slots us) before (drafts_unit u) behind
        (λ i. kind_at all i ∙ ap (λ (l : List Draft). (get_or l i no_draft).kind) split)
        (λ i. slot_at_holds ks all i ∙ ap (λ (l : List Draft). draft_slot ks (get_or l i no_draft)) split) in
        rw (
          span w a u b p,
          begins_at w a u b p,
          last_kind_holds a u b p m z e,
          slot_at_holds ks all _,
          last_at w a u b p m z e,
        )
        (ap (λ (r : List ℕ). r ++ only_if (eqb z.kind kind_store) (draft_slot ks z)) (front ∙ ap (front_slots ks) e))

    assigned_unit : (x : UnitBody) → u.body ≡ x
        → EachUnit (λ o. assigned_at (length a) ≡ slots_for ks o) u.line x
    unfolding front_slots
    assigned_unit (single (constants cs)) e = tt
    assigned_unit (single (assignment k t)) e = (
      assigned_ending (expression_drafts t) (draft kind_store k) (assignment_end a u b p k t e)
          ∙ ap (λ (r : List ℕ). r ++ (slot_by ks k ∷ [])) (front_expression ks t kind_store k refl),
      tt,
    )
    assigned_unit (single (state k i t)) e =
        (assigned_ending (state_front k i t) (draft kind_rate k) (state_end a u b p k i t e), tt)
    assigned_unit (block os is ns z) e = (
      assigned_ending (block_front os is ns) (draft kind_ending 0) (block_ends a u b p os is ns z e)
          ∙ append-nil (front_slots ks (block_front os is ns ++ (draft kind_ending 0 ∷ [])))
          ∙ front_block ks os is ns,
      tt,
    )

  -- THE SLOTS that they assign
  pub ordered_slots : map assigned_at (sheet_ordered us) ≡ map (slots_for ks) (order_units us)
  ordered_slots = ordered_by assigned_at (slots_for ks) assigned_unit

  -- ---- what each uses, by the slots that are assigned
  module _ (assigned : List (List ℕ)) where
    abbrev used_in : ℕ → List ℕ
    used_in j = used_by_unit assigned (unit_bounds 0 us) (sheet_kinds us) (sheet_slots us) j

    -- a draft, and a name
    abbrev used_by_draft : Draft → List ℕ
    used_by_draft d = cond (is_use d.kind) (used_by assigned (draft_slot ks d)) []

    abbrev used_by_name : ℕ → List ℕ
    used_by_name k = used_by assigned (slot_by ks k)

    -- a unit
    used_unit : (l : ℕ) (x : UnitBody)
        → concat_map used_by_draft (drafts_stated (stated_by l x)) ≡ used_by_names assigned ks (spoken x)
    used_unit l x =
        unit_names used_by_draft used_by_name (λ k. []) (λ k. refl) (λ k. refl) (λ k. refl) (λ k a p q. rw p) l x
        ∙ ap (λ (r : List ℕ). r ++ used_by_names assigned ks (spoken x))
        (concat_none (λ k. []) (λ k. refl) (initial_of x))

    -- of the units that are laid out
    used_at_holds : (a : List TextUnit) (u : TextUnit) (b : List TextUnit) → us ≡ a ++ u ∷ b
        → used_in (length a) ≡ used_by_names assigned ks (spoken u.body)
    used_at_holds a u b p =
        in_part (by_unit us) a u b p (used_at assigned (sheet_kinds us) (sheet_slots us)) used_by_draft
        (λ i. rw (kind_at all i, slot_at_holds ks all i))
        ∙ used_unit u.line u.body

    -- THE USES of the units of the order
    pub uses_ordered : map used_in (sheet_ordered us)
        ≡ map (λ (o : OrderUnit). used_by_names assigned ks o.reads) (order_units us)
    uses_ordered =
        ordered_by used_in (λ (o : OrderUnit). used_by_names assigned ks o.reads)
        (λ a u b p x e.
        one _ u.line x (used_at_holds a u b p ∙ ap (λ (x : UnitBody). used_by_names assigned ks (spoken x)) e))
      where
        one : (l : List ℕ) (n : ℕ) (x : UnitBody) → l ≡ used_by_names assigned ks (spoken x)
            → EachUnit (λ (o : OrderUnit). l ≡ used_by_names assigned ks o.reads) n x
        one l n (single (constants cs)) e = tt
        one l n (single (assignment k t)) e = (e, tt)
        one l n (single (state k i t)) e = (e, tt)
        one l n (block os is ns z) e = (e, tt)
