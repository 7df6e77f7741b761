-- Faults 22 and 23: names that nothing outside a block defines, and initials that are no constants.
use Prim.Native.Nat.{ℕ, suc, ◌-◌, ◌<◌}
use mathlib.Core.Path.{◌≡◌, refl, sym, ap, ◌∙◌}
use mathlib.Core.Bool.{Bool, true, false, not, ◌&&◌}
use mathlib.Core.Logic.{⊎_elim}
use mathlib.Core.List.{List, [], ◌∷◌, ◌++◌, append-nil}
use native.Mathlib.Omega.{arith}
use borrow.Author.Tests.{ne_eqb}
use lib.Dec.{eqb, ltb}
use lib.ListN.{length, get_or, length-map}
use Rattle.laws.specs.Lists.{concat_map}
use Rattle.laws.specs.Counts.{◌∈◌, has}
use Rattle.laws.specs.Places.{only_if}
use Rattle.laws.proofs.Tests.{bool_cases, eq_or_ne}
use Rattle.laws.proofs.Counts.{has_true, has_false}
use Rattle.laws.proofs.Lists.{concat_append}
use Rattle.laws.proofs.Concats.{concat_none, concat_same, same_at}
use Rattle.laws.proofs.Along.{gather_over, filled}
use Rattle.drafts.specs.Tree.{plain, from}
use Rattle.drafts.specs.Drafts.{Draft}
use Rattle.drafts.specs.Kinds.{kind_constant, kind_from, kind_given, kind_own, asks}
use Rattle.drafts.specs.Places.{home_of}
use Rattle.sheet.specs.Sheet.{Fault}
use Rattle.blocks.specs.Units.{constants, assignment, state, UnitBody, single, block, TextUnit}
use Rattle.blocks.specs.Layout.{drafts_unit, unit_bounds}
use Rattle.model.specs.Definitions.{What, constant, assigned, hidden, integral, Def, definitions, place_in}
use Rattle.blocks.specs.Tests.{within}
use Rattle.model.specs.Faults.{initial_of, named_by, outside_keys, constant_keys, name_fault, name_fault_of}
use Rattle.model.specs.Faults.{name_faults}
use Rattle.model.specs.Places.{unknown, undefined_at, unfit_at, names_at, nameless}
use Rattle.model.proofs.StatementDrafts.{no_draft, Home, home_kind, kind_of_what, home_of_def, spoken, named_by_holds}
use Rattle.model.proofs.StatementDrafts.{unit_names}
use Rattle.model.proofs.SheetWalk.{sheet_drafts, sheet_kinds, unit_lines, sheet_keys, sheet_slots, sheet_places}
use Rattle.model.proofs.SheetWalk.{draft_slot, kind_at, slot_at_holds, line_at, any_part, by_unit}
use Rattle.model.proofs.KeyPlaces.{Once, place_in_holds, slot_past, is_constant, is_hidden, no_def, definition_of}
use Rattle.model.proofs.KeyPlaces.{constant_at, outside_at, outside_defined}
use Rattle.model.proofs.SheetKeys.{home_at, homes_of, places_length}

-- a mark, if the test holds
abbrev mark : Bool → List (Unit {0})
mark b = only_if b (tt {0})

-- a mark for each at which the test holds
abbrev marks : (ℕ → Bool) → List ℕ → List (Unit {0})
marks F ks = concat_map (λ k. mark (F k)) ks

-- a mark for each that does not stand in l: none, if all do
missing : (ks l : List ℕ) → not (filled (marks (λ k. not (has k l)) ks)) ≡ within ks l
unfolding concat_map within
missing [] l = refl
missing (k ∷ ks) l = go (has k l) (missing ks l)
  where
    go : (b : Bool) → not (filled (marks (λ k. not (has k l)) ks)) ≡ within ks l
        → not (filled (mark (not b) ++ marks (λ k. not (has k l)) ks)) ≡ (b && within ks l)
    go true e = e
    go false e = refl

-- where a name is not defined, it does not matter whether it is a constant
fault_by_holds : (known good u v : Bool) (l : ℕ) → (known ≡ true → u ≡ v)
    → name_fault (known && good) u l ≡ name_fault (known && good) v l
fault_by_holds true good u v l e = ap (λ b. name_fault good b l) (e refl)
fault_by_holds false good u v l e = refl

not_not : (b : Bool) → not (not b) ≡ b
not_not true = refl
not_not false = refl

-- ---- the kind of a home says whether the name is a constant or a block's own
home_kind_holds : (k z : ℕ) → eqb kind_given z ≡ false → eqb (home_kind kind_given) z ≡ false
    → eqb k z ≡ eqb (home_kind k) z
home_kind_holds k z p q =
    ⊎_elim (λ (e : k ≡ kind_given). rw e (p ∙ sym q)) (λ (n : k ≡ kind_given → ⊥). rw (ne_eqb k kind_given n))
    (eq_or_ne k kind_given)

constant_kind : (w : What) → eqb (home_kind (kind_of_what w)) kind_constant ≡ is_constant w
constant_kind (constant x) = refl
constant_kind assigned = refl
constant_kind hidden = refl
constant_kind (integral i) = refl

hidden_kind : (w : What) → eqb (home_kind (kind_of_what w)) kind_own ≡ is_hidden w
hidden_kind (constant x) = refl
hidden_kind assigned = refl
hidden_kind hidden = refl
hidden_kind (integral i) = refl

module _ (us : List TextUnit) where
  abbrev ds : List Def
  ds = definitions us

  abbrev ks : List ℕ
  ks = sheet_keys us

  abbrev all : List Draft
  all = sheet_drafts us

  -- the slot of a name, and the place where it is defined
  abbrev slot_of : ℕ → ℕ
  slot_of k = suc (place_in k ks)

  abbrev place_of : ℕ → ℕ
  place_of k = home_of (sheet_places us) (slot_of k)

  -- THE HOME of a name that is defined
  pub home_of_holds : (k : ℕ) → k ∈ ks → home_at us (place_of k) ≡ home_of_def (definition_of ds k)
  home_of_holds k h =
      let e : slot_of k - 1 ≡ place_in k ks = omega arith in
      let l : place_in k ks < length (sheet_places us) =
      omega (arith, place_in_holds k ks h, places_length us, length-map ds (λ (d : Def). d.key)) in
      rw e (same_at (home_at us) home_of_def (sheet_places us) ds 0 no_def (homes_of us) (place_in k ks) l)

  -- so a test of the kind there is a test of what the name is
  kind_home : (z k : ℕ) → eqb kind_given z ≡ false → eqb (home_kind kind_given) z ≡ false → k ∈ ks
      → eqb (get_or (sheet_kinds us) (place_of k) 0) z ≡ eqb (home_kind (kind_of_what (definition_of ds k).what)) z
  kind_home z k p q h =
      rw (kind_at all (place_of k))
      (home_kind_holds (get_or all (place_of k) no_draft).kind z p q
      ∙ ap (λ (h : Home). eqb h.own.kind z) (home_of_holds k h))

  -- ---- a name that nothing outside a block defines, as a test of names, of places and of drafts
  abbrev lost_name : ℕ → Bool
  lost_name k = unknown (sheet_places us) (sheet_kinds us) (slot_of k)

  abbrev lost_at : ℕ → Bool
  lost_at i = undefined_at (sheet_places us) (sheet_kinds us) (sheet_slots us) i

  abbrev lost : Draft → Bool
  lost d = asks d.kind && unknown (sheet_places us) (sheet_kinds us) (draft_slot ks d)

  lost_at_holds : (i : ℕ) → lost_at i ≡ lost (get_or all i no_draft)
  lost_at_holds i = rw (kind_at all i, slot_at_holds ks all i)

  -- of a unit
  lost_in : (l : ℕ) (x : UnitBody)
      → concat_map (λ d. mark (lost d)) (drafts_unit (record { line = l; body = x })) ≡ marks lost_name (named_by x)
  lost_in l x =
      unit_names (λ d. mark (lost d)) (λ k. mark (lost_name k)) (λ k. mark (lost_name k)) (λ k. refl) (λ k. refl)
      (λ k. refl) (λ k a p q. rw (p, q)) l x
      ∙ sym (concat_append (λ k. mark (lost_name k)) (initial_of x) (spoken x))
      ∙ ap (marks lost_name) (sym (named_by_holds x))

  -- ---- an initial's name that is no constant, as a test of names, of places and of drafts
  abbrev other : ℕ → Bool
  other k = not (eqb (get_or (sheet_kinds us) (place_of k) 0) kind_constant)

  abbrev unfit_in : ℕ → Bool
  unfit_in i = unfit_at (sheet_places us) (sheet_kinds us) (sheet_slots us) i

  abbrev unfit : Draft → Bool
  unfit d =
      eqb d.kind kind_from
      && not (eqb (get_or (sheet_kinds us) (home_of (sheet_places us) (draft_slot ks d)) 0) kind_constant)

  unfit_at_holds : (i : ℕ) → unfit_in i ≡ unfit (get_or all i no_draft)
  unfit_at_holds i = rw (kind_at all i, slot_at_holds ks all i)

  -- of a unit
  unfit_in_holds : (l : ℕ) (x : UnitBody)
      → concat_map (λ d. mark (unfit d)) (drafts_unit (record { line = l; body = x })) ≡ marks other (initial_of x)
  unfit_in_holds l x =
      unit_names (λ d. mark (unfit d)) (λ k. []) (λ k. mark (other k)) (λ k. refl) (λ k. refl) (λ k. refl)
      (λ k a p q. rw q) l x
      ∙ ap (λ r. marks other (initial_of x) ++ r) (concat_none (λ k. []) (λ k. refl) (spoken x))
      ∙ append-nil (marks other (initial_of x))

  -- ---- where names stand once
  module _ (distinct : Once ks) where
    -- a name is lost exactly if it is not known outside blocks
    lost_name_holds : (k : ℕ) → lost_name k ≡ not (has k (outside_keys ds))
    lost_name_holds k = ⊎_elim (λ t. there t) (λ t. nowhere t) (bool_cases (has k ks))
      where
        past : ltb (length (sheet_places us)) (slot_of k) ≡ not (has k ks)
        past = rw (places_length us, ← (length-map ds (λ (d : Def). d.key))) (slot_past k ks)

        there : has k ks ≡ true → lost_name k ≡ not (has k (outside_keys ds))
        there t =
            let h : k ∈ ks = has_true k ks t in
            rw (past, t, outside_at ds distinct k h)
            (kind_home kind_own k refl refl h ∙ hidden_kind (definition_of ds k).what
            ∙ sym (not_not (is_hidden (definition_of ds k).what)))

        nowhere : has k ks ≡ false → lost_name k ≡ not (has k (outside_keys ds))
        nowhere f =
            let none : has k (outside_keys ds) ≡ false =
            ⊎_elim
            (λ t. absurd (omega (arith, outside_defined k ds (has_true k (outside_keys ds) t), has_false k ks f)))
            (λ t. t) (bool_cases (has k (outside_keys ds))) in
            rw (past, f, none)

    -- the kind at a name's place says whether the name is a constant
    other_name : (k : ℕ) → k ∈ ks → other k ≡ not (has k (constant_keys ds))
    other_name k h =
        ap not
        (kind_home kind_constant k refl refl h ∙ constant_kind (definition_of ds k).what
        ∙ sym (constant_at ds distinct k h))

    -- what a unit names
    lost_unit : (l : ℕ) (x : UnitBody)
        → not (filled (concat_map (λ d. mark (lost d)) (drafts_unit (record { line = l; body = x }))))
        ≡ within (named_by x) (outside_keys ds)
    lost_unit l x =
        ap (λ r. not (filled r)) (lost_in l x ∙ concat_same _ _ (λ k. ap mark (lost_name_holds k)) (named_by x))
        ∙ missing (named_by x) (outside_keys ds)

    -- the tests of a unit give its faults
    unit_faults : (l : ℕ) (x : UnitBody)
        → name_fault (within (named_by x) (outside_keys ds)) (not (filled (marks other (initial_of x)))) l
        ≡ name_fault (within (named_by x) (outside_keys ds)) (within (initial_of x) (constant_keys ds)) l
    unfolding concat_map within
    unit_faults l (single (constants cs)) = refl
    unit_faults l (single (assignment k e)) = refl
    unit_faults l (single (state k (plain x) e)) = refl
    unit_faults l (single (state k (from c) e)) =
        let fit : has c (outside_keys ds) ≡ true
        → not (filled (mark (other c) ++ [])) ≡ (has c (constant_keys ds) && true) =
        λ t. ap (λ b. not (filled (mark b ++ [])))
        (other_name c (outside_defined c ds (has_true c (outside_keys ds) t)))
        ∙ missing (c ∷ []) (constant_keys ds) in
        fault_by_holds (has c (outside_keys ds)) _ _ _ l fit
    unit_faults l (block os is ns z) = refl

    -- 22 and 23 at a unit
    abbrev faults_at : ℕ → List Fault
    faults_at j = names_at (sheet_places us) (unit_lines us) (unit_bounds 0 us) (sheet_kinds us) (sheet_slots us) j

    names_at_holds : (a : List TextUnit) (u : TextUnit) (b : List TextUnit) → us ≡ a ++ u ∷ b
        → faults_at (length a) ≡ name_fault_of ds u
    names_at_holds a u b p =
        let w = by_unit us in
        let x = ap not (any_part w a u b p lost_at lost lost_at_holds) ∙ lost_unit u.line u.body in
        let y = any_part w a u b p unfit_in unfit unfit_at_holds ∙ ap filled (unfit_in_holds u.line u.body) in
        rw (x, y, line_at (λ (u : TextUnit). u.line) us a u b p) (unit_faults u.line u.body)

    -- 22 AND 23
    pub names_of : nameless (sheet_places us) (unit_lines us) (unit_bounds 0 us) (sheet_kinds us) (sheet_slots us)
        ≡ name_faults ds us
    unfolding nameless
    names_of =
        rw (length-map us (λ (u : TextUnit). u.line)) (gather_over faults_at (name_fault_of ds) us names_at_holds)
