-- The settings of constants and states: their records as they are written.
use Prim.Native.Nat.{ℕ, suc, ◌+◌, ◌≤◌, min}
use mathlib.Core.Path.{◌≡◌, refl, sym, ap, ap₂, ◌∙◌}
use mathlib.Core.Bool.{true, false, cond}
use mathlib.Core.Logic.{◌⊎◌, inl, inr, ⊎_elim}
use mathlib.Core.List.{List, [], ◌∷◌, ◌++◌, map, append_assoc, append-nil}
use native.Mathlib.Nat.{add-zero}
use native.Mathlib.Omega.{arith}
use Rattle.drafts.specs.Kinds.{kind_number, kind_constant, kind_initial, kind_store, kind_rate, kind_from, kind_output}
use Rattle.drafts.specs.Kinds.{kind_input, kind_given}
use borrow.Author.Tests.{eq-eqb, ne_eqb}
use lib.Dec.{eqb}
use lib.ListN.{length, get_or, take, drop, length-map, take-append-drop, drop_of_length-le}
use lib.Seq.{get_or-drop, length-take-le}
use lib.Ieee.{Float, binary64, to_bits}
use Rattle.laws.specs.Lists.{concat_map}
use Rattle.laws.specs.Counts.{count, ◌∈◌}
use Rattle.laws.specs.Every.{Every}
use Rattle.laws.specs.Places.{gather}
use Rattle.laws.proofs.Tests.{eq_or_ne, not_both, cond_ind}
use Rattle.laws.proofs.Counts.{once_same, once_other}
use Rattle.laws.proofs.Every.{every_inside, every_concat}
use Rattle.laws.proofs.Concats.{concat_concat}
use Rattle.laws.proofs.Along.{along, along_append, gather_along, gather_over}
use Rattle.laws.proofs.Members.{in_has}
use Rattle.drafts.specs.Tree.{Tree, Constant, Initial, plain, from}
use Rattle.drafts.specs.Drafts.{Draft, draft, constant_drafts, initial_draft}
use Rattle.drafts.specs.Places.{home_of}
use Rattle.blocks.specs.Units.{constants, assignment, state, given, own, anew, Inner, UnitBody, single, block}
use Rattle.blocks.specs.Units.{TextUnit, Stood, alone, heading, inner, closing, Stated, stated, stated_inner, stated_by}
use Rattle.blocks.specs.Units.{stated_in}
use Rattle.blocks.specs.Layout.{sets_kind, drafts_stood, drafts_stated}
use Rattle.records.specs.Record.{Rec, rec_bytes}
use Rattle.model.specs.Definitions.{What, constant, assigned, hidden, integral, Def, defined_by, definitions, keys}
use Rattle.model.specs.Definitions.{place_in, slot_in}
use Rattle.model.specs.Faults.{constant_keys, name_faults}
use Rattle.model.proofs.StatementDrafts.{no_draft, Plain, expression_drafts, along_expression, along_inner, Home}
use Rattle.model.proofs.StatementDrafts.{home_kind, home_of_what}
use Rattle.model.proofs.SheetWalk.{sheet_drafts, sheet_kinds, stated_lines, sheet_bounds, sheet_keys, sheet_slots}
use Rattle.model.proofs.SheetWalk.{sheet_places, draft_slot, kind_at, slot_at_holds, drafts_by, line_at, begins_at}
use Rattle.model.proofs.SheetWalk.{drafts_split, first_kind}
use Rattle.model.proofs.SheetWalk.{span, by_statement}
use Rattle.model.proofs.KeyPlaces.{Once, is_constant, definition_of, definition_first, definition_later, constant_at}
use Rattle.model.proofs.KeyPlaces.{outside_defined}
use Rattle.model.proofs.SheetKeys.{defined_in, home_at}
use Rattle.model.proofs.SheetNames.{home_of_holds}
use Rattle.model.proofs.NoModelFault.{Known, all_known}
use Rattle.program.specs.Program.{constant_value, value_in, initial_value, constant_recs, initial_recs}
use Rattle.program.specs.Written.{field_bytes, setting_at, reach, settings_of}

-- the value of a constant is the one of its definition
value_of_holds : (ds : List Def) (k : ℕ) (x : Float) → k ∈ keys ds → (definition_of ds k).what ≡ constant x
    → value_in ds k ≡ x
unfolding value_in count
value_of_holds [] k x h e = absurd (omega arith)
value_of_holds (d ∷ ds) k x h e =
    ⊎_elim (λ (q : k ≡ d.key). first q)
    (λ q. later q d.what
    ∙ value_of_holds ds k x (omega (arith, once_other k d.key q)) (rw (definition_later d ds k q) at e))
    (eq_or_ne k d.key)
  where
    first : k ≡ d.key → constant_value k d.key d.what (value_in ds k) ≡ x
    first q =
        let w : d.what ≡ constant x = sym (ap (λ (y : Def). y.what) (definition_first d ds k q)) ∙ e in
        rw (w, eq-eqb k d.key q)

    later : (k ≡ d.key → ⊥) → (w : What) → constant_value k d.key w (value_in ds k) ≡ value_in ds k
    later q (constant y) = rw (ne_eqb k d.key q)
    later q assigned = refl
    later q hidden = refl
    later q (integral i) = refl

-- what is a constant has a value
constant_what : (w : What) → is_constant w ≡ true → (x : Float) × (w ≡ constant x)
constant_what (constant x) e = (x, refl)
constant_what assigned e = absurd (not_both e refl)
constant_what hidden e = absurd (not_both e refl)
constant_what (integral i) e = absurd (not_both e refl)

-- a home of this kind has its draft's own: an output's first setting is taken for a store
home_constant : (k : ℕ) → home_kind k ≡ kind_constant → k ≡ kind_constant
home_constant k =
    cond_ind (λ (r : ℕ). r ≡ kind_constant → k ≡ kind_constant) (eqb k kind_given) kind_store k
    (λ _ e. absurd (omega arith)) (λ _ e. e)

-- no more drafts can be a setting than there are; of one or more, one can be an initial
reach_le : (phase n : ℕ) → reach phase n ≤ n
reach_le phase n = cond_ind (λ (r : ℕ). r ≤ n) (eqb phase kind_initial) (min 1 n) n (λ _. omega arith)
    (λ _. omega arith)

reach_first : (n : ℕ) → reach kind_initial (suc n) ≡ 1
reach_first n = omega arith

-- two rows that are nothing together: the first is nothing
front_none : (x y : List ℕ) → x ++ y ≡ [] → x ≡ []
front_none [] y e = refl
front_none (a ∷ x) y e = absurd (omega (arith, ap length e))

module _ {A B : Type 0} (G : List A → List B) where
  -- along the first n of a row, and then along the others
  along_split : (m q : List A) (n : ℕ) → along G m q ≡ along G (take n m) (drop n m ++ q) ++ along G (drop n m) q
  along_split m q n = ap (λ r. along G r q) (sym (take-append-drop n m)) ∙ along_append G (take n m) (drop n m) q

  -- gathering over the places of the first n of m in a list
  gather_front : (f : ℕ → List B) (p m q : List A) (n : ℕ) → n ≤ length m → ((i : ℕ) → f i ≡ G (drop i (p ++ (m ++ q))))
      → gather f n (length p) ≡ along G (take n m) (drop n m ++ q)
  gather_front f p m q n h e =
      let same : take n m ++ (drop n m ++ q) ≡ m ++ q =
      sym (append_assoc (take n m) (drop n m) q) ∙ ap (λ r. r ++ q) (take-append-drop n m) in
      rw (length-take-le n m h) at
      (gather_along G f p (take n m) (drop n m ++ q) (λ i. e i ∙ ap (λ r. G (drop i (p ++ r))) (sym same)))

module _ (us : List TextUnit) where
  abbrev ds : List Def
  ds = definitions us

  abbrev ks : List ℕ
  ks = sheet_keys us

  abbrev all : List Draft
  all = sheet_drafts us

  -- the settings of a phase of statement j
  abbrev settings_in : ℕ → ℕ → List ℕ
  settings_in phase j =
      settings_of phase (sheet_places us) (stated_lines us) (sheet_bounds us) (sheet_kinds us) (sheet_slots us) j

  -- the setting of place i, with the line l
  abbrev setting_in : ℕ → ℕ → ℕ → List ℕ
  setting_in phase l i = setting_at phase (sheet_places us) (sheet_kinds us) (sheet_slots us) l i

  -- the value of a draft behind a constant or an initial
  abbrev value_of : Draft → ℕ
  value_of d =
      cond (eqb d.kind kind_from) (get_or (sheet_slots us) (home_of (sheet_places us) (draft_slot ks d) + 1) 0)
      (draft_slot ks d)

  -- the setting of a draft with all that stands behind it
  abbrev setting_of : ℕ → ℕ → List Draft → List ℕ
  setting_of phase l x =
      cond (eqb (get_or x 0 no_draft).kind phase)
      (field_bytes phase (draft_slot ks (get_or x 0 no_draft)) l (value_of (get_or x 1 no_draft))) []

  setting_at_holds : (phase l i : ℕ) → setting_in phase l i ≡ setting_of phase l (drop i all)
  setting_at_holds phase l i =
      rw (get_or-drop i all 0 no_draft, get_or-drop i all 1 no_draft, add-zero i)
      (rw (kind_at all i, slot_at_holds ks all i, kind_at all (i + 1), slot_at_holds ks all (i + 1)))

  -- the drafts of a statement have no setting of a phase, or they begin with one and have none behind those that can be
  -- one
  abbrev Begun : ℕ → Type 0
  Begun phase = (l : ℕ) (x : Stood) (q : List Draft) → let G = setting_of phase l in
      (along G (drafts_stood x) q ≡ [])
      ⊎
      ((eqb (get_or (drafts_stood x ++ q) 0 no_draft).kind phase ≡ true)
      × (along G (drop (reach phase (length (drafts_stood x))) (drafts_stood x)) q ≡ []))

  -- of a statement
  settings_at : (phase : ℕ) → Begun phase → (a : List Stated) (t : Stated) (b : List Stated)
      → stated_in us ≡ a ++ t ∷ b
      → settings_in phase (length a) ≡ along (setting_of phase t.line) (drafts_by t) (drafts_stated b)
  settings_at phase begun a t b p =
      let w = by_statement us in
      let m = drafts_by t in
      let q = drafts_stated b in
      let n = reach phase (length m) in
      let G = setting_of phase t.line in
      let begins = eqb (get_or (m ++ q) 0 no_draft).kind phase in
      let x = along G (take n m) (drop n m ++ q) in
      let y = along G (drop n m) q in
      let whole : along G m q ≡ x ++ y = along_split G m q n in
      let front = gather_front G (setting_in phase t.line) (drafts_stated a) m q n (reach_le phase (length m))
      (λ i. setting_at_holds phase t.line i ∙ ap (λ r. G (drop i r)) (drafts_split w a t b p)) in
      rw (
        first_kind w a t b p,
        line_at (λ (t : Stated). t.line) (stated_in us) a t b p,
        span w a t b p,
        begins_at w a t b p,
        front,
      )
      (⊎_elim
      (λ (e : along G m q ≡ []). cond_ind (λ (r : List ℕ). r ≡ []) begins x [] (λ _. front_none x y (sym whole ∙ e))
      (λ _. refl) ∙ sym e)
      (λ e. rw e.0 (sym (whole ∙ ap (λ r. x ++ r) e.1 ∙ append-nil x)))
      (begun t.line t.stood q))

  -- statement by statement, where each writes the records f of its definitions
  settings_of_holds : (phase : ℕ) (f : Def → List Rec)
      → ((a : List Stated) (t : Stated) (b : List Stated) → stated_in us ≡ a ++ t ∷ b
      → settings_in phase (length a) ≡ concat_map rec_bytes (concat_map f (defined_in t)))
      → gather (settings_in phase) (length (stated_lines us)) 0 ≡ concat_map rec_bytes (concat_map f ds)
  settings_of_holds phase f e =
      rw (length-map (stated_in us) (λ (t : Stated). t.line))
      (gather_over (settings_in phase) (λ t. concat_map rec_bytes (concat_map f (defined_in t))) (stated_in us) e
      ∙ sym (ap (concat_map rec_bytes) (concat_concat f defined_in (stated_in us))
      ∙ concat_concat rec_bytes (λ t. concat_map f (defined_in t)) (stated_in us)))

  -- a header has none: neither outputs nor inputs are of the phase
  heading_settings : (phase l : ℕ) → eqb kind_output phase ≡ false → eqb kind_input phase ≡ false → (os is : List ℕ)
      (q : List Draft) → along (setting_of phase l) (drafts_stood (heading os is)) q ≡ []
  unfolding along
  heading_settings phase l u v [] [] q = refl
  heading_settings phase l u v [] (k ∷ is) q = rw v (heading_settings phase l u v [] is q)
  heading_settings phase l u v (k ∷ os) is q = rw u (heading_settings phase l u v os is q)

  -- ---- constants: plain drafts have no setting
  constant_none : (l k a : ℕ) (x : List Draft) → Plain k → setting_of kind_constant l (draft k a ∷ x) ≡ []
  constant_none l k a x p = rw p.2

  -- what is written of definitions
  abbrev constant_bytes : List Def → List ℕ
  constant_bytes es = concat_map rec_bytes (concat_map (λ (d : Def). constant_recs ds d d.what) es)

  -- a statement has those of its constants
  constant_settings : (l : ℕ) (x : Stood) (q : List Draft)
      → along (setting_of kind_constant l) (drafts_stood x) q ≡ constant_bytes (defined_by l x)
  unfolding along concat_map rec_bytes
  constant_settings l (alone (constants [])) q = refl
  constant_settings l (alone (constants (c ∷ cs))) q =
      ap (λ r. field_bytes kind_constant (slot_in ds c.key) l (to_bits binary64 c.worth) ++ r)
      (constant_settings l (alone (constants cs)) q)
  constant_settings l (alone (assignment k t)) q =
      along_expression (setting_of kind_constant l) (constant_none l) t (draft kind_store k) q
  constant_settings l (alone (state k (plain x) t)) q =
      along_expression (setting_of kind_constant l) (constant_none l) t (draft kind_rate k) q
  constant_settings l (alone (state k (from c) t)) q =
      along_expression (setting_of kind_constant l) (constant_none l) t (draft kind_rate k) q
  constant_settings l (heading os is) q = heading_settings kind_constant l refl refl os is q
  constant_settings l (inner k t given) q =
      along_inner (setting_of kind_constant l) (constant_none l) t (draft (sets_kind given) k) q
  constant_settings l (inner k t own) q =
      along_inner (setting_of kind_constant l) (constant_none l) t (draft (sets_kind own) k) q
  constant_settings l (inner k t anew) q =
      along_inner (setting_of kind_constant l) (constant_none l) t (draft (sets_kind anew) k) q
  constant_settings l closing q = refl

  -- a statement that has a constant begins with one
  constants_begun : Begun kind_constant
  unfolding along concat_map
  constants_begun l (alone (constants [])) q = inl refl
  constants_begun l (alone (constants (c ∷ cs))) q =
      let m = drafts_stood (alone (constants (c ∷ cs))) in
      let every : length m ≤ length m = omega arith in
      inr (refl, ap (λ r. along (setting_of kind_constant l) r q) (drop_of_length-le m every))
  constants_begun l (alone (assignment k t)) q = inl (constant_settings l (alone (assignment k t)) q)
  constants_begun l (alone (state k i t)) q = inl (constant_settings l (alone (state k i t)) q)
  constants_begun l (heading os is) q = inl (constant_settings l (heading os is) q)
  constants_begun l (inner k t given) q = inl (constant_settings l (inner k t given) q)
  constants_begun l (inner k t own) q = inl (constant_settings l (inner k t own) q)
  constants_begun l (inner k t anew) q = inl (constant_settings l (inner k t anew) q)
  constants_begun l closing q = inl refl

  -- KIND 1, in text order
  pub constants_of : gather (settings_in kind_constant) (length (stated_lines us)) 0 ≡ constant_bytes ds
  constants_of =
      settings_of_holds kind_constant (λ (d : Def). constant_recs ds d d.what)
      (λ a t b p. settings_at kind_constant constants_begun a t b p
      ∙ constant_settings t.line t.stood (drafts_stated b))

  -- ---- states: plain drafts have no setting
  initial_none : (l k a : ℕ) (x : List Draft) → Plain k → setting_of kind_initial l (draft k a ∷ x) ≡ []
  initial_none l k a x p = rw p.3

  -- the value behind an initial, if the statement has one, is the initial's
  abbrev Valued : Stood → Type 0
  Valued (alone (constants cs)) = Unit {0}
  Valued (alone (assignment k t)) = Unit {0}
  Valued (alone (state k i t)) = value_of (initial_draft i) ≡ to_bits binary64 (initial_value ds i)
  Valued (heading os is) = Unit {0}
  Valued (inner k t s) = Unit {0}
  Valued closing = Unit {0}

  abbrev initial_bytes : List Def → List ℕ
  initial_bytes es = concat_map rec_bytes (concat_map (λ (d : Def). initial_recs ds d d.what) es)

  -- a statement has that of its state
  initial_settings : (l : ℕ) (x : Stood) → Valued x → (q : List Draft)
      → along (setting_of kind_initial l) (drafts_stood x) q ≡ initial_bytes (defined_by l x)
  unfolding along concat_map rec_bytes
  initial_settings l (alone (constants [])) v q = refl
  initial_settings l (alone (constants (c ∷ cs))) v q = initial_settings l (alone (constants cs)) tt q
  initial_settings l (alone (assignment k t)) v q =
      along_expression (setting_of kind_initial l) (initial_none l) t (draft kind_store k) q
  initial_settings l (alone (state k (plain x) t)) v q =
      ap₂ (λ n r. field_bytes kind_initial (slot_in ds k) l n ++ r) v
      (along_expression (setting_of kind_initial l) (initial_none l) t (draft kind_rate k) q)
  initial_settings l (alone (state k (from c) t)) v q =
      ap₂ (λ n r. field_bytes kind_initial (slot_in ds k) l n ++ r) v
      (along_expression (setting_of kind_initial l) (initial_none l) t (draft kind_rate k) q)
  initial_settings l (heading os is) v q = heading_settings kind_initial l refl refl os is q
  initial_settings l (inner k t given) v q =
      along_inner (setting_of kind_initial l) (initial_none l) t (draft (sets_kind given) k) q
  initial_settings l (inner k t own) v q =
      along_inner (setting_of kind_initial l) (initial_none l) t (draft (sets_kind own) k) q
  initial_settings l (inner k t anew) v q =
      along_inner (setting_of kind_initial l) (initial_none l) t (draft (sets_kind anew) k) q
  initial_settings l closing v q = refl

  -- constants have none
  no_initials : (l : ℕ) (cs : List Constant) (q : List Draft)
      → along (setting_of kind_initial l) (concat_map constant_drafts cs) q ≡ []
  unfolding along concat_map
  no_initials l [] q = refl
  no_initials l (c ∷ cs) q = no_initials l cs q

  -- a statement that has an initial begins with it, and has no other
  state_begun : Begun kind_initial
  unfolding along concat_map
  state_begun l (alone (constants cs)) q = inl (no_initials l cs q)
  state_begun l (alone (assignment k t)) q = inl (initial_settings l (alone (assignment k t)) tt q)
  state_begun l (alone (state k i t)) q = inr (refl, rw (reach_first _) (behind i))
    where
      behind : (i : Initial) → along (setting_of kind_initial l)
          (initial_draft i ∷ (expression_drafts t ++ (draft kind_rate k ∷ []))) q ≡ []
      behind (plain x) = along_expression (setting_of kind_initial l) (initial_none l) t (draft kind_rate k) q
      behind (from c) = along_expression (setting_of kind_initial l) (initial_none l) t (draft kind_rate k) q
  state_begun l (heading os is) q = inl (initial_settings l (heading os is) tt q)
  state_begun l (inner k t given) q = inl (initial_settings l (inner k t given) tt q)
  state_begun l (inner k t own) q = inl (initial_settings l (inner k t own) tt q)
  state_begun l (inner k t anew) q = inl (initial_settings l (inner k t anew) tt q)
  state_begun l closing q = inl refl

  -- ---- where names stand once and there is no 22 and no 23
  module _ (distinct : Once ks) (clean : name_faults ds us ≡ []) where
    -- behind a name's home stands the value of its constant
    named_value : (c : ℕ) → c ∈ ks → c ∈ constant_keys ds
        → value_of (draft kind_from c) ≡ to_bits binary64 (value_in ds c)
    named_value c h m =
        let at = home_of (sheet_places us) (suc (place_in c ks)) in
        let d = definition_of ds c in
        let w = constant_what d.what (sym (constant_at ds distinct c h) ∙ in_has c (constant_keys ds) m) in
        let e : home_at us at ≡ home_of_what d.key (constant w.0) =
        home_of_holds us c h ∙ ap (home_of_what d.key) w.1 in
        let k : (get_or all at no_draft).kind ≡ kind_constant = home_constant (get_or all at no_draft).kind
        (ap (λ (x : Home). x.own.kind) e) in
        let b : get_or all (at + 1) no_draft ≡ draft kind_number (to_bits binary64 w.0) =
        rw k at (ap (λ (x : Home). x.behind) e) in
        slot_at_holds ks all (at + 1) ∙ ap (draft_slot ks) b
        ∙ ap (to_bits binary64) (sym (value_of_holds ds c w.0 h w.1))

    -- so each initial of a unit has its value
    abbrev ValuedBy : Stated → Type 0
    ValuedBy t = Valued t.stood

    initial_valued : (k : ℕ) (i : Initial) (t : Tree) → Known ds (single (state k i t)) → Valued (alone (state k i t))
    unfolding count
    initial_valued k (plain x) t w = refl
    initial_valued k (from c) t w =
        named_value c (outside_defined c ds (w.named c (omega (arith, once_same c))))
        (w.initial c (omega (arith, once_same c)))

    inside_valued : (ns : List Inner) (z : ℕ) → Every ValuedBy (map stated_inner ns ++ (stated z closing ∷ []))
    inside_valued [] z = (tt, tt)
    inside_valued (n ∷ ns) z = (tt, inside_valued ns z)

    unit_valued : (l : ℕ) (x : UnitBody) → Known ds x → Every ValuedBy (stated_by l x)
    unit_valued l (single (constants cs)) w = (tt, tt)
    unit_valued l (single (assignment k t)) w = (tt, tt)
    unit_valued l (single (state k i t)) w = (initial_valued k i t w, tt)
    unit_valued l (block os is ns z) w = (tt, inside_valued ns z)

    all_valued : Every ValuedBy (stated_in us)
    all_valued =
        every_concat (λ (u : TextUnit). Known ds u.body) ValuedBy (λ (u : TextUnit). stated_by u.line u.body)
        (λ u w. unit_valued u.line u.body w) us (all_known ds us clean)

    -- KIND 2, in text order
    pub initials_of : gather (settings_in kind_initial) (length (stated_lines us)) 0 ≡ initial_bytes ds
    initials_of =
        settings_of_holds kind_initial (λ (d : Def). initial_recs ds d d.what)
        (λ a t b p. settings_at kind_initial state_begun a t b p
        ∙ initial_settings t.line t.stood (every_inside ValuedBy a t b (rw p at all_valued)) (drafts_stated b))
