-- Every slot has its name: the definitions of a text, in their order, are those of its slots.
use Prim.Native.Nat.{ℕ, zero, suc, ◌+◌, ◌-◌, ◌*◌, ◌≤◌, ◌<◌}
use mathlib.Core.Path.{◌≡◌, refl, sym, ap, subst, ◌∙◌}
use mathlib.Core.Logic.{inl, inr, ⊎_elim}
use mathlib.Core.List.{List, [], ◌∷◌, ◌++◌, map, append_assoc, append-nil}
use native.Mathlib.Nat.{add-zero}
use native.Mathlib.Omega.{arith}
use lib.ListN.{length, get_or, take, drop, length-map, get_or-map}
use lib.Seq.{sets, sets-eq, take_at, drop-append-add}
use Rattle.limits.specs.Limits.{roster_bytes}
use Rattle.laws.specs.Lists.{concat_map}
use Rattle.laws.specs.Counts.{count, ◌∈◌}
use Rattle.laws.specs.Every.{Every}
use Rattle.laws.proofs.Lists.{concat_append}
use Rattle.laws.proofs.Counts.{count_append}
use Rattle.laws.proofs.Every.{every_append, every_anywhere, every_concat, every_mapped, every_part, every_map}
use Rattle.laws.proofs.Concats.{concat_concat, concat_mapped}
use Rattle.drafts.specs.Tree.{plus, minus, times, over, compar, insw, limit, Constant}
use Rattle.drafts.specs.Items.{Item, push, fetch, clock, negate, apply_two, apply_three, postfix}
use Rattle.sheet.specs.Sheet.{Numbered, said}
use Rattle.sheet.specs.Reader.{sheet_of}
use Rattle.blocks.specs.Units.{Single, constants, assignment, state, Sets, given, own, anew, Inner, UnitBody, single}
use Rattle.blocks.specs.Units.{block, TextUnit, alone, closing, Stated, stated, stated_inner, stated_by, stated_in}
use Rattle.blocks.specs.Units.{stores}
use Rattle.blocks.specs.Units.{rates, Equation, equation, OrderUnit, target_of, inner_equation, order_unit_of}
use Rattle.blocks.specs.Units.{order_units}
use Rattle.blocks.specs.Said.{said_of, numbered_back, GroupedIn}
use Rattle.blocks.specs.Members.{settings_by, settings}
use Rattle.blocks.specs.Sound.{UnitsSound}
use Rattle.blocks.proofs.BlocksShaped.{shaped_text}
use Rattle.blocks.proofs.UnitsStated.{stated_back}
use Rattle.blocks.proofs.UnitsSound.{units_sound}
use Rattle.model.specs.Definitions.{What, constant, assigned, hidden, integral, Def, defined_inside, definitions, keys}
use Rattle.model.specs.Definitions.{slot_in, no_unit, unit_at}
use Rattle.model.specs.Faults.{constant_keys, order_of}
use Rattle.model.specs.Text.{text_units}
use Rattle.model.proofs.NoModelFault.{no_faults}
use Rattle.model.proofs.KeyPlaces.{Once, no_def, keys_once}
use Rattle.records.specs.Record.{Rec, rec}
use Rattle.program.specs.Program.{instr_item, constant_recs, initial_recs, last_instr, equation_recs, unit_recs}
use Rattle.program.specs.Program.{program}
use Rattle.program.specs.Roster.{Entry, entry_for, entry_bytes, entries_from, roster}
use Rattle.program.proofs.RosterFilled.{length_entry, length_entries}
use Rattle.translator.proofs.Zero.{Clear}
use Rattle.meaning.specs.Statements.{names_alone, name_inside, names_set, slot_of, Asked, EachAsked}
use Rattle.meaning.specs.EverySlot.{definition_at, OwnedBy, Belongs, Spelled, EverySlot}
use Rattle.meaning.proofs.Rows.{every_places, every_parts, every_unmapped, every_number, number_every}
use Rattle.meaning.proofs.Settle.{in_either}
use Rattle.meaning.proofs.Owned.{stored_names, state_names, count_names, defined_from, defined_in, defined_at}
use Rattle.meaning.proofs.Owned.{block_defined, slot_at_holds}
use Rattle.meaning.proofs.Asked.{names_same, each_defined, each_name}
use Rattle.meaning.proofs.NamesSpelled.{spelled_text}

-- ---- each record belongs to the name of its slot

-- what owns a slot, by more that is so
owned_so : {ds : List Def} {s l : ℕ} {P Q : What → Type 0} → ((w : What) → P w → Q w) → OwnedBy ds s l P
    → OwnedBy ds s l Q
owned_so f o = record { first = o.first; last = o.last; line = o.line; what = f _ o.what }

module _ (us : List TextUnit) (one : Once (keys (definitions us))) where
  abbrev ds : List Def
  ds = definitions us

  abbrev slot : ℕ → ℕ
  slot = slot_in ds

  -- a definition owns the slot of its name
  abbrev Here : Def → Type 0
  Here d = OwnedBy ds (slot d.key) d.line (λ (w : What). w ≡ d.what)

  here_at : (i : ℕ) → i < length ds → Here (get_or ds i no_def)
  here_at i h =
      let s = slot_at_holds us one i h in
      let back : slot (get_or ds i no_def).key - 1 ≡ i = omega (arith, s) in
      record {
        first = omega (arith, s);
        last = omega (arith, s);
        line = ap (λ (j : ℕ). (definition_at ds j).line) back;
        what = ap (λ (j : ℕ). (definition_at ds j).what) back;
      }

  all_here : Every Here ds
  all_here = every_places Here no_def ds here_at

  -- of a record with its line
  abbrev Held : Rec → Type 0
  Held r = Belongs ds r.line r.instr

  -- a constant's
  constant_held : (d : Def) (w : What) → d.what ≡ w → Here d → Every Held (constant_recs ds d w)
  constant_held d (constant x) e h = (owned_so (λ v p. p ∙ e) h, tt)
  constant_held d assigned e h = tt
  constant_held d hidden e h = tt
  constant_held d (integral i) e h = tt

  -- a state's
  initial_held : (d : Def) (w : What) → d.what ≡ w → Here d → Every Held (initial_recs ds d w)
  initial_held d (constant x) e h = tt
  initial_held d assigned e h = tt
  initial_held d hidden e h = tt
  initial_held d (integral i) e h = (owned_so (λ v p. (i, p ∙ e)) h, tt)

  -- those of an expression
  item_held : (l : ℕ) (x : Item) → Belongs ds l (instr_item slot x)
  item_held l (push x) = tt
  item_held l (fetch k) = tt
  item_held l clock = tt
  item_held l negate = tt
  item_held l (apply_two plus) = tt
  item_held l (apply_two minus) = tt
  item_held l (apply_two times) = tt
  item_held l (apply_two over) = tt
  item_held l (apply_two compar) = tt
  item_held l (apply_three insw) = tt
  item_held l (apply_three limit) = tt

  items_held : (l : ℕ) (xs : List Item) → Every (Belongs ds l) (map (instr_item slot) xs)
  items_held l [] = tt
  items_held l (x ∷ xs) = (item_held l x, items_held l xs)

  -- those of an equation, whose last one does
  equation_held : (e : Equation) → Belongs ds e.line (last_instr ds e.target (slot e.key))
      → Every Held (equation_recs ds e)
  equation_held e h =
      let P = Belongs ds e.line in
      let items = map (instr_item slot) (postfix e.tree) in
      let last = last_instr ds e.target (slot e.key) in
      every_mapped P Held (rec e.line) (λ x p. p) (items ++ (last ∷ []))
      (every_append P items (last ∷ []) (items_held e.line (postfix e.tree)) (h, tt))

  -- inside a block, by the way of setting a name
  inside_held : (l k : ℕ) (s : Sets) → Every Here (defined_inside l k s)
      → Belongs ds l (last_instr ds (target_of s) (slot k))
  inside_held l k given h = owned_so (λ v p. inl p) h.0
  inside_held l k own h = owned_so (λ v p. inr p) h.0
  inside_held l k anew h = tt

  inner_held : (ns : List Inner) → Every (λ (n : Inner). Every Here (defined_at n)) ns
      → Every Held (concat_map (equation_recs ds) (map inner_equation ns))
  unfolding concat_map
  inner_held [] h = tt
  inner_held (n ∷ ns) h =
      every_append Held (equation_recs ds (inner_equation n)) _
      (equation_held (inner_equation n) (inside_held n.line n.key n.sets h.0)) (inner_held ns h.1)

  -- those of a unit of the order
  abbrev UnitHeld : OrderUnit → Type 0
  UnitHeld o = Every Held (unit_recs ds o)

  unit_held : (l : ℕ) (x : UnitBody) → Every Here (defined_from l x) → Every UnitHeld (order_unit_of l x)
  unfolding concat_map
  unit_held l (single (constants cs)) h = tt
  unit_held l (single (assignment k e)) h =
      let q = equation l k stores e in
      (every_append Held (equation_recs ds q) [] (equation_held q (owned_so (λ v p. inl p) h.0)) tt, tt)
  unit_held l (single (state k i e)) h =
      let q = equation l k rates e in
      (every_append Held (equation_recs ds q) [] (equation_held q (owned_so (λ v p. (i, p)) h.0)) tt, tt)
  unit_held l (block os is ns z) h =
      (inner_held ns (every_parts Here defined_at ns (subst (Every Here) (block_defined l os is ns z) h)), tt)

  -- those of what stands at any place of the order
  at_held : (i : ℕ) → UnitHeld (unit_at us i)
  unfolding concat_map
  at_held i =
      every_anywhere UnitHeld no_unit tt (order_units us) i
      (every_concat (λ (u : TextUnit). Every Here (defined_in u)) UnitHeld
      (λ (u : TextUnit). order_unit_of u.line u.body) (λ u h. unit_held u.line u.body h) us
      (each_defined Here us all_here))

  -- EACH RECORD, whatever the order
  pub program_held : (q : List ℕ) → Every Held (program us q)
  unfolding program
  program_held q =
      every_append Held (concat_map (λ (d : Def). constant_recs ds d d.what) ds) _
      (every_concat Here Held (λ (d : Def). constant_recs ds d d.what) (λ d h. constant_held d d.what refl h) ds
      all_here)
      (every_append Held (concat_map (λ (d : Def). initial_recs ds d d.what) ds) _
      (every_concat Here Held (λ (d : Def). initial_recs ds d d.what) (λ d h. initial_held d d.what refl h) ds
      all_here)
      (every_part Held (λ (i : ℕ). unit_recs ds (unit_at us i)) at_held q))

  -- THE SLOT of each definition
  pub slots_follow : (i : ℕ) → i < length ds → slot_of us (definition_at ds i).key ≡ suc i
  slots_follow i h = rw (← (names_same us)) (slot_at_holds us one i h)

-- ---- each name that is set has a definition, and no other

-- what a statement of a unit sets
abbrev set_by : Stated → List ℕ
set_by t = settings_by (said_of t.stood)

-- the settings of a text's statements, by units
settings_stated : (us : List TextUnit) (ss : List Numbered) → GroupedIn us ss
    → settings ss ≡ concat_map set_by (stated_in us)
settings_stated us ss g =
    ap settings (sym g) ∙ concat_mapped (λ (s : Numbered). settings_by s.says) numbered_back (stated_in us)

module _ (us : List TextUnit) (sound : UnitsSound us) where
  -- it has a definition
  abbrev Mine : ℕ → Type 0
  Mine k = k ∈ keys (definitions us)

  abbrev EachMine : Stated → Type 0
  EachMine t = Every Mine (set_by t)

  stated_mine : (l : ℕ) (x : UnitBody)
      → Asked (λ l c. Mine c.key) (λ l k e. Mine k) (λ l k i e. Mine k) (Every (λ (n : Inner). Mine n.key)) l x
      → Every EachMine (stated_by l x)
  stated_mine l (single (constants cs)) h =
      (every_mapped (λ (c : Constant). Mine c.key) Mine (λ (c : Constant). c.key) (λ c m. m) cs h, tt)
  stated_mine l (single (assignment k e)) h = ((h, tt), tt)
  stated_mine l (single (state k i e)) h = ((h, tt), tt)
  stated_mine l (block os is ns z) h = (
    tt,
    every_append EachMine (map stated_inner ns) (stated z closing ∷ [])
        (every_mapped (λ (n : Inner). Mine n.key) EachMine stated_inner (λ n m. (m, tt)) ns h) (tt, tt),
  )

  -- a name that is a constant, a state or stored has one
  each_mine : EachAsked (λ l c. Mine c.key) (λ l k e. Mine k) (λ l k i e. Mine k)
      (Every (λ (n : Inner). Mine n.key)) us
  each_mine = every_map _ _ us (λ u t. by u.line u.body t) (each_name us sound)
    where
      fixed : (k : ℕ) → k ∈ constant_keys (definitions us) → Mine k
      fixed k h = omega (arith, count_names k (definitions us))

      stored : (k : ℕ) → k ∈ stored_names (definitions us) → Mine k
      stored k h = omega (arith, count_names k (definitions us))

      moving : (k : ℕ) → k ∈ state_names (definitions us) → Mine k
      moving k h = omega (arith, count_names k (definitions us))

      by : (l : ℕ) (x : UnitBody)
          → Asked (λ l c. c.key ∈ constant_keys (definitions us)) (λ l k e. k ∈ stored_names (definitions us))
          (λ l k i e. k ∈ state_names (definitions us))
          (Every (λ (n : Inner). n.key ∈ stored_names (definitions us))) l x
          → Asked (λ l c. Mine c.key) (λ l k e. Mine k) (λ l k i e. Mine k) (Every (λ (n : Inner). Mine n.key))
          l x
      by l (single (constants cs)) t = every_map _ _ cs (λ (c : Constant) m. fixed c.key m) t
      by l (single (assignment k e)) t = stored k t
      by l (single (state k i e)) t = moving k t
      by l (block os is ns z) t = every_map _ _ ns (λ (n : Inner) m. stored n.key m) t

  -- EACH NAME that is set has one
  pub set_defined : (ss : List Numbered) → GroupedIn us ss → (k : ℕ) → k ∈ settings ss → Mine k
  set_defined ss g k m =
      every_number Mine (concat_map set_by (stated_in us))
      (every_concat EachMine Mine set_by (λ t h. h) (stated_in us)
      (every_concat _ EachMine (λ (u : TextUnit). stated_by u.line u.body)
      (λ u h. stated_mine u.line u.body h) us each_mine))
      k (subst (λ (l : List ℕ). k ∈ l) (settings_stated us ss g) m)

-- what is in a part of one row is in the same part of another
in_each : {A : Type 0} (F G : A → List ℕ) (k : ℕ) → ((a : A) → k ∈ F a → k ∈ G a) → (l : List A)
    → k ∈ concat_map F l → k ∈ concat_map G l
unfolding concat_map
in_each F G k f [] m = m
in_each F G k f (a ∷ l) m =
    ⊎_elim (λ (x : k ∈ F a). omega (arith, f a x, count_append k (G a) (concat_map G l)))
    (λ x. omega (arith, in_each F G k f l x, count_append k (G a) (concat_map G l)))
    (in_either k (F a) (concat_map F l) m)

-- the first settings inside a block are settings
inside_set : (k j : ℕ) (s : Sets) → k ∈ name_inside s j → k ∈ (j ∷ [])
unfolding count
inside_set k j given m = m
inside_set k j own m = m
inside_set k j anew m = absurd (omega arith)

-- what a unit defines its statements set
unit_set : (k l : ℕ) (x : UnitBody) → k ∈ names_set x → k ∈ concat_map set_by (stated_by l x)
unfolding concat_map
unit_set k l (single x) m = rw (append-nil (set_by (stated l (alone x)))) (by x m)
  where
    by : (x : Single) → k ∈ names_alone x → k ∈ set_by (stated l (alone x))
    by (constants cs) m = m
    by (assignment j e) m = m
    by (state j i e) m = m
unit_set k l (block os is ns z) m =
    let inside = concat_map set_by (map stated_inner ns) in
    let all : concat_map set_by (map stated_inner ns ++ (stated z closing ∷ [])) ≡ inside =
    concat_append set_by (map stated_inner ns) (stated z closing ∷ []) ∙ append-nil inside in
    rw (all, concat_mapped set_by stated_inner ns)
    (in_each (λ (n : Inner). name_inside n.sets n.key) (λ (n : Inner). n.key ∷ []) k
    (λ n h. inside_set k n.key n.sets h) ns m)

-- NO OTHER NAME has a definition
pub defined_set : (us : List TextUnit) (ss : List Numbered) → GroupedIn us ss → (k : ℕ) → k ∈ keys (definitions us)
    → k ∈ settings ss
defined_set us ss g k m =
    rw (settings_stated us ss g, concat_concat set_by (λ (u : TextUnit). stated_by u.line u.body) us)
    (in_each (λ (u : TextUnit). names_set u.body) _ k (λ u h. unit_set k u.line u.body h) us
    (subst (λ (l : List ℕ). k ∈ l) (names_same us) m))

-- ---- of a text that is translated
pub every_slot : {text : List ℕ} {room : ℕ} {rs : List Rec} → Clear text room rs → EverySlot text rs
every_slot {text} {rs = rs} c =
    let ss = said (sheet_of text) in
    let us = text_units text in
    let one = keys_once us (no_faults us c.clean).0 in
    let grouped : GroupedIn us ss = stated_back ss (shaped_text ss c.unblocked) in
    let named = every_concat _ Spelled (λ (s : Numbered). settings_by s.says) (λ s h. h) ss (spelled_text text) in
    record {
      slots = slots_follow us one;
      belongs = rw c.written (program_held us one (order_of us));
      once =
          λ k m.
          let some = set_defined us (units_sound ss c.unblocked) ss grouped k m in
          omega (arith, some, one k);
      no_other = defined_set us ss grouped;
      spelled =
          every_unmapped Spelled (λ (d : Def). d.key) (definitions us)
          (number_every Spelled (keys (definitions us))
          (λ k m. every_number Spelled (settings ss) named k (defined_set us ss grouped k m)));
    }

-- ---- entry by entry

-- that of place i, with something behind all
entry_at : (es : List Entry) (behind : List ℕ) (s i : ℕ) (d : Entry) → i < length es
    → take roster_bytes (drop (roster_bytes * i) (entries_from s es ++ behind)) ≡ entry_bytes (s + i) (get_or es i d)
unfolding entries_from
entry_at [] behind s i d h = absurd (omega arith)
entry_at (e ∷ es) behind s zero d h =
    let first = entry_bytes s e in
    let rest = entries_from (suc s) es in
    ap (take roster_bytes) (append_assoc first rest behind)
    ∙ take_at first (rest ++ behind) roster_bytes (length_entry s e)
    ∙ ap (λ (n : ℕ). entry_bytes n e) (sym (add-zero s))
entry_at (e ∷ es) behind s (suc i) d h =
    let first = entry_bytes s e in
    let rest = entries_from (suc s) es in
    let at : roster_bytes * suc i ≡ length first + roster_bytes * i = omega (arith, length_entry s e) in
    let slot : suc s + i ≡ s + suc i = omega arith in
    ap (λ (n : ℕ). take roster_bytes (drop n ((first ++ rest) ++ behind))) at
    ∙ ap (λ r. take roster_bytes (drop (length first + roster_bytes * i) r)) (append_assoc first rest behind)
    ∙ ap (take roster_bytes) (drop-append-add first (rest ++ behind) (roster_bytes * i))
    ∙ entry_at es behind (suc s) i d (omega arith)
    ∙ ap (λ (n : ℕ). entry_bytes n (get_or es i d)) slot

-- what is written of definitions for which there is room
pub roster_found : (ds : List Def) (lent : List ℕ) → roster_bytes * length ds ≤ length lent
    → (i : ℕ) → i < length ds
    → take roster_bytes (drop (roster_bytes * i) (sets lent 0 (roster ds)))
    ≡ entry_bytes (suc i) (entry_for (definition_at ds i))
unfolding roster
roster_found ds lent h i l =
    let es = map entry_for ds in
    let vs = entries_from 1 es in
    let many = length-map ds entry_for in
    let long = length_entries 1 es in
    let one : 1 + i ≡ suc i = omega arith in
    ap (λ r. take roster_bytes (drop (roster_bytes * i) r)) (sets-eq vs lent 0 (omega (arith, long, many)))
    ∙ entry_at es (drop (0 + length vs) lent) 1 i (entry_for no_def) (omega (arith, many))
    ∙ ap (λ (e : Entry). entry_bytes (1 + i) e) (get_or-map entry_for ds i no_def)
    ∙ ap (λ (n : ℕ). entry_bytes n (entry_for (definition_at ds i))) one
