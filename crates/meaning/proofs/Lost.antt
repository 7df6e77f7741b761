-- Nothing is lost: every statement is taken, and each unit has its records in the program, each exactly once.
use Prim.Native.Nat.{ℕ, suc, ◌<◌}
use mathlib.Core.Path.{◌≡◌, refl, sym, ap, ap₂, subst, ◌∙◌, ◌≡⟨◌⟩◌, ◌∎}
use mathlib.Core.Bool.{true}
use mathlib.Core.Logic.{◌⊎◌, inl, inr, ⊎_elim}
use mathlib.Core.List.{List, [], ◌∷◌, ◌++◌, map, append_assoc, append-nil}
use native.Mathlib.Omega.{arith}
use lib.ListN.{length, get_or, take, drop}
use lib.Seq.{split_at}
use Rattle.laws.specs.Lists.{concat_map}
use Rattle.laws.specs.Every.{Every}
use Rattle.laws.specs.Counts.{count, ◌∈◌}
use Rattle.laws.proofs.Lists.{concat_append}
use Rattle.laws.proofs.Members.{at_in}
use Rattle.laws.proofs.Tests.{not_both, eq_or_ne}
use Rattle.laws.proofs.Every.{every_map}
use Rattle.laws.proofs.Counts.{count_append, once_same, once_other}
use Rattle.deck.specs.declared.Spot.{Spot}
use Rattle.drafts.specs.Kinds.{kind_constant, kind_initial, kind_store, kind_rate, kind_again}
use Rattle.drafts.specs.Tree.{Tree, Constant, Initial}
use Rattle.sheet.specs.Sheet.{Told, says, faulty, Sheet, said_by, said, fault_by, statement_faults}
use Rattle.blocks.specs.Units.{constants, assignment, state, Sets, given, own, anew, Inner, UnitBody, single}
use Rattle.blocks.specs.Units.{block, TextUnit, Target, stores, restores, rates, Equation, equation, OrderUnit}
use Rattle.blocks.specs.Units.{order_unit_of, order_units}
use Rattle.blocks.specs.Sound.{UnitsSound}
use Rattle.order.proofs.Sorting.{perm_below}
use Rattle.model.specs.Definitions.{What, constant, assigned, hidden, integral, Def, defined, definitions}
use Rattle.model.specs.Definitions.{keys, place_in, slot_in, no_unit, unit_at, unit_count}
use Rattle.model.specs.Faults.{constant_keys, uses_in, GoodOrder}
use Rattle.model.proofs.KeyPlaces.{Once, place_in_holds, place_at, at_same, no_def}
use Rattle.model.proofs.UnitKeys.{stored_keys, rated_key, rated_keys, rated_defined, rated_same}
use Rattle.records.specs.declared.Instr.TheVariants.{Constant as Fixed, Initial as Start, Store, Deriv}
use Rattle.records.specs.Record.{Rec, rec}
use Rattle.program.specs.Program.{initial_value, constant_recs, initial_recs, equation_recs, unit_recs, program}
use Rattle.meaning.specs.Statements.{Resolves, Asked, EachAsked}
use Rattle.meaning.specs.Recorded.{records_for, StandsIn, ConstantRecorded, AssignmentRecorded}
use Rattle.meaning.specs.Recorded.{StateRecorded, FirstStore, BlockRecorded, reported}
use Rattle.meaning.proofs.Rows.{every_of, every_both, every_places, every_parts, every_unmapped, number_every}
use Rattle.meaning.proofs.Settle.{if_assigned, assigned_keys}
use Rattle.meaning.proofs.BlockFunctions.{group_of, keys_inside, group_assigned}
use Rattle.meaning.proofs.Runs.{constant_part, initial_part, row_recs, ordered_part}
use Rattle.meaning.proofs.Owned.{is_stored, stored_names, state_names, count_names, stored_def, runs_at, at_most}
use Rattle.meaning.proofs.Owned.{assigned_stored, assigned_one, stored_once, own_slot, slot_at_holds}
use Rattle.meaning.proofs.Parts.{none_at, only_at, for_append, for_concat, Setting, sets_constant, sets_initial}
use Rattle.meaning.proofs.Parts.{sets_store, sets_rate, sets_again, last_rec, own_record}
use Rattle.meaning.proofs.Parts.{other_constant, other_initial, other_last}
use Rattle.meaning.proofs.Asked.{alone_defined, each_name}
use Rattle.meaning.proofs.Initials.{EachResolved}
use Rattle.meaning.proofs.BlockRecords.{row_records, FirstIn, first_stores, block_none}
use Rattle.meaning.proofs.Made.{block_steps}

-- a sheet without statement fault is made of statements that are taken
pub all_taken : (rs : Sheet) → statement_faults rs ≡ [] → rs ≡ map reported (said rs)
unfolding concat_map
all_taken [] e = refl
all_taken (r ∷ rs) e = go r.what e (all_taken rs)
  where
    go : (t : Told Spot) → fault_by r.line t ++ statement_faults rs ≡ []
        → (statement_faults rs ≡ [] → rs ≡ map reported (said rs))
        → record { line = r.line; what = t } ∷ rs ≡ map reported (said_by r.line t ++ said rs)
    go (says x) e f = ap (λ z. record { line = r.line; what = says x } ∷ z) (f e)
    go (faulty c p) e f = absurd (let z : ◌≡◌ {A = ℕ} 0 1 = cc in omega arith)

-- ---- what a row sets
abbrev SetBy : List Equation → ℕ → Type 0
SetBy es k = (k ∈ assigned_keys es) ⊎ (k ∈ rated_keys es)

-- each of its keys
set_one : (t : Target) (k : ℕ) → (k ∈ if_assigned t k) ⊎ (k ∈ rated_key t k)
unfolding count
set_one stores k = inl (omega (arith, once_same k))
set_one restores k = inl (omega (arith, once_same k))
set_one rates k = inr (omega (arith, once_same k))

keys_set : (es : List Equation) (k : ℕ) → k ∈ map (λ (e : Equation). e.key) es → SetBy es k
unfolding concat_map count
keys_set [] k m = absurd (omega arith)
keys_set (e ∷ es) k m =
    let sets = if_assigned e.target e.key in
    let gives = rated_key e.target e.key in
    let a = count_append k sets (assigned_keys es) in
    let r = count_append k gives (rated_keys es) in
    ⊎_elim
    (λ (z : k ≡ e.key).
    ⊎_elim (λ h. inl (let h' : k ∈ sets = rw z h in omega arith))
    (λ h. inr (let h' : k ∈ gives = rw z h in omega arith))
    (set_one e.target e.key))
    (λ z.
    ⊎_elim (λ h. inl (omega arith)) (λ h. inr (omega arith)) (keys_set es k (omega (arith, once_other k e.key z))))
    (eq_or_ne k e.key)

module _ (us : List TextUnit) (sound : UnitsSound us) (one : Once (keys (definitions us))) (q : List ℕ)
    (g : GoodOrder us q) where
  abbrev ds : List Def
  ds = definitions us

  abbrev slot : ℕ → ℕ
  slot = slot_in ds

  -- ---- the first two parts: of a definition its own records alone
  record Alone (a : Def) : Type 0 where
    fixed : (n : ℕ) → records_for n (slot a.key) (constant_part ds ds)
        ≡ records_for n (slot a.key) (constant_recs ds a a.what)
    begun : (n : ℕ) → records_for n (slot a.key) (initial_part ds ds)
        ≡ records_for n (slot a.key) (initial_recs ds a a.what)

  all_alone : Every Alone ds
  all_alone =
      every_places Alone no_def ds
      (λ i h.
      let s = slot (get_or ds i no_def).key in
      let apart : (j : ℕ) → j < length ds → (j ≡ i → ⊥) → slot (get_or ds j no_def).key ≡ s → ⊥ =
      λ j m e z. e (omega (arith, slot_at_holds us one j m, slot_at_holds us one i h)) in
      record {
        fixed =
            λ n.
            for_concat n s (λ (d : Def). constant_recs ds d d.what) ds
            ∙ only_at (λ (d : Def). records_for n s (constant_recs ds d d.what)) ds no_def i h
            (λ j m e. other_constant n s ds (get_or ds j no_def) (get_or ds j no_def).what (apart j m e));
        begun =
            λ n.
            for_concat n s (λ (d : Def). initial_recs ds d d.what) ds
            ∙ only_at (λ (d : Def). records_for n s (initial_recs ds d d.what)) ds no_def i h
            (λ j m e. other_initial n s ds (get_or ds j no_def) (get_or ds j no_def).what (apart j m e));
      })

  -- a stored name has none there
  no_constant : (n s : ℕ) (a : Def) (w : What) → is_stored w ≡ true → records_for n s (constant_recs ds a w) ≡ []
  unfolding records_for
  no_constant n s a (constant x) e = absurd (not_both e refl)
  no_constant n s a assigned e = refl
  no_constant n s a hidden e = refl
  no_constant n s a (integral i) e = absurd (not_both e refl)

  no_initial : (n s : ℕ) (a : Def) (w : What) → is_stored w ≡ true → records_for n s (initial_recs ds a w) ≡ []
  unfolding records_for
  no_initial n s a (constant x) e = absurd (not_both e refl)
  no_initial n s a assigned e = refl
  no_initial n s a hidden e = refl
  no_initial n s a (integral i) e = absurd (not_both e refl)

  stored_none : (k n : ℕ) → k ∈ stored_names ds
      → (records_for n (slot k) (constant_part ds ds) ≡ []) × (records_for n (slot k) (initial_part ds ds) ≡ [])
  stored_none k n h =
      let r = stored_def ds k h in
      let a = r.0 in
      let own = every_of Alone ds all_alone a r.1 in
      subst
      (λ (j : ℕ). (records_for n (slot j) (constant_part ds ds) ≡ [])
      × (records_for n (slot j) (initial_part ds ds) ≡ []))
      r.3 (
        own.fixed n ∙ no_constant n (slot a.key) a a.what r.2,
        own.begun n ∙ no_initial n (slot a.key) a a.what r.2,
      )

  -- ---- the ordered units

  -- only places of units stand in q
  below : (m : ℕ) → m ∈ q → m < unit_count us
  below = perm_below (unit_count us) (uses_in us) q g.perm

  -- what a unit sets is defined, and is no constant
  set_mine : (m : ℕ) → m < unit_count us → (k : ℕ) → SetBy (runs_at us m) k
      → (k ∈ keys ds) × (count k (constant_keys ds) ≡ 0)
  set_mine m h k (inl s) =
      let n = count_names k ds in
      let t = assigned_stored us sound m h k s in
      let o = one k in
      (omega arith, omega arith)
  set_mine m h k (inr s) =
      let n = count_names k ds in
      let t = rated_defined us m k h s in
      let o = one k in
      (omega arith, omega arith)

  -- and no two set one name
  set_same : (i j k : ℕ) → i < unit_count us → j < unit_count us → SetBy (runs_at us i) k → SetBy (runs_at us j) k
      → i ≡ j
  set_same i j k hi hj (inl a) (inl b) = assigned_one us sound one i j k hi hj a b
  set_same i j k hi hj (inl a) (inr b) =
      absurd (omega (arith, one k, count_names k ds, assigned_stored us sound i hi k a, rated_defined us j k hj b))
  set_same i j k hi hj (inr a) (inl b) =
      absurd (omega (arith, one k, count_names k ds, rated_defined us i k hi a, assigned_stored us sound j hj k b))
  set_same i j k hi hj (inr a) (inr b) = rated_same us one i j k hi hj a b

  -- a row without the slot adds none
  row_none : (n s : ℕ) → Setting n → (es : List Equation)
      → ((j : ℕ) → j ∈ map (λ (e : Equation). e.key) es → slot j ≡ s → ⊥)
      → records_for n s (row_recs ds es) ≡ []
  unfolding concat_map records_for count
  row_none n s c [] h = refl
  row_none n s c (e ∷ es) h =
      row_records us one n s c e es
      ∙ ap₂ ◌++◌ (other_last n s ds e (h e.key (omega (arith, once_same e.key))))
      (row_none n s c es (λ j m. h j (omega arith)))

  -- of a unit that does not set the name
  unit_none : (n k : ℕ) → Setting n → (m : ℕ) → k ∈ keys ds → (SetBy (runs_at us m) k → ⊥)
      → records_for n (slot k) (unit_recs ds (unit_at us m)) ≡ []
  unit_none n k c m h f =
      row_none n (slot k) c (runs_at us m)
      (λ j t e. f (keys_set (runs_at us m) k (rw (own_slot us one j k h e) at t)))

  -- a constant has none there
  ordered_none : (n k : ℕ) → Setting n → k ∈ constant_keys ds → records_for n (slot k) (ordered_part us q) ≡ []
  ordered_none n k c h =
      let mine : k ∈ keys ds = omega (arith, count_names k ds) in
      for_concat n (slot k) (λ (m : ℕ). unit_recs ds (unit_at us m)) q
      ∙ none_at (λ (m : ℕ). records_for n (slot k) (unit_recs ds (unit_at us m))) q 0
      (λ p l.
      let m = get_or q p 0 in
      unit_none n k c m mine (λ s. omega (arith, (set_mine m (below m (at_in q p l)) k s).1)))

  -- of what a unit runs: what it sets has its records there alone; they stand one behind the other; and each name is
  -- stored to once for the first time
  record RowAlone (o : OrderUnit) : Type 0 where
    alone : (n k : ℕ) → Setting n → SetBy o.runs k
        → records_for n (slot k) (ordered_part us q) ≡ records_for n (slot k) (row_recs ds o.runs)
    stands : StandsIn (row_recs ds o.runs) (program us q)
    once : Once (stored_keys o.runs)

  module _ (i : ℕ) (hi : i < unit_count us) where
    -- its place in the order
    abbrev p : ℕ
    p = place_in i q

    in_q : p < length q
    in_q = place_in_holds i q (omega (arith, g.perm.within i hi))

    at_p : get_or q p 0 ≡ i
    at_p = place_at i q in_q

    -- a unit at another place is another
    another : (n : ℕ) → n < length q → (n ≡ p → ⊥) → get_or q n 0 ≡ i → ⊥
    another n m e z = e (at_same q (at_most us q g) n p m in_q (z ∙ sym at_p))

    -- so its records are the only ones
    alone_at : (n k : ℕ) → Setting n → SetBy (runs_at us i) k
        → records_for n (slot k) (ordered_part us q) ≡ records_for n (slot k) (row_recs ds (runs_at us i))
    alone_at n k c s =
        let f : ℕ → List Rec = λ (m : ℕ). records_for n (slot k) (unit_recs ds (unit_at us m)) in
        let none : (r : ℕ) → r < length q → (r ≡ p → ⊥) → f (get_or q r 0) ≡ [] =
        λ r l e.
        let m = get_or q r 0 in
        unit_none n k c m (set_mine i hi k s).0
        (λ t. another r l e (set_same m i k (below m (at_in q r l)) hi t s)) in
        records_for n (slot k) (ordered_part us q) ≡⟨ for_concat n (slot k) (λ (m : ℕ). unit_recs ds (unit_at us m)) q ⟩
        concat_map f q ≡⟨ only_at f q 0 p in_q none ⟩
        f (get_or q p 0) ≡⟨ ap f at_p ⟩
        f i ∎

    -- they stand one behind the other
    stands_at : StandsIn (row_recs ds (runs_at us i)) (program us q)
    unfolding program concat_map
    stands_at =
        let f : ℕ → List Rec = λ (m : ℕ). unit_recs ds (unit_at us m) in
        let a = concat_map f (take p q) in
        let b = concat_map f (drop (suc p) q) in
        let w : concat_map f q ≡ a ++ (f i ++ b) =
        ap (concat_map f) (split_at q p 0 in_q)
        ∙ concat_append f (take p q) (get_or q p 0 ∷ drop (suc p) q)
        ∙ ap (λ (m : ℕ). a ++ (f m ++ b)) at_p in
        let C = constant_part ds ds in
        let I = initial_part ds ds in
        (C ++ (I ++ a), b, rw (w, append_assoc C (I ++ a) (f i ++ b), append_assoc I a (f i ++ b)))

  rows_alone : Every RowAlone (order_units us)
  rows_alone =
      every_places RowAlone no_unit (order_units us)
      (λ i h. record { alone = alone_at i h; stands = stands_at i h; once = stored_once us one i h })

  -- ---- all three parts
  for_program : (n s : ℕ) (x y z : List Rec) → records_for n s (constant_part ds ds) ≡ x
      → records_for n s (initial_part ds ds) ≡ y
      → records_for n s (ordered_part us q) ≡ z → records_for n s (program us q) ≡ x ++ (y ++ z)
  unfolding program
  for_program n s x y z a b c =
      for_append n s (constant_part ds ds) (initial_part ds ds ++ ordered_part us q)
      ∙ ap₂ ◌++◌ a (for_append n s (initial_part ds ds) (ordered_part us q) ∙ ap₂ ◌++◌ b c)

  -- of a stored name: those of its unit
  for_stored : (n k : ℕ) → Setting n → k ∈ stored_names ds → (o : OrderUnit) → RowAlone o → SetBy o.runs k
      → records_for n (slot k) (program us q) ≡ records_for n (slot k) (row_recs ds o.runs)
  for_stored n k c h o r s =
      let none = stored_none k n h in
      for_program n (slot k) [] [] _ none.0 none.1 (r.alone n k c s)

  -- ---- a pair of constants
  constant_recorded : (l : ℕ) (c : Constant) → c.key ∈ constant_keys ds
      → Alone (defined l c.key (constant c.worth))
      → ConstantRecorded slot (program us q) l c
  unfolding records_for
  constant_recorded l c h a =
      let s = slot c.key in
      let r = rec l (Fixed s c.worth) in
      let none : (n : ℕ) → Setting n → records_for n s (ordered_part us q) ≡ [] = λ n t. ordered_none n c.key t h in
      record {
        fixed = for_program kind_constant s (r ∷ []) [] [] (a.fixed kind_constant ∙ own_record r)
            (a.begun kind_constant)
            (none kind_constant sets_constant);
        initials = for_program kind_initial s [] [] [] (a.fixed kind_initial) (a.begun kind_initial)
            (none kind_initial sets_initial);
        stores = for_program kind_store s [] [] [] (a.fixed kind_store) (a.begun kind_store)
            (none kind_store sets_store);
        derivatives = for_program kind_rate s [] [] [] (a.fixed kind_rate) (a.begun kind_rate)
            (none kind_rate sets_rate);
        stores_again = for_program kind_again s [] [] [] (a.fixed kind_again) (a.begun kind_again)
            (none kind_again sets_again);
      }

  -- ---- a row of one equation: its last record alone sets something
  for_one : (n s : ℕ) → Setting n → (e : Equation)
      → records_for n s (row_recs ds (e ∷ [])) ≡ records_for n s (last_rec ds e ∷ [])
  unfolding concat_map records_for
  for_one n s c e = row_records us one n s c e [] ∙ append-nil (records_for n s (last_rec ds e ∷ []))

  stands_one : (e : Equation) → StandsIn (row_recs ds (e ∷ [])) (program us q)
      → StandsIn (equation_recs ds e) (program us q)
  unfolding concat_map
  stands_one e t = subst (λ (r : List Rec). StandsIn r (program us q)) (append-nil (equation_recs ds e)) t

  -- ---- an assignment
  assignment_recorded : (l k : ℕ) (e : Tree) (o : OrderUnit) → o.runs ≡ equation l k stores e ∷ [] → RowAlone o
      → k ∈ stored_names ds
      → AssignmentRecorded slot (program us q) l k e
  unfolding records_for count concat_map
  assignment_recorded l k e o w r h =
      let s = slot k in
      let x = equation l k stores e in
      let set : SetBy o.runs k = rw w (inl (omega (arith, once_same k))) in
      let all : (n : ℕ) → Setting n → records_for n s (program us q) ≡ records_for n s (last_rec ds x ∷ []) =
      λ n c.
      for_stored n k c h o r set
      ∙ ap (λ (es : List Equation). records_for n s (row_recs ds es)) w
      ∙ for_one n s c x in (
        record {
          fixed = all kind_constant sets_constant;
          initials = all kind_initial sets_initial;
          stores = all kind_store sets_store ∙ own_record (rec l (Store s));
          derivatives = all kind_rate sets_rate;
          stores_again = all kind_again sets_again;
        },
        stands_one x (subst (λ (es : List Equation). StandsIn (row_recs ds es) (program us q)) w r.stands),
      )

  -- ---- a state
  state_recorded : (l k : ℕ) (i : Initial) (e : Tree) (o : OrderUnit) → o.runs ≡ equation l k rates e ∷ [] → RowAlone o
      → Alone (defined l k (integral i))
      → Resolves us i (initial_value ds i)
      → StateRecorded slot (Resolves us) (program us q) l k i e
  unfolding records_for count concat_map
  state_recorded l k i e o w r a v =
      let s = slot k in
      let x = equation l k rates e in
      let begin = rec l (Start s (initial_value ds i)) in
      let set : SetBy o.runs k = rw w (inr (omega (arith, once_same k))) in
      let last : (n : ℕ) → Setting n → records_for n s (ordered_part us q) ≡ records_for n s (last_rec ds x ∷ []) =
      λ n c. r.alone n k c set ∙ ap (λ (es : List Equation). records_for n s (row_recs ds es)) w ∙ for_one n s c x in (
        initial_value ds i,
        v,
        record {
          fixed = for_program kind_constant s [] [] [] (a.fixed kind_constant) (a.begun kind_constant)
              (last kind_constant sets_constant);
          initials =
              for_program kind_initial s [] (begin ∷ []) [] (a.fixed kind_initial)
              (a.begun kind_initial ∙ own_record begin)
              (last kind_initial sets_initial);
          stores = for_program kind_store s [] [] [] (a.fixed kind_store) (a.begun kind_store)
              (last kind_store sets_store);
          derivatives =
              for_program kind_rate s [] [] (rec l (Deriv s) ∷ []) (a.fixed kind_rate) (a.begun kind_rate)
              (last kind_rate sets_rate ∙ own_record (rec l (Deriv s)));
          stores_again = for_program kind_again s [] [] [] (a.fixed kind_again) (a.begun kind_again)
              (last kind_again sets_again);
        },
        stands_one x (subst (λ (es : List Equation). StandsIn (row_recs ds es) (program us q)) w r.stands),
      )

  -- ---- a block
  first_recorded : (n : Inner) (ns : List Inner) (s : Sets)
      → records_for kind_store (slot n.key) (program us q)
      ≡ records_for kind_store (slot n.key) (row_recs ds (group_of ns))
      → FirstIn us one ns n s
      → FirstStore slot (program us q) n s
  first_recorded n ns given e f = e ∙ f.1
  first_recorded n ns own e f = e ∙ f.1
  first_recorded n ns anew e f = tt

  block_recorded : (ns : List Inner) (o : OrderUnit) → o.runs ≡ group_of ns → RowAlone o
      → Every (λ (n : Inner). n.key ∈ stored_names ds) ns
      → BlockRecorded slot (program us q) ns
  block_recorded ns o w r h =
      let group = group_of ns in
      let same = block_steps us ns in
      let mine = every_map (λ (n : Inner). n.key ∈ stored_names ds) (λ (n : Inner). n.key ∈ keys ds) ns
      (λ n m. omega (arith, count_names n.key ds)) h in
      let inside : Every (λ (n : Inner). n.key ∈ keys_inside ns) ns =
      every_unmapped (λ (k : ℕ). k ∈ keys_inside ns) (λ (n : Inner). n.key) ns
      (number_every (λ (k : ℕ). k ∈ keys_inside ns) (keys_inside ns) (λ k m. m)) in
      let firsts = first_stores us one ns (subst (λ (es : List Equation). Once (stored_keys es)) w r.once) mine in
      let all : (n k : ℕ) → Setting n → k ∈ stored_names ds → k ∈ keys_inside ns
      → records_for n (slot k) (program us q) ≡ records_for n (slot k) (row_recs ds group) =
      λ n k c m t.
      for_stored n k c m o r (inl (rw (w, group_assigned ns) t))
      ∙ ap (λ (es : List Equation). records_for n (slot k) (row_recs ds es)) w in (
        subst (λ (z : List Rec). StandsIn z (program us q)) (ap (row_recs ds) w ∙ same) r.stands,
        every_map _ _ ns
            (λ (n : Inner) t.
            let k = n.key in
            let s = slot k in
            let at : (m : ℕ) → Setting m → records_for m s (program us q) ≡ records_for m s (row_recs ds group) =
            λ m c. all m k c t.0 t.1.1 in
            let none : (m : ℕ) → Setting m → (kind_store ≡ m → ⊥) → (kind_again ≡ m → ⊥)
            → records_for m s (program us q) ≡ [] =
            λ m c a b. at m c ∙ block_none us one m s c a b ns in (
              record {
                fixed = none kind_constant sets_constant (λ e. omega arith) (λ e. omega arith);
                initials = none kind_initial sets_initial (λ e. omega arith) (λ e. omega arith);
                stores = at kind_store sets_store ∙ ap (records_for kind_store s) same;
                derivatives = none kind_rate sets_rate (λ e. omega arith) (λ e. omega arith);
                stores_again = at kind_again sets_again ∙ ap (records_for kind_again s) same;
              },
              first_recorded n ns n.sets (at kind_store sets_store) t.1.0,
            ))
            (every_both _ _ ns h (every_both _ _ ns firsts inside)),
      )

  -- ---- EACH UNIT has its records, each exactly once
  abbrev Recorded : ℕ → UnitBody → Type 0
  Recorded l x =
      Asked (ConstantRecorded slot (program us q)) (AssignmentRecorded slot (program us q))
      (StateRecorded slot (Resolves us) (program us q)) (BlockRecorded slot (program us q)) l x

  -- what is known of it: its names, its definitions, what it runs, its initial
  abbrev Named : ℕ → UnitBody → Type 0
  Named l x =
      Asked (λ l c. c.key ∈ constant_keys ds) (λ l k e. k ∈ stored_names ds) (λ l k i e. k ∈ state_names ds)
      (Every (λ (n : Inner). n.key ∈ stored_names ds)) l x

  abbrev DefinedAlone : ℕ → UnitBody → Type 0
  DefinedAlone l x =
      Asked (λ l c. Alone (defined l c.key (constant c.worth))) (λ l k e. Unit {0})
      (λ l k i e. Alone (defined l k (integral i))) (λ ns. Unit {0}) l x

  abbrev Resolved : ℕ → UnitBody → Type 0
  Resolved l x =
      Asked (λ l c. Unit {0}) (λ l k e. Unit {0}) (λ l k i e. Resolves us i (initial_value ds i)) (λ ns. Unit {0}) l x

  unit_recorded : (l : ℕ) (x : UnitBody) → Named l x → DefinedAlone l x → Every RowAlone (order_unit_of l x)
      → Resolved l x
      → Recorded l x
  unit_recorded l (single (constants cs)) n a r v =
      every_map _ _ cs (λ (c : Constant) t. constant_recorded l c t.0 t.1) (every_both _ _ cs n a)
  unit_recorded l (single (assignment k e)) n a r v = assignment_recorded l k e _ refl r.0 n
  unit_recorded l (single (state k i e)) n a r v = state_recorded l k i e _ refl r.0 a v
  unit_recorded l (block os is ns z) n a r v = block_recorded ns _ refl r.0 n

  pub each_recorded : EachResolved us
      → EachAsked (ConstantRecorded slot (program us q)) (AssignmentRecorded slot (program us q))
      (StateRecorded slot (Resolves us) (program us q)) (BlockRecorded slot (program us q)) us
  each_recorded resolved =
      let rows = every_parts RowAlone (λ (u : TextUnit). order_unit_of u.line u.body) us rows_alone in
      every_map _ _ us
      (λ u t. unit_recorded u.line u.body t.0 t.1.0 t.1.1.0 t.1.1.1)
      (every_both _ _ us (each_name us sound)
      (every_both _ _ us (alone_defined Alone us all_alone) (every_both _ _ us rows resolved)))
