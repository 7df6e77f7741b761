-- What is done for each state of a program, one after the other: a slot is set from what it held and its initial value,
-- and nothing else changes. So it is with starting and with a step.
use Prim.Native.Nat.{ℕ, zero, suc, ◌≤◌, ◌<◌}
use mathlib.Core.Path.{◌≡◌, refl, sym, ap, subst, ◌∙◌}
use mathlib.Core.Bool.{true}
use mathlib.Core.Logic.{◌⊎◌, ⊎_elim}
use mathlib.Core.List.{List, [], ◌∷◌, ◌++◌}
use native.Mathlib.Omega.{arith}
use lib.ListN.{length, get_or, set, length-set}
use lib.Seq.{get_or-set_same, get_or-set_other}
use lib.Ieee.{Float, nan}
use Rattle.limits.specs.Limits.{slots, most_definitions}
use Rattle.laws.specs.Lists.{concat_map}
use Rattle.laws.specs.Every.{Every}
use Rattle.laws.specs.Counts.{◌∈◌}
use Rattle.laws.proofs.Tests.{not_both}
use Rattle.drafts.specs.Tree.{Two, plus, minus, times, over, compar, Three, insw, limit, Tree, value, named, time}
use Rattle.drafts.specs.Tree.{negated, two, three}
use Rattle.blocks.specs.Units.{Target, stores, restores, rates, Equation, TextUnit}
use Rattle.model.specs.Definitions.{What, constant, assigned, hidden, integral, Def, definitions, keys, slot_in}
use Rattle.model.proofs.KeyPlaces.{Once, no_def}
use Rattle.records.specs.declared.Instr.{Instr}
use Rattle.records.specs.Record.{instrs}
use Rattle.program.specs.Program.{instr_two, instr_three, initial_value, constant_recs, initial_recs, last_instr}
use Rattle.program.specs.Program.{program}
use Rattle.records.specs.Shape.{shape_of}
use Rattle.evaluator.specs.Evaluate.{if_initial, each_state}
use Rattle.meaning.proofs.Postfix.{steps}
use Rattle.meaning.proofs.Rows.{every_of, every_places}
use Rattle.meaning.proofs.Owned.{is_stored, stored_names, stored_def, slot_at_holds}
use Rattle.meaning.proofs.Runs.{instrs_append, ordered_runs, constant_part, initial_part, row_recs, row_first}
use Rattle.meaning.proofs.Runs.{program_parts}

-- `to` gives what a slot gets, from what it holds, the slot and its initial value
module _ (to : Float → ℕ → Float → Float) where
  -- one state
  abbrev one : List Float → ℕ → Float → List Float
  one v s x = set v s (to (get_or v s nan) s x)

  -- all states of these instructions
  abbrev all : List Float → List Instr → List Float
  all v xs = each_state one v xs

  -- one record
  abbrev at_record : List Float → Instr → List Float
  at_record v x = if_initial (one v) v (shape_of x)

  -- one list after another
  pub all_append : (v : List Float) (x y : List Instr) → all v (x ++ y) ≡ all (all v x) y
  unfolding each_state
  all_append v [] y = refl
  all_append v (a ∷ x) y = all_append (at_record v a) x y

  -- ---- only initials set anything: not operations
  all_two : (o : Two) (v : List Float) → at_record v (instr_two o) ≡ v
  all_two plus v = refl
  all_two minus v = refl
  all_two times v = refl
  all_two over v = refl
  all_two compar v = refl

  -- on three values
  all_three : (o : Three) (v : List Float) → at_record v (instr_three o) ≡ v
  all_three insw v = refl
  all_three limit v = refl

  -- not expressions
  all_tree : (slot : ℕ → ℕ) (e : Tree) (v : List Float) → all v (steps slot e) ≡ v
  unfolding steps each_state
  all_tree slot (value x) v = refl
  all_tree slot (named k) v = refl
  all_tree slot time v = refl
  all_tree slot (negated a) v = rw (all_append v (steps slot a), all_tree slot a v)
  all_tree slot (two o a b) v =
      rw (all_append v (steps slot a), all_tree slot a v, all_append v (steps slot b), all_tree slot b v)
      (all_two o v)
  all_tree slot (three o a b c) v =
      rw (all_append v (steps slot a), all_tree slot a v, all_append v (steps slot b), all_tree slot b v)
      (rw (all_append v (steps slot c), all_tree slot c v) (all_three o v))

  module _ (ds : List Def) where
    abbrev slot : ℕ → ℕ
    slot = slot_in ds

    -- not the last record of an equation
    all_last : (t : Target) (s : ℕ) (v : List Float) → at_record v (last_instr ds t s) ≡ v
    all_last stores s v = refl
    all_last restores s v = refl
    all_last rates s v = refl

    -- so no equation
    all_row : (es : List Equation) (v : List Float) → all v (instrs (row_recs ds es)) ≡ v
    unfolding concat_map each_state
    all_row [] v = refl
    all_row (e ∷ es) v =
        let R = instrs (row_recs ds es) in
        let last = last_instr ds e.target (slot e.key) in
        ap (all v) (row_first ds e es)
        ∙ all_append v (steps slot e.tree) (last ∷ R)
        ∙ ap (λ (z : List Float). all z (last ∷ R)) (all_tree slot e.tree v)
        ∙ ap (λ (z : List Float). all z R) (all_last e.target (slot e.key) v)
        ∙ all_row es v

    -- and no constant
    all_constants : (es : List Def) (v : List Float) → all v (instrs (constant_part ds es)) ≡ v
    unfolding concat_map each_state
    all_constants [] v = refl
    all_constants (a ∷ es) v =
        rw (
          instrs_append (constant_recs ds a a.what) (constant_part ds es),
          all_append v (instrs (constant_recs ds a a.what)),
          by a.what,
        )
        (all_constants es v)
      where
        by : (w : What) → all v (instrs (constant_recs ds a w)) ≡ v
        by (constant x) = refl
        by assigned = refl
        by hidden = refl
        by (integral i) = refl

    -- ---- the initials

    -- what one definition sets
    abbrev put : ℕ → What → List Float → List Float
    put s (constant x) v = v
    put s assigned v = v
    put s hidden v = v
    put s (integral i) v = one v s (initial_value ds i)

    -- what its slot holds then
    abbrev held : ℕ → What → List Float → Float
    held s (constant x) v = get_or v s nan
    held s assigned v = get_or v s nan
    held s hidden v = get_or v s nan
    held s (integral i) v = to (get_or v s nan) s (initial_value ds i)

    -- it holds that
    put_own : (s : ℕ) (w : What) (v : List Float) → s < length v → get_or (put s w v) s nan ≡ held s w v
    put_own s (constant x) v h = refl
    put_own s assigned v h = refl
    put_own s hidden v h = refl
    put_own s (integral i) v h = get_or-set_same v s (to (get_or v s nan) s (initial_value ds i)) nan h

    -- another slot keeps its value
    put_other : (s p : ℕ) (w : What) (v : List Float) → (s ≡ p → ⊥) → get_or (put s w v) p nan ≡ get_or v p nan
    put_other s p (constant x) v h = refl
    put_other s p assigned v h = refl
    put_other s p hidden v h = refl
    put_other s p (integral i) v h = get_or-set_other v s p (to (get_or v s nan) s (initial_value ds i)) nan
        (λ e. h (sym e))

    -- as many values as before
    put_long : (s : ℕ) (w : What) (v : List Float) → length (put s w v) ≡ length v
    put_long s (constant x) v = refl
    put_long s assigned v = refl
    put_long s hidden v = refl
    put_long s (integral i) v = length-set v s (to (get_or v s nan) s (initial_value ds i))

    -- that does not depend on other places
    held_same : (s : ℕ) (w : What) (u v : List Float) → get_or u s nan ≡ get_or v s nan → held s w u ≡ held s w v
    held_same s (constant x) u v e = e
    held_same s assigned u v e = e
    held_same s hidden u v e = e
    held_same s (integral i) u v e = ap (λ (a : Float). to a s (initial_value ds i)) e

    -- the values after the initials of these definitions
    abbrev after : List Def → List Float → List Float
    after es v = all v (instrs (initial_part ds es))

    -- the first and the others
    after_first : (a : Def) (es : List Def) (v : List Float)
        → after (a ∷ es) v ≡ after es (put (slot a.key) a.what v)
    unfolding concat_map each_state
    after_first a es v = rw (instrs_append (initial_recs ds a a.what) (initial_part ds es)) (by a.what)
      where
        by : (w : What) → all v (instrs (initial_recs ds a w) ++ instrs (initial_part ds es))
            ≡ after es (put (slot a.key) w v)
        by (constant x) = refl
        by assigned = refl
        by hidden = refl
        by (integral i) = refl

    -- as many values as before
    after_long : (es : List Def) (v : List Float) → length (after es v) ≡ length v
    unfolding concat_map each_state
    after_long [] v = refl
    after_long (a ∷ es) v = ap length (after_first a es v) ∙ after_long es (put (slot a.key) a.what v)
        ∙ put_long (slot a.key) a.what v

    -- the definition at place j, and its slot
    abbrev def_at : List Def → ℕ → Def
    def_at es j = get_or es j no_def

    abbrev slot_at : List Def → ℕ → ℕ
    slot_at es j = slot (def_at es j).key

    -- a place that is none of their slots stays
    after_other : (es : List Def) (v : List Float) (p : ℕ) → ((j : ℕ) → j < length es → slot_at es j ≡ p → ⊥)
        → get_or (after es v) p nan ≡ get_or v p nan
    unfolding concat_map each_state
    after_other [] v p h = refl
    after_other (a ∷ es) v p h =
        ap (λ (z : List Float). get_or z p nan) (after_first a es v)
        ∙ after_other es (put (slot a.key) a.what v) p (λ j m. h (suc j) (omega arith))
        ∙ put_other (slot a.key) p a.what v (h 0 (omega arith))

    -- the slot of definition i holds what it sets, if no other has it
    after_own : (es : List Def) (v : List Float) (i : ℕ) → i < length es
        → ((j : ℕ) → j < length es → (j ≡ i → ⊥) → slot_at es j ≡ slot_at es i → ⊥) → slot_at es i < length v
        → get_or (after es v) (slot_at es i) nan ≡ held (slot_at es i) (def_at es i).what v
    after_own [] v i m h l = absurd (omega arith)
    after_own (a ∷ es) v zero m h l =
        let s = slot a.key in
        ap (λ (z : List Float). get_or z s nan) (after_first a es v)
        ∙ after_other es (put s a.what v) s (λ j n. h (suc j) (omega arith) (λ e. omega arith))
        ∙ put_own s a.what v l
    after_own (a ∷ es) v (suc i) m h l =
        let s = slot_at es i in
        let v' = put (slot a.key) a.what v in
        ap (λ (z : List Float). get_or z s nan) (after_first a es v)
        ∙ after_own es v' i (omega arith) (λ j n e. h (suc j) (omega arith) (λ q. e (omega arith)))
        (rw (put_long (slot a.key) a.what v) l)
        ∙ held_same s (def_at es i).what v' v
        (put_other (slot a.key) s a.what v (h 0 (omega arith) (λ e. omega arith)))

  -- ---- a program in which each name is defined once, with a place for each
  module _ (us : List TextUnit) (once : Once (keys (definitions us))) (few : length (definitions us) ≤ most_definitions)
      (q : List ℕ) (v : List Float) (lv : slots ≤ length v) where
    -- the values after it
    abbrev all_states : List Float
    all_states = all v (instrs (program us q))

    -- the initials are all
    pub all_program : all_states ≡ after (definitions us) (definitions us) v
    all_program =
        let ds = definitions us in
        let C = instrs (constant_part ds ds) in
        let I = instrs (initial_part ds ds) in
        let Q = instrs (row_recs ds (ordered_runs us q)) in
        rw (program_parts us q, all_append v C (I ++ Q), all_constants ds ds v, all_append v I Q)
        (all_row ds (ordered_runs us q) (all v I))

    -- as many values as before
    pub states_long : length all_states ≡ length v
    states_long = ap length all_program ∙ after_long (definitions us) (definitions us) v

    -- TIME and the places behind the last definition stay
    pub states_rest : (p : ℕ) → (p ≡ 0) ⊎ (length (definitions us) < p) → get_or all_states p nan ≡ get_or v p nan
    states_rest p h =
        let ds = definitions us in
        ap (λ (z : List Float). get_or z p nan) all_program
        ∙ after_other ds ds v p (λ j m e. ⊎_elim (λ z. omega arith) (λ z. omega (arith, slot_at_holds us once j m)) h)

    -- the slot of a definition holds what it must
    abbrev pub Holds : Def → Type 0
    Holds a = get_or all_states (slot (definitions us) a.key) nan
        ≡ held (definitions us) (slot (definitions us) a.key) a.what v

    pub states_own : Every Holds (definitions us)
    states_own =
        let ds = definitions us in
        every_places Holds no_def ds
        (λ i h.
        let own = slot_at_holds us once i h in
        let apart : (j : ℕ) → j < length ds → (j ≡ i → ⊥) → slot_at ds ds j ≡ slot_at ds ds i → ⊥ =
        λ j m e z. e (omega (arith, slot_at_holds us once j m, own)) in
        ap (λ (z : List Float). get_or z (slot_at ds ds i) nan) all_program
        ∙ after_own ds ds v i h apart (omega (arith, own)))

    -- so that of a stored name stays
    stays : (s : ℕ) (w : What) → is_stored w ≡ true → held (definitions us) s w v ≡ get_or v s nan
    stays s (constant x) e = absurd (not_both e refl)
    stays s assigned e = refl
    stays s hidden e = refl
    stays s (integral i) e = absurd (not_both e refl)

    pub states_stored : (k : ℕ) → k ∈ stored_names (definitions us)
        → get_or all_states (slot (definitions us) k) nan ≡ get_or v (slot (definitions us) k) nan
    states_stored k h =
        let at = slot (definitions us) in
        let r = stored_def (definitions us) k h in
        let a = r.0 in
        subst (λ (j : ℕ). get_or all_states (at j) nan ≡ get_or v (at j) nan) r.3
        (every_of Holds (definitions us) states_own a r.1 ∙ stays (at a.key) a.what r.2)
