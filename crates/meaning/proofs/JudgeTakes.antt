-- The judge takes the program of every good order.
use Prim.Native.Nat.{ℕ, ◌+◌, ◌≤◌, ◌<◌}
use mathlib.Core.Path.{◌≡◌, refl, sym, ap, ◌∙◌}
use mathlib.Core.Logic.{inl, inr, ⊎_elim}
use mathlib.Core.List.{List, [], ◌∷◌, ◌++◌, append_assoc, append-nil}
use native.Mathlib.Omega.{arith}
use borrow.Author.Tests.{eq-eqb}
use lib.ListN.{length, get_or, set, length-set, replicate, length-replicate, get_or-replicate, get_or-eq_default}
use lib.Seq.{get_or-set_same, get_or-set_other}
use Rattle.limits.specs.Limits.{slots, stack_places, most_definitions}
use Rattle.laws.specs.Lists.{concat_map}
use Rattle.laws.specs.Every.{Every}
use Rattle.laws.specs.Counts.{count, ◌∈◌}
use Rattle.laws.proofs.Every.{every_part}
use Rattle.laws.proofs.Tests.{eq_or_ne, lt_or_ge}
use Rattle.laws.proofs.Counts.{once_same, once_other}
use Rattle.drafts.specs.Tree.{names}
use Rattle.drafts.specs.Items.{peak}
use Rattle.blocks.specs.Units.{Target, stores, restores, rates, Equation, TextUnit}
use Rattle.blocks.specs.Sound.{UnitsSound}
use Rattle.order.proofs.Sorting.{perm_below}
use Rattle.model.specs.Definitions.{Def, definitions, keys, slot_in, unit_at, unit_count}
use Rattle.model.specs.Faults.{constant_keys, outside_keys, uses_in, GoodOrder}
use Rattle.model.proofs.KeyPlaces.{Once}
use Rattle.model.proofs.UnitKeys.{rated_key, rated_keys, rated_by}
use Rattle.records.specs.declared.Instr.TheVariants.{Store, Deriv, StoreAgain}
use Rattle.records.specs.Record.{instrs}
use Rattle.program.specs.Program.{last_instr, program}
use Rattle.evaluator.specs.Judge.{judge₀, answer, judge}
use Rattle.evaluator.proofs.JudgedRows.{judge_at, Leads, leads_append, leads_one, leads_accepted, none_open}
use Rattle.meaning.proofs.Postfix.{steps, AllSet, judge_tree}
use Rattle.meaning.proofs.Settle.{if_assigned, assigned_keys}
use Rattle.meaning.proofs.Runs.{ordered_runs, constant_part, initial_part, row_recs, row_first, program_parts}
use Rattle.meaning.proofs.Owned.{stored_names, state_names, count_names, at_most, runs_at, rated_in_all, own_slot}
use Rattle.meaning.proofs.Owned.{slot_mine}
use Rattle.meaning.proofs.Settings.{Passes, passes_none, passes_append, marks_on, marks_long, marks_other}
use Rattle.meaning.proofs.Settings.{marks_same, marks_either}
use Rattle.meaning.proofs.Settings.{Open, pass_constants, pass_initials}
use Rattle.meaning.proofs.Ready.{assigned_next, rated_next, IsSet, InTurn, Ready, order_ready}

-- the mark of a slot behind its equation
abbrev mark_of : Target → List ℕ → ℕ → List ℕ
mark_of stores l s = set l s 4
mark_of restores l s = l
mark_of rates l s = set l s 3

module _ (us : List TextUnit) (one : Once (keys (definitions us)))
    (few : length (definitions us) ≤ most_definitions) where
  abbrev ds : List Def
  ds = definitions us

  abbrev slot : ℕ → ℕ
  slot = slot_in ds

  -- the marks l behind the constants, the initials and the row es
  record Stand (es : List Equation) (l : List ℕ) : Type 0 where
    long : length l ≡ slots
    time : get_or l 0 0 ≡ 1
    fixed : (k : ℕ) → k ∈ constant_keys ds → get_or l (slot k) 0 ≡ 1
    stored : (k : ℕ) → k ∈ stored_names ds → k ∈ assigned_keys es → get_or l (slot k) 0 ≡ 4
    unset : (k : ℕ) → k ∈ stored_names ds → count k (assigned_keys es) ≡ 0 → get_or l (slot k) 0 ≡ 0
    rated : (k : ℕ) → k ∈ state_names ds → k ∈ rated_keys es → get_or l (slot k) 0 ≡ 3
    unrated : (k : ℕ) → k ∈ state_names ds → count k (rated_keys es) ≡ 0 → get_or l (slot k) 0 ≡ 2
    other : (p : ℕ) → get_or l p 0 ≡ 2 → (k : ℕ) × (k ∈ state_names ds) × (slot k ≡ p)

  -- a constant, a stored name and a state are defined
  constant_mine : (k : ℕ) → k ∈ constant_keys ds → k ∈ keys ds
  constant_mine k h = omega (arith, count_names k ds)

  stored_mine : (k : ℕ) → k ∈ stored_names ds → k ∈ keys ds
  stored_mine k h = omega (arith, count_names k ds)

  state_mine : (k : ℕ) → k ∈ state_names ds → k ∈ keys ds
  state_mine k h = omega (arith, count_names k ds)

  -- ---- one equation behind the row es
  module _ (es : List Equation) (l : List ℕ) (t : Stand es l) where
    -- all that it reads is set
    reads : (e : Equation) → ((k : ℕ) → k ∈ names e.tree → IsSet ds es k) → AllSet slot l e.tree
    reads e h = (λ z. omega (arith, t.time), λ k n z. by k z (h k n))
      where
        by : (k : ℕ) → get_or l (slot k) 0 ≡ 0 → IsSet ds es k → ⊥
        by k z (inl c) = omega (arith, t.fixed k c)
        by k z (inr (inl s)) =
            ⊎_elim (λ m. omega (arith, t.rated k s m)) (λ m. omega (arith, t.unrated k s (omega arith)))
            (lt_or_ge 0 (count k (rated_keys es)))
        by k z (inr (inr s)) = omega (arith, t.stored k s.0 s.1)

    -- a place for a defined name
    room : (k : ℕ) → k ∈ keys ds → slot k < length l
    room k h = omega (arith, slot_mine us one k h, t.long)

    -- the judge takes its last record
    pass_last : (k : ℕ) (w : Target) → InTurn ds es k w
        → Leads (judge_at 3 1 l) (last_instr ds w (slot k) ∷ []) (judge_at 3 0 (mark_of w l (slot k)))
    pass_last k stores i =
        leads_one (judge_at 3 1 l) (Store (slot k)) (omega arith) (omega arith) (omega arith)
        (eq-eqb _ 0 (t.unset k i.0 i.1))
    pass_last k restores i =
        leads_one (judge_at 3 1 l) (StoreAgain (slot k)) (omega arith) (omega arith) (omega arith)
        (eq-eqb _ 4 (t.stored k i.0 i.1))
    pass_last k rates i =
        leads_one (judge_at 3 1 l) (Deriv (slot k)) (omega arith) (omega arith) (omega arith)
        (eq-eqb _ 2 (t.unrated k i.0 i.1))

    -- ---- what the marks are then
    module _ (k x : ℕ) (h : k ∈ keys ds) where
      -- the mark of another name stays
      marks_kept : (j : ℕ) → (j ≡ k → ⊥) → get_or (set l (slot k) x) (slot j) 0 ≡ get_or l (slot j) 0
      marks_kept j n = get_or-set_other l (slot k) (slot j) x 0 (λ e. n (own_slot us one j k h e))

      -- that of the name is x
      mark_now : (j : ℕ) → j ≡ k → get_or (set l (slot k) x) (slot j) 0 ≡ x
      mark_now j e = rw e (get_or-set_same l (slot k) x 0 (room k h))

      -- only a state's slot has the mark 2
      two_kept : (x ≡ 2 → ⊥) → (p : ℕ) → get_or (set l (slot k) x) p 0 ≡ 2
          → (j : ℕ) × (j ∈ state_names ds) × (slot j ≡ p)
      two_kept n p e =
          ⊎_elim
          (λ (z : p ≡ slot k). absurd (n (sym (get_or-set_same l (slot k) x 0 (room k h)) ∙ (rw z at e))))
          (λ z. t.other p (sym (get_or-set_other l (slot k) p x 0 z) ∙ e)) (eq_or_ne p (slot k))

    -- the row es' has one equation more, by which k is set
    stand_next : (es' : List Equation) (k : ℕ) (w : Target)
        → ((j : ℕ) → count j (assigned_keys es') ≡ count j (assigned_keys es) + count j (if_assigned w k))
        → ((j : ℕ) → count j (rated_keys es') ≡ count j (rated_keys es) + count j (rated_key w k))
        → InTurn ds es k w
        → Stand es' (mark_of w l (slot k))
    unfolding count
    stand_next es' k stores next next_rate i =
        let h = stored_mine k i.0 in
        record {
          long = length-set l (slot k) 4 ∙ t.long;
          time = get_or-set_other l (slot k) 0 4 0 (λ e. omega arith) ∙ t.time;
          fixed = λ j m. marks_kept k 4 h j (λ z. omega (arith, rw z at m, one k, count_names k ds, i.0))
              ∙ t.fixed j m;
          stored =
              λ j m s.
              ⊎_elim (mark_now k 4 h j)
              (λ n. marks_kept k 4 h j n ∙ t.stored j m (omega (arith, next j, once_other j k n))) (eq_or_ne j k);
          unset =
              λ j m s.
              marks_kept k 4 h j (λ (z : j ≡ k). omega (arith, rw z at (next j), rw z at s, once_same k))
              ∙ t.unset j m (omega (arith, next j));
          rated =
              λ j m s.
              marks_kept k 4 h j (λ z. omega (arith, rw z at m, one k, count_names k ds, i.0))
              ∙ t.rated j m (omega (arith, next_rate j));
          unrated =
              λ j m s.
              marks_kept k 4 h j (λ z. omega (arith, rw z at m, one k, count_names k ds, i.0))
              ∙ t.unrated j m (omega (arith, next_rate j));
          other = two_kept k 4 h (λ z. omega arith);
        }
    stand_next es' k restores next next_rate i =
        record {
          long = t.long;
          time = t.time;
          fixed = t.fixed;
          stored =
              λ j m s.
              ⊎_elim (λ (z : j ≡ k). t.stored j m (rw z i.1))
              (λ n. t.stored j m (omega (arith, next j, once_other j k n))) (eq_or_ne j k);
          unset = λ j m s. t.unset j m (omega (arith, next j));
          rated = λ j m s. t.rated j m (omega (arith, next_rate j));
          unrated = λ j m s. t.unrated j m (omega (arith, next_rate j));
          other = t.other;
        }
    stand_next es' k rates next next_rate i =
        let h = state_mine k i.0 in
        record {
          long = length-set l (slot k) 3 ∙ t.long;
          time = get_or-set_other l (slot k) 0 3 0 (λ e. omega arith) ∙ t.time;
          fixed = λ j m. marks_kept k 3 h j (λ z. omega (arith, rw z at m, one k, count_names k ds, i.0))
              ∙ t.fixed j m;
          stored =
              λ j m s.
              marks_kept k 3 h j (λ z. omega (arith, rw z at m, one k, count_names k ds, i.0))
              ∙ t.stored j m (omega (arith, next j));
          unset =
              λ j m s.
              marks_kept k 3 h j (λ z. omega (arith, rw z at m, one k, count_names k ds, i.0))
              ∙ t.unset j m (omega (arith, next j));
          rated =
              λ j m s.
              ⊎_elim (mark_now k 3 h j)
              (λ n. marks_kept k 3 h j n ∙ t.rated j m (omega (arith, next_rate j, once_other j k n))) (eq_or_ne j k);
          unrated =
              λ j m s.
              marks_kept k 3 h j (λ (z : j ≡ k). omega (arith, rw z at (next_rate j), rw z at s, once_same k))
              ∙ t.unrated j m (omega (arith, next_rate j));
          other = two_kept k 3 h (λ z. omega arith);
        }

  -- A ROW that is ready, one equation after the other
  pass_row : (es r : List Equation) (l : List ℕ) → Ready ds es r
      → Every (λ (e : Equation). peak e.tree ≤ stack_places) r
      → Stand es l
      → (l' : List ℕ) × Stand (es ++ r) l' × Passes 3 l (instrs (row_recs ds r)) l'
  unfolding concat_map
  pass_row es [] l a low t = (l, rw (append-nil es) t, passes_none 3 l)
  pass_row es (e ∷ r) l a low t =
      let last = last_instr ds e.target (slot e.key) in
      let own = steps slot e.tree in
      let l₁ : List ℕ = mark_of e.target l (slot e.key) in
      let R = instrs (row_recs ds r) in
      let rest = pass_row (es ++ (e ∷ [])) r l₁ a.2 low.1
      (stand_next es l t (es ++ (e ∷ [])) e.key e.target (λ j. assigned_next j es e) (λ j. rated_next j es e)
      a.1) in
      let one_equation : Passes 3 l (own ++ (last ∷ [])) l₁ =
      λ p h.
      let tree = judge_tree slot e.tree p 0 l (reads es l t e a.0) (omega (arith, low.0)) h in (
        3,
        omega arith,
        leads_append (judge_at p 0 l) (judge_at 3 1 l) (judge_at 3 0 l₁) own (last ∷ []) tree
            (pass_last es l t e.key e.target a.1),
      ) in
      let w : own ++ (last ∷ R) ≡ (own ++ (last ∷ [])) ++ R = sym (append_assoc own (last ∷ []) R) in (
        rest.0,
        rw (append_assoc es (e ∷ []) r) at rest.1,
        rw (row_first ds e r, w) (passes_append 3 l l₁ rest.0 (own ++ (last ∷ [])) R one_equation rest.2),
      )

  -- ---- from the start: slot 0 is set, and no other
  abbrev l₀ : List ℕ
  l₀ = judge₀.marks

  -- one for each slot
  long : length l₀ ≡ slots
  long = length-set {A = ℕ} (replicate slots 0) 0 1 ∙ length-replicate {A = ℕ} slots 0

  -- that of no other slot is set
  clear : (p : ℕ) → 0 < p → p < slots → get_or l₀ p 0 ≡ 0
  clear p a b =
      get_or-set_other {A = ℕ} (replicate slots 0) 0 p 1 0 (λ e. omega arith) ∙ get_or-replicate {A = ℕ} slots p 0 0 b

  -- that of slot 0 is
  set_first : get_or l₀ 0 0 ≡ 1
  set_first = get_or-set_same {A = ℕ} (replicate slots 0) 0 1 0 (rw (length-replicate {A = ℕ} slots 0) (omega arith))

  -- no mark is 2
  not_two : (p : ℕ) → get_or l₀ p 0 ≡ 2 → ⊥
  not_two p e =
      ⊎_elim
      (λ (z : p < slots).
      ⊎_elim (λ y. omega (arith, clear p y z))
      (λ (y : p ≤ 0). let w : p ≡ 0 = omega arith in omega (arith, set_first, rw w at e)) (lt_or_ge 0 p))
      (λ z. omega (arith, get_or-eq_default l₀ 0 {n = p} (omega (arith, long)))) (lt_or_ge p slots)

  -- the slot of a definition is not set
  free : (k : ℕ) → k ∈ keys ds → get_or l₀ (slot k) 0 ≡ 0
  free k h = clear (slot k) (omega arith) (omega (arith, slot_mine us one k h))

  -- so the constants can be set
  open_constants : Open ds (constant_keys ds) l₀
  open_constants =
      record {
        once = λ k. omega (arith, one k, count_names k ds);
        mine = constant_mine;
        none = λ k h. free k (constant_mine k h);
      }

  -- ---- behind the constants
  abbrev l₁ : List ℕ
  l₁ = marks_on slot 1 (constant_keys ds) l₀

  -- the slot of a name that is no constant is not set yet
  still_free : (k : ℕ) → k ∈ keys ds → count k (constant_keys ds) ≡ 0 → get_or l₁ (slot k) 0 ≡ 0
  still_free k h n =
      marks_other slot 1 (constant_keys ds) l₀ (slot k)
      (λ j m e. let m' : k ∈ constant_keys ds = rw (own_slot us one j k h e) at m in omega arith)
      ∙ free k h

  -- a state and a stored name are no constants
  state_free : (k : ℕ) → k ∈ state_names ds → get_or l₁ (slot k) 0 ≡ 0
  state_free k h = still_free k (state_mine k h) (omega (arith, one k, count_names k ds))

  stored_free : (k : ℕ) → k ∈ stored_names ds → get_or l₁ (slot k) 0 ≡ 0
  stored_free k h = still_free k (stored_mine k h) (omega (arith, one k, count_names k ds))

  -- so the states can be set
  open_initials : Open ds (state_names ds) l₁
  open_initials =
      record {
        once = λ k. omega (arith, one k, count_names k ds);
        mine = state_mine;
        none = state_free;
      }

  -- ---- behind the initials
  abbrev l₂ : List ℕ
  l₂ = marks_on slot 2 (state_names ds) l₁

  -- there are as many marks
  long_first : length l₁ ≡ slots
  long_first = marks_long slot 1 (constant_keys ds) l₀ ∙ long

  -- a constant's slot has the mark 1
  fixed_first : (k : ℕ) → k ∈ constant_keys ds → get_or l₁ (slot k) 0 ≡ 1
  fixed_first k h =
      marks_same slot 1 (constant_keys ds) l₀ k h (omega (arith, slot_mine us one k (constant_mine k h), long))

  -- the initials change the marks of states alone
  not_state : (k : ℕ) → k ∈ keys ds → count k (state_names ds) ≡ 0 → get_or l₂ (slot k) 0 ≡ get_or l₁ (slot k) 0
  not_state k h n =
      marks_other slot 2 (state_names ds) l₁ (slot k)
      (λ j m e. let m' : k ∈ state_names ds = rw (own_slot us one j k h e) at m in omega arith)

  -- only a state's slot has the mark 2
  two_first : (p : ℕ) → get_or l₂ p 0 ≡ 2 → (k : ℕ) × (k ∈ state_names ds) × (slot k ≡ p)
  two_first p e =
      ⊎_elim (λ z. z)
      (λ z.
      ⊎_elim
      (λ (y : (k : ℕ) × (k ∈ constant_keys ds) × (slot k ≡ p)). absurd
      (let w = rw y.2 at (fixed_first y.0 y.1) in omega (arith, z, w, e)))
      (λ y. absurd (not_two p (sym y ∙ sym z ∙ e))) (marks_either slot 1 (constant_keys ds) l₀ p))
      (marks_either slot 2 (state_names ds) l₁ p)

  -- no equation is placed yet
  stand : Stand [] l₂
  unfolding concat_map count
  stand =
      record {
        long = marks_long slot 2 (state_names ds) l₁ ∙ long_first;
        time =
            marks_other slot 2 (state_names ds) l₁ 0 (λ k h e. omega arith)
            ∙ marks_other slot 1 (constant_keys ds) l₀ 0 (λ k h e. omega arith)
            ∙ set_first;
        fixed = λ k h. not_state k (constant_mine k h) (omega (arith, one k, count_names k ds)) ∙ fixed_first k h;
        stored = λ k h m. absurd (omega arith);
        unset = λ k h m. not_state k (stored_mine k h) (omega (arith, one k, count_names k ds)) ∙ stored_free k h;
        rated = λ k h m. absurd (omega arith);
        unrated =
            λ k h m.
            marks_same slot 2 (state_names ds) l₁ k h (omega (arith, slot_mine us one k (state_mine k h), long_first));
        other = two_first;
      }

  module _ (sound : UnitsSound us)
      (known : (i : ℕ) → i < unit_count us → (k : ℕ) → k ∈ (unit_at us i).reads → k ∈ outside_keys ds)
      (low : (i : ℕ) → Every (λ (e : Equation). peak e.tree ≤ stack_places) (unit_at us i).runs) where
    -- at the end each state has its derivative
    closed : (q : List ℕ) → GoodOrder us q → (l : List ℕ) → Stand (ordered_runs us q) l → (p : ℕ) → get_or l p 0 ≡ 2 → ⊥
    closed q g l t p e =
        let r = t.other p e in
        let u = rated_by us r.0 r.1 in
        let m = rated_in_all us q u.0 r.0 (omega (arith, g.perm.within u.0 u.1)) u.2 in
        let three : get_or l p 0 ≡ 3 = rw r.2 at (t.rated r.0 r.1 m) in
        omega arith

    -- THE PROGRAM of a good order is accepted
    pub takes_program : (q : List ℕ) → GoodOrder us q → judge (instrs (program us q)) ≡ answer 0 0
    unfolding concat_map
    takes_program q g =
        let C = instrs (constant_part ds ds) in
        let I = instrs (initial_part ds ds) in
        let Q = instrs (row_recs ds (ordered_runs us q)) in
        let a = pass_constants ds ds l₀ open_constants 1 (omega arith) in
        let b = pass_initials ds ds l₁ open_initials a.0 (omega (arith, a.1)) in
        let ready = order_ready us sound one known [] q g.after (at_most us q g)
        (perm_below (unit_count us) (uses_in us) q g.perm) in
        let o = pass_row [] (ordered_runs us q) l₂ ready (every_part _ (runs_at us) low q) stand in
        let c = o.2 b.0 (omega (arith, b.1)) in
        let end = judge_at c.0 0 o.0 in
        let later = leads_append (judge_at a.0 0 l₁) (judge_at b.0 0 l₂) end I Q b.2 c.2 in
        let all = leads_append (judge_at 1 0 l₀) (judge_at a.0 0 l₁) end C (I ++ Q) a.2 later in
        ap judge (program_parts us q)
        ∙ leads_accepted 0 (judge_at 1 0 l₀) end (C ++ (I ++ Q)) all refl
        (none_open o.0 (λ p _ e. closed q g o.0 o.1 p e))
