-- Laws of flags: who is ready.
use mathlib.Core.Path.{◌≡◌, refl, sym, ◌∙◌}
use mathlib.Core.Bool.{Bool, true, false, not, ◌||◌}
use mathlib.Core.Logic.{⊎_elim}
use mathlib.Core.List.{List}
use Prim.Native.Nat.{ℕ, ◌+◌, ◌-◌, ◌≤◌, ◌<◌}
use native.Mathlib.Omega.{arith}
use borrow.Author.Tests.{not-true}
use lib.ListN.{length, get_or, set, length-set}
use lib.Seq.{get_or-set_same, get_or-set_other}
use Rattle.std.proofs.lemmas.Grind.{common_steps}
use Rattle.laws.proofs.Tests.{bool_cases, eq_or_ne, and_true, and_both, not_both}
use Rattle.laws.proofs.Members.{in_has}
use Rattle.order.specs.declared.Desk.{Desk}
use Rattle.order.specs.declared.table.Table.{Table}
use Rattle.order.specs.Table.{used_of, uses_by_table, Fit}
use Rattle.order.specs.Marks.{placed_in, NonePlaced, open_at, free_in, ready_in, none, flag, hang, Cursors, Flags}
use Rattle.order.specs.Marks.{MaySettle, Settles}
use Rattle.order.specs.Greedy.{first}
use Rattle.order.proofs.Searches.{first_from}
use Rattle.order.proofs.Tables.{in_part}
use Rattle.order.proofs.Sorting.{all_true, all_intro, first_hit}
use Rattle.order.proofs.Marking.{ready_placed, ready_unplaced, free_not, goal_used, goal_end, goal_moves}

-- ---- one more mark
module _ (n : ℕ) (s u : List ℕ) (m : List Bool) (j : ℕ) (lm : j < length m) where
  -- who was placed is
  placed_more : (x : ℕ) → placed_in m x ≡ true → placed_in (set m j true) x ≡ true
  placed_more x h = grind (arith, common_steps)

  -- who was ready is, but for j
  ready_more : (i : ℕ) → (i ≡ j → ⊥) → ready_in n s u m i ≡ true → ready_in n s u (set m j true) i ≡ true
  unfolding ready_in
  ready_more i e h =
      let b = and_true (not (placed_in m i)) (free_in n s u m i) h in
      and_both (not (placed_in (set m j true) i)) (free_in n s u (set m j true) i)
      (rw (get_or-set_other m j i true false e) b.0)
      (all_intro n (λ x. not (uses_by_table s u i x) || placed_in (set m j true) x)
      (λ x l. more (uses_by_table s u i x) (placed_in m x) (placed_more x)
      (all_true n (λ y. not (uses_by_table s u i y) || placed_in m y) b.1 x l)))
    where
      more : (a b : Bool) {c : Bool} → (b ≡ true → c ≡ true) → (not a || b) ≡ true → (not a || c) ≡ true
      more true b f z = f z
      more false b f z = refl

module _ {n : ℕ} {s u : List ℕ} {m f : List Bool} {v : List ℕ} (t : Fit n s u) where
  -- where nobody waits for p, the flags say who is ready
  pub flags_tell : {p : ℕ} → Flags n n s u m f v p → ((i : ℕ) → i < n → get_or v i 0 < n → get_or v i 0 ≡ p → ⊥)
      → (i : ℕ) → i < n → flag f i ≡ ready_in n s u m i
  flags_tell g free i hi =
      ⊎_elim (λ (a : flag f i ≡ true). a ∙ sym (g.flagged i hi a).0)
      (λ a.
      a
      ∙ sym
      (⊎_elim (λ (b : placed_in m i ≡ true). ready_placed n s u m i b) (λ b. held b a) (bool_cases (placed_in m i))))
      (bool_cases (flag f i))
    where
      held : placed_in m i ≡ false → flag f i ≡ false → ready_in n s u m i ≡ false
      held a b =
          let w = g.blocked i hi a b in
          ready_unplaced n s u m i a ∙ free_not n s u m i (get_or v i 0) w.1 w.0 (w.2 (free i hi w.0))

  -- then p is none
  pub flags_none : {p : ℕ} → Flags n n s u m f v p → ((i : ℕ) → i < n → get_or v i 0 ≡ p → ⊥) → Flags n n s u m f v none
  flags_none g free = grind (arith, common_steps)

  -- who waits for p is neither placed nor flagged
  pub waits_open : {p x : ℕ} → Flags n n s u m f v p → p < n → x < n → get_or v x 0 ≡ p
      → (placed_in m x ≡ false) × (flag f x ≡ false)
  waits_open {p} {x} g hp hx w = grind (arith, common_steps)

  -- ---- j, which is flagged, is placed
  pub flags_mark : Flags n n s u m f v none → (j : ℕ) → j < n → flag f j ≡ true → j < length m
      → Flags n n s u (set m j true) (set f j false) v j
  flags_mark g j hj a lm =
      let lf : j < length f = omega (arith, g.flags_size) in
      let old : (i : ℕ) → (i ≡ j → ⊥) → flag (set f j false) i ≡ flag f i = λ i e.
      get_or-set_other f j i false false e in
      let own : flag (set f j false) j ≡ false = get_or-set_same f j false false lf in
      record {
        flags_size = omega (arith, length-set f j false, g.flags_size);
        flagged =
            λ i hi b.
            ⊎_elim (λ (e : i ≡ j). absurd (not_both (rw e at b) own))
            (λ e. let w = g.flagged i hi (rw (old i e) at b) in (ready_more n s u m j lm i e w.0, w.1))
            (eq_or_ne i j);
        placed =
            λ i hi b.
            ⊎_elim (λ (e : i ≡ j). rw e (g.flagged j hj a).1)
            (λ e. g.placed i hi (rw (get_or-set_other m j i true false e) at b)) (eq_or_ne i j);
        blocked =
            λ i hi b d.
            ⊎_elim (λ (e : i ≡ j). absurd (not_both (get_or-set_same m j true false lm) (rw e at b)))
            (λ e.
            let w = g.blocked i hi (rw (get_or-set_other m j i true false e) at b) (rw (old i e) at d) in
            (w.0, w.1, λ z. get_or-set_other m j (get_or v i 0) true false z ∙ w.2 (λ q. omega (arith, w.0, t.few))))
            (eq_or_ne i j);
      }

  -- ---- one statement more is settled: it is ready
  module _ {k p x : ℕ} {v' : List ℕ} (other : (i : ℕ) → (i ≡ x → ⊥) → get_or v' i 0 ≡ get_or v i 0) (hx : x < n) where
    pub flags_ready : Flags n k s u m f v p → get_or v' x 0 ≡ none → ready_in n s u m x ≡ true → placed_in m x ≡ false
        → {c : ℕ} → ((i : ℕ) → i < c → (i ≡ x → ⊥) → i < k) → Flags n c s u m (set f x true) v' p
    flags_ready g at r z up =
        let lf : x < length f = omega (arith, g.flags_size) in
        let old : (i : ℕ) → (i ≡ x → ⊥) → flag (set f x true) i ≡ flag f i = λ i e.
        get_or-set_other f x i true false e in
        record {
          flags_size = omega (arith, length-set f x true, g.flags_size);
          flagged =
              λ i hi b.
              ⊎_elim (λ (e : i ≡ x). rw e (r, at))
              (λ e. let w = g.flagged i (up i hi e) (rw (old i e) at b) in (w.0, other i e ∙ w.1)) (eq_or_ne i x);
          placed =
              λ i hi b.
              ⊎_elim (λ (e : i ≡ x). absurd (not_both (rw e at b) z)) (λ e. other i e ∙ g.placed i (up i hi e) b)
              (eq_or_ne i x);
          blocked =
              λ i hi b d.
              ⊎_elim (λ (e : i ≡ x). absurd (not_both (get_or-set_same f x true false lf) (rw e at d)))
              (λ e. rw (other i e) (g.blocked i (up i hi e) b (rw (old i e) at d))) (eq_or_ne i x);
        }

    -- or it waits
    pub flags_wait : Flags n k s u m f v p → (j : ℕ) → get_or v' x 0 ≡ j → j < n → uses_by_table s u x j ≡ true
        → placed_in m j ≡ false → placed_in m x ≡ false → flag f x ≡ false
        → {c : ℕ} → ((i : ℕ) → i < c → (i ≡ x → ⊥) → i < k) → Flags n c s u m f v' p
    flags_wait g j at hj uses mj z fz up =
        record {
          flags_size = g.flags_size;
          flagged =
              λ i hi b.
              ⊎_elim (λ (e : i ≡ x). absurd (not_both (rw e at b) fz))
              (λ e. let w = g.flagged i (up i hi e) b in (w.0, other i e ∙ w.1)) (eq_or_ne i x);
          placed =
              λ i hi b.
              ⊎_elim (λ (e : i ≡ x). absurd (not_both (rw e at b) z)) (λ e. other i e ∙ g.placed i (up i hi e) b)
              (eq_or_ne i x);
          blocked =
              λ i hi b d.
              ⊎_elim (λ (e : i ≡ x). rw (e, at) (hj, uses, λ _. mj))
              (λ e. rw (other i e) (g.blocked i (up i hi e) b d)) (eq_or_ne i x);
        }

-- ---- what is worked out of statement i, which is not placed
module _ {N : ℕ} (t : Table) (d : Desk N) (i : ℕ) (w : MaySettle t i d) where
  -- where its uses begin and end
  abbrev start : ℕ
  start = get_or t.starts.now i 0

  abbrev stop : ℕ
  stop = get_or t.starts.now (i + 1) 0

  -- where its cursor stands, and the place that it moves to
  abbrev from : ℕ
  from = start + get_or d.cursors i 0

  abbrev goal : ℕ
  goal = first (open_at t.used.now d.marks) (stop - from) from

  -- what it says of i
  tells : {r : Bool} → free_in t.n t.starts.now t.used.now d.marks i ≡ r
      → r ≡ ready_in t.n t.starts.now t.used.now d.marks i
  tells e = sym (ready_unplaced t.n t.starts.now t.used.now d.marks i w.unplaced ∙ e)

  -- all that it uses is placed
  pub settles_ready : free_in t.n t.starts.now t.used.now d.marks i ≡ true → Settles t i true d d
  settles_ready e =
      record {
        moved = w.moved;
        flag_is = tells e;
        kept = λ _. refl;
        hung = λ f. absurd (not_both refl f);
      }

  -- or it waits for j
  pub settles_wait : {d' : Desk N} (j : ℕ) → j < t.n → uses_by_table t.starts.now t.used.now i j ≡ true
      → placed_in d.marks j ≡ false → Cursors t.n t.starts.now t.used.now d.marks d'.cursors
      → d' ≡ hang (record d { cursors = d'.cursors }) i j → Settles t i false d d'
  settles_wait j hj uses mj moved e =
      record {
        moved = moved;
        flag_is = tells (free_not t.n t.starts.now t.used.now d.marks i j uses hj mj);
        kept = λ f. absurd (not_both f refl);
        hung = λ _. (j, hj, uses, mj, e);
      }

  -- at the end of its uses i is ready
  pub settled_ready : stop ≤ goal → Settles t i true d d
  settled_ready le =
      settles_ready (goal_end t.n t.starts.now t.used.now d.marks d.cursors t.fit w.moved i w.one le)

  module _ (lt : goal < stop) where
    -- the statement there is one of the n
    pub wait_below : get_or t.used.now goal 0 < t.n
    wait_below = t.fit.below goal (omega (arith, t.fit.ends i w.one))

    -- before it i waits for the statement there
    pub settled_wait : {k : ℕ} → k ≡ goal
        → Settles t i false d (hang (record d { cursors = set d.cursors i (k - start) }) i (get_or t.used.now k 0))
    settled_wait e =
        let at = goal in
        let hit = first_hit (open_at t.used.now d.marks) (stop - from) from (omega arith) in
        rw e
        (settles_wait (get_or t.used.now at 0) wait_below
        (goal_used t.n t.starts.now t.used.now d.marks d.cursors t.fit w.moved i w.one lt)
        (not-true (placed_in d.marks (get_or t.used.now at 0)) hit)
        (goal_moves t.n t.starts.now t.used.now d.marks d.cursors t.fit w.moved i w.one) refl)

  -- ---- the same where none is placed
  module _ (none_placed : NonePlaced t.n d.marks) where
    -- it uses none
    pub start_ready : stop ≤ start → Settles t i true d d
    start_ready le =
        let e = first_from (open_at t.used.now d.marks) (stop - from) from in
        settled_ready (omega arith)

    pub start_below : start < stop → get_or t.used.now start 0 < t.n
    start_below lt = t.fit.below start (omega (arith, t.fit.ends i w.one))

    -- or it waits for the first that it uses
    pub start_wait : start < stop → Settles t i false d (hang d i (get_or t.used.now start 0))
    start_wait lt =
        let j = get_or t.used.now start 0 in
        let ends = t.fit.ends i w.one in
        let member = in_part start stop t.used.now ends start (omega arith) lt in
        settles_wait j (start_below lt) (in_has j (used_of t.starts.now t.used.now i) member)
        (none_placed j (start_below lt)) w.moved refl
