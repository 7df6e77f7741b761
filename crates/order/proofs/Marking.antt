-- Laws of marks and cursors.
use mathlib.Core.Path.{◌≡◌, refl}
use mathlib.Core.Bool.{Bool, true, false, not, ◌||◌}
use mathlib.Core.Logic.{⊎_elim}
use mathlib.Core.List.{List}
use Prim.Native.Nat.{ℕ, ◌+◌, ◌-◌, ◌≤◌, ◌<◌}
use native.Mathlib.Omega.{arith}
use borrow.Author.Tests.{not-true, not-false}
use lib.ListN.{length, get_or, set}
use Rattle.std.proofs.lemmas.Grind.{common_steps}
use Rattle.laws.specs.Counts.{has}
use Rattle.laws.proofs.Tests.{bool_cases, not_both, lt_or_ge}
use Rattle.laws.proofs.Counts.{has_true}
use Rattle.laws.proofs.Members.{in_has}
use Rattle.order.specs.Greedy.{first, ready}
use Rattle.order.specs.Table.{used_of, uses_by_table, Fit}
use Rattle.order.specs.Marks.{placed_in, open_at, free_in, ready_in, Cursors}
use Rattle.order.proofs.Sorting.{all_true, all_intro, all_same, first_hit, first_before}
use Rattle.order.proofs.Searches.{first_from}
use Rattle.order.proofs.Tables.{in_part, part_place}

-- an implication as a test
implied : (a b : Bool) → (a ≡ true → b ≡ true) → (not a || b) ≡ true
implied true b f = f refl
implied false b f = refl

-- ---- what is ready
module _ (n : ℕ) (s u : List ℕ) (m : List Bool) (i : ℕ) where
  -- a placed statement is not ready
  pub ready_placed : placed_in m i ≡ true → ready_in n s u m i ≡ false
  unfolding ready_in
  ready_placed h = rw h

  -- any other is, if all that it uses is placed
  pub ready_unplaced : placed_in m i ≡ false → ready_in n s u m i ≡ free_in n s u m i
  unfolding ready_in
  ready_unplaced e = rw e

  -- not so, if one that it uses is not
  pub free_not : (x : ℕ) → uses_by_table s u i x ≡ true → x < n → placed_in m x ≡ false → free_in n s u m i ≡ false
  free_not x v l e =
      let no : free_in n s u m i ≡ true → ⊥ = λ a.
      let r = all_true n (λ j. not (uses_by_table s u i j) || placed_in m j) a x l in
      not_both (rw v at r) e in
      ⊎_elim (λ a. absurd (no a)) (λ a. a) (bool_cases (free_in n s u m i))

  -- marks that say what is placed say what is ready
  pub ready_same : (placed : List ℕ) → ((j : ℕ) → j < n → placed_in m j ≡ has j placed) → i < n
      → ready_in n s u m i ≡ ready n (uses_by_table s u) placed i
  unfolding ready_in ready
  ready_same placed e h =
      let uses = uses_by_table s u i in
      rw (
        e i h,
        all_same (λ j. not (uses j) || placed_in m j) (λ j. not (uses j) || has j placed) n n (omega arith)
            (λ j l. rw (e j l)),
      )

-- ---- the place that statement i's cursor moves to, and what it says
module _ (n : ℕ) (s u : List ℕ) (m : List Bool) (c : List ℕ) (t : Fit n s u) (g : Cursors n s u m c) (i : ℕ)
    (h : i < n) where
  -- where the search begins
  abbrev start : ℕ
  start = get_or s i 0 + get_or c i 0

  -- where its uses end
  abbrev stop : ℕ
  stop = get_or s (i + 1) 0

  -- the place
  abbrev goal : ℕ
  goal = first (open_at u m) (stop - start) start

  -- each place of its uses before it has a placed statement
  before_goal : (p : ℕ) → get_or s i 0 ≤ p → p < goal → open_at u m p ≡ false
  before_goal p lo hi =
      let e : get_or s i 0 + (p - get_or s i 0) ≡ p = omega arith in
      ⊎_elim (λ w. rw e at (g.pass i (p - get_or s i 0) h w))
      (λ w. first_before (open_at u m) (stop - start) start p (omega arith) hi)
      (lt_or_ge (p - get_or s i 0) (get_or c i 0))

  -- before the end it has one that i uses
  pub goal_used : goal < stop → uses_by_table s u i (get_or u goal 0) ≡ true
  goal_used l =
      let lo = first_from (open_at u m) (stop - start) start in
      in_has (get_or u goal 0) (used_of s u i) (in_part (get_or s i 0) stop u (t.ends i h) goal (omega arith) l)

  -- and that is not placed
  pub goal_open : goal < stop → free_in n s u m i ≡ false
  goal_open l =
      let x = get_or u goal 0 in
      let e = t.ends i h in
      let w = first_hit (open_at u m) (stop - start) start (omega arith) in
      free_not n s u m i x (goal_used l) (t.below goal (omega arith)) (not-true (placed_in m x) w)

  -- at the end all are placed
  pub goal_end : stop ≤ goal → free_in n s u m i ≡ true
  goal_end l =
      all_intro n _
      (λ j k.
      implied (uses_by_table s u i j) (placed_in m j)
      (λ v.
      let r = part_place (get_or s i 0) stop u (t.ends i h) j (has_true j (used_of s u i) v) in
      rw r.3 at (not-false (placed_in m (get_or u r.0 0)) (before_goal r.0 r.1 (omega (arith, r.2))))))

  -- the cursor may move there
  pub goal_moves : Cursors n s u m (set c i (goal - get_or s i 0))
  goal_moves = let b = before_goal in grind (arith, common_steps)

-- one mark more
pub cursors_mark : {n : ℕ} {s u : List ℕ} {m : List Bool} {c : List ℕ} → Cursors n s u m c → (i : ℕ) → i < length m
    → Cursors n s u (set m i true) c
cursors_mark g i l = grind (arith, common_steps)
