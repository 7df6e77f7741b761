-- The loop that places statements.
use mathlib.Core.Path.{◌≡◌, refl, sym, ap, ◌∙◌}
use mathlib.Core.Bool.{Bool, true, false, cond}
use mathlib.Core.Logic.{⊎_elim}
use mathlib.Core.List.{List, [], ◌∷◌, ◌++◌}
use Prim.Native.Nat.{ℕ, suc, ◌+◌, ◌-◌, ◌≤◌, ◌<◌}
use native.Mathlib.Nat.{sub-zero}
use native.Mathlib.Numerals.{add-one}
use native.Mathlib.Omega.{arith}
use borrow.Author.Tests.{lt-ltb, le-ltb}
use lib.Dec.{ltb}
use lib.ListN.{length, take, set}
use lib.Seq.{sets, length-sets, length-take-le, take-suc-set, get_or-set_same, get_or-set_other}
use Rattle.laws.specs.Counts.{count, has}
use Rattle.laws.proofs.Tests.{lt_or_ge, eq_or_ne}
use Rattle.laws.proofs.Sets.{sets_append}
use Rattle.laws.proofs.Counts.{count_snoc_same, count_snoc_other}
use Rattle.order.specs.declared.Desk.{Desk}
use Rattle.order.specs.declared.table.Table.{Table}
use Rattle.order.specs.Greedy.{first, ready, least_ready, place, order}
use Rattle.order.specs.Table.{uses_by_table}
use Rattle.order.specs.Marks.{placed_in, ready_in, none, flag, Between, Begun, Woken, Awake}
use Rattle.order.specs.Contract.{Filled}
use Rattle.order.proofs.Sorting.{first_before, first_hit, first_same, ready_free, next_ready}
use Rattle.order.proofs.Searches.{first_skip}
use Rattle.order.proofs.Marking.{ready_same, cursors_mark}
use Rattle.order.proofs.Flagging.{flags_tell, flags_mark}

-- what each uses
abbrev pub uses : Table → ℕ → ℕ → Bool
uses t = uses_by_table t.starts.now t.used.now

-- k statements are placed: they stand at the front of `out` and have their marks, and with those that are still to be
-- placed they make the order; none before `from` is flagged
pub record Going {N : ℕ} (t : Table) (lent out : List ℕ) (d : Desk N) (from k : ℕ) : Type 0 where
  pub room : t.n ≤ length lent
  pub few : k ≤ t.n
  pub content : out ≡ sets lent 0 (take k out)
  pub mark : (j : ℕ) → j < t.n → placed_in d.marks j ≡ has j (take k out)
  pub left : place t.n (uses t) (t.n - k) (take k out) ≡ order t.n (uses t)
  pub state : Between t t.n d none none
  pub begun : from ≤ t.n
  pub clear : (j : ℕ) → j < from → flag d.ready j ≡ false

-- none is placed
pub going_start : {N : ℕ} {t : Table} {d : Desk N} {lent : List ℕ} → t.n ≤ length lent → Begun t t.n d
    → Going t lent lent d 0 0
unfolding order count
going_start h w =
    record {
      room = h;
      few = omega arith;
      content = refl;
      mark = w.unplaced;
      left = rw sub-zero;
      state = w.state;
      begun = omega arith;
      clear = λ j l. absurd (omega arith);
    }

module _ {N : ℕ} {t : Table} {lent out : List ℕ} {d : Desk N} {from k : ℕ} (g : Going t lent out d from k) where
  -- what is placed
  abbrev placed : List ℕ
  placed = take k out

  -- what is to be placed next
  abbrev chosen : ℕ
  chosen = least_ready t.n (uses t) placed

  -- what the search from `from` on finds
  abbrev found : ℕ
  found = first (flag d.ready) (t.n - from) from

  -- that is the same
  going_next : found ≡ chosen
  unfolding least_ready
  going_next =
      let flag_so : (i : ℕ) → i < t.n → flag d.ready i ≡ ready_in t.n t.starts.now t.used.now d.marks i =
      flags_tell t.fit g.state.known (λ i _ l e. omega (arith, t.fit.few)) in
      sym (first_skip (flag d.ready) t.n from g.begun g.clear)
      ∙ first_same (flag d.ready) (ready t.n (uses t) placed) t.n t.n 0 (omega arith)
      (λ i h. flag_so i h ∙ ready_same t.n t.starts.now t.used.now d.marks i placed g.mark h)

  -- `out` is as long as it was
  pub going_long : length out ≡ length lent
  going_long = ap length g.content ∙ length-sets lent 0 placed

  -- k are placed
  going_front : length placed ≡ k
  going_front = length-take-le k out (omega (arith, g.few, g.room, going_long))

  -- when the loop is left all that can be placed is
  done : order t.n (uses t) ≡ placed → Filled t.n t.starts.now t.used.now lent out k
  done e = record { count = rw e (sym going_front); content = rw e g.content }

  -- one step of the order
  going_on : k < t.n → place t.n (uses t) (t.n - k) placed
      ≡ cond (ltb chosen t.n) (place t.n (uses t) (t.n - (k + 1)) (placed ++ (chosen ∷ []))) placed
  unfolding place
  going_on h = let z : t.n - k ≡ suc (t.n - (k + 1)) = omega arith in rw z

  -- all are placed
  pub going_end : t.n ≤ k → Filled t.n t.starts.now t.used.now lent out t.n
  unfolding place
  going_end h =
      let z : t.n - k ≡ 0 = omega arith in
      let w = done (sym g.left ∙ rw z) in
      record { count = omega (arith, g.few, w.count); content = w.content }

  -- none is ready
  pub going_stop : k < t.n → t.n ≤ found → Filled t.n t.starts.now t.used.now lent out k
  going_stop h z = done (sym g.left ∙ going_on h ∙ rw (le-ltb chosen t.n (omega (arith, going_next))))

  module _ (i : ℕ) (e : i ≡ found) (l : i < t.n) where
    marked : i < length d.marks
    marked = omega (arith, g.state.moved.marks_size)

    -- i is found: it is placed, and those that wait for it are woken
    pub going_woken : Woken t i (record d { marks = set d.marks i true; ready = set d.ready i false })
    going_woken =
        let hit : flag d.ready i ≡ true =
        rw (← e) at (first_hit (flag d.ready) (t.n - from) from (omega (arith, g.begun))) in
        record {
          one = l;
          mark = get_or-set_same d.marks i true false marked;
          moved = cursors_mark g.state.moved i marked;
          lists = g.state.lists;
          known = flags_mark t.fit g.state.known i l hit marked;
          clear =
              λ j h.
              get_or-set_other d.ready i j false false (λ q. omega arith)
              ∙ ⊎_elim (g.clear j) (λ w. first_before (flag d.ready) (t.n - from) from j w (omega arith))
              (lt_or_ge j from);
        }

    -- one more is placed
    pub going_step : {d' : Desk N} {at : ℕ} → k < t.n → Awake t i (set d.marks i true) d' at
        → Going t lent (set out k i) d' at (k + 1)
    going_step {d'} {at} h m =
        let f : i ≡ chosen = e ∙ going_next in
        let ln : chosen < t.n = rw f at l in
        let fresh : count i placed ≡ 0 = rw f (ready_free t.n (uses t) placed _ (next_ready t.n (uses t) placed ln)) in
        let front : take (k + 1) (set out k i) ≡ placed ++ (i ∷ []) =
        rw add-one (take-suc-set out k i (omega (arith, g.room, going_long))) in
        record {
          room = g.room;
          few = omega arith;
          content =
              let end : k ≡ 0 + length placed = omega (arith, going_front) in
              rw (front, sets_append lent 0 placed (i ∷ []))
              (ap (λ (x : List ℕ). set x k i) g.content ∙ ap (λ (p : ℕ). set (sets lent 0 placed) p i) end);
          mark =
              λ j hj.
              rw (front, m.same)
              (⊎_elim
              (λ (q : j ≡ i).
              rw q
              (get_or-set_same d.marks i true false marked
              ∙ sym (lt-ltb 0 (count i (placed ++ (i ∷ []))) (omega (arith, count_snoc_same i placed)))))
              (λ q.
              get_or-set_other d.marks i j true false q
              ∙ g.mark j hj
              ∙ ap (ltb 0) (sym (count_snoc_other j i placed q))) (eq_or_ne j i));
          left = rw (front, f) (sym (going_on h ∙ rw (lt-ltb chosen t.n ln)) ∙ g.left);
          state = m.state;
          begun = omega (arith, m.early);
          clear = m.clear;
        }
