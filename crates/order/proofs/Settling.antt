-- The loops that settle statements: all at first, then those that wait for the one just placed.
use mathlib.Core.Path.{◌≡◌, refl, sym, ap, ◌∙◌}
use mathlib.Core.Bool.{Bool, true, false}
use mathlib.Core.List.{List, []}
use Prim.Native.Nat.{ℕ, suc, ◌+◌, ◌≤◌, ◌<◌, min}
use native.Mathlib.Nat.{not-suc-le-zero}
use native.Mathlib.Omega.{arith}
use lib.Dec.{eqb}
use lib.ListN.{length, get_or, set, length-set, replicate, length-replicate, get_or-replicate}
use lib.Seq.{get_or-set_same, get_or-set_other}
use Rattle.std.proofs.lemmas.Grind.{common_steps}
use Rattle.laws.specs.Counts.{once, count}
use Rattle.laws.proofs.Stores.{count_set}
use Rattle.laws.proofs.Tests.{not_both}
use Rattle.laws.proofs.Counts.{once_same, once_other}
use Rattle.order.specs.declared.Desk.{Desk}
use Rattle.order.specs.declared.table.Table.{Table}
use Rattle.order.specs.Marks.{none, placed_in, flag, Leads, Between, MaySettle, Settles, empty_desk, Begun}
use Rattle.order.specs.Marks.{Awake}
use Rattle.order.proofs.Queues.{close_list, first_waits, pop, push}
use Rattle.order.proofs.Flagging.{flags_none, flags_ready, flags_wait, waits_open}

-- ---- all at first: a desk with room for each of the n, at which none is settled
module _ {N : ℕ} (t : Table) (le : t.n ≤ N) where
  -- what the array that is filled with a has for i
  filled : (a i : ℕ) → i < t.n → get_or (replicate {A = ℕ} N a) i 0 ≡ a
  filled a i hi = get_or-replicate {A = ℕ} N i a 0 (omega arith)

  -- and of marks or flags
  clear : (i : ℕ) → i < t.n → flag (replicate {A = Bool} N false) i ≡ false
  clear i hi = get_or-replicate {A = Bool} N i false false (omega arith)

  pub begun_none : Begun t 0 (empty_desk N)
  unfolding Leads count
  begun_none =
      let long : (a : ℕ) → t.n ≤ length (replicate {A = ℕ} N a) = λ a. omega (arith, length-replicate {A = ℕ} N a) in
      let flags : t.n ≤ length (replicate {A = Bool} N false) = omega (arith, length-replicate {A = Bool} N false) in
      record {
        state =
            record {
              moved =
                  record {
                    marks_size = flags;
                    size = long 0;
                    pass = λ i d hi k. absurd (omega (arith, filled 0 i hi));
                  };
              lists =
                  record {
                    room = record { heads_size = long none; links_size = long 0; waits_size = long none };
                    queue = λ _. [];
                    own = λ z. absurd (omega (arith, t.fit.few));
                    shut = λ z. absurd (omega (arith, t.fit.few));
                    others = λ q hq _. filled none q hq;
                    stands =
                        λ i q hi hq.
                        sym
                        (ap (λ k. once (eqb k q)) (filled none i hi)
                        ∙ once_other none q (λ e. omega (arith, t.fit.few)));
                    only = λ i q hq z. absurd (omega arith);
                  };
              known =
                  record {
                    flags_size = flags;
                    flagged = λ i hi _. absurd (not-suc-le-zero hi);
                    placed = λ i hi _. absurd (not-suc-le-zero hi);
                    blocked = λ i hi _ _. absurd (not-suc-le-zero hi);
                  };
            };
        unplaced = clear;
        unflagged = λ i _ hi. clear i hi;
        idle = λ i _ hi. filled none i hi;
      }

module _ {N k : ℕ} {t : Table} {d : Desk N} (g : Begun t k d) (hk : k < t.n) where
  -- the next is ready
  pub begun_ready : {d' : Desk N} → Settles t k true d d' → Begun t (k + 1) (record d' { ready = set d'.ready k true })
  begun_ready w =
      rw (w.kept refl)
      (record {
        state =
            record {
              moved = g.state.moved;
              lists = g.state.lists;
              known =
                  flags_ready t.fit (λ i _. refl) hk g.state.known (g.idle k (omega arith) hk) (sym w.flag_is)
                  (g.unplaced k hk) (λ i a b. omega arith);
            };
        unplaced = g.unplaced;
        unflagged =
            λ i a b. get_or-set_other d.ready k i true false (λ q. omega arith) ∙ g.unflagged i (omega arith) b;
        idle = λ i a b. g.idle i (omega arith) b;
      })

  -- or it waits
  pub begun_wait : {d' : Desk N} → Settles t k false d d' → Begun t (k + 1) d'
  begun_wait w =
      let e = w.hung refl in
      let j = e.0 in
      let lv : k < length d.waits = omega (arith, g.state.lists.room.waits_size) in
      rw e.4
      (record {
        state =
            record {
              moved = w.moved;
              lists =
                  push t.fit.few g.state.lists k j hk e.1 (λ q. omega (arith, e.1, t.fit.few))
                  (g.idle k (omega arith) hk);
              known =
                  flags_wait t.fit (λ i a. get_or-set_other d.waits k i j 0 a) hk g.state.known j
                  (get_or-set_same d.waits k j 0 lv) e.1 e.2 e.3 (g.unplaced k hk) (g.unflagged k (omega arith) hk)
                  (λ i a b. omega arith);
            };
        unplaced = g.unplaced;
        unflagged = λ i a b. g.unflagged i (omega arith) b;
        idle = λ i a b. get_or-set_other d.waits k i j 0 (λ q. omega arith) ∙ g.idle i (omega arith) b;
      })

-- ---- those that wait for j, from x on; none before `early` is flagged, and the marks are as they were
pub record Waking {N : ℕ} (t : Table) (j : ℕ) (marks : List Bool) (d : Desk N) (x early : ℕ) : Type 0 where
  pub one : j < t.n
  pub mark : placed_in d.marks j ≡ true
  pub same : d.marks ≡ marks
  pub state : Between t t.n d j x
  pub before : early ≤ j
  pub clear : (i : ℕ) → i < early → flag d.ready i ≡ false

module _ {N j : ℕ} {t : Table} {marks : List Bool} {d : Desk N} {x early : ℕ}
    (g : Waking t j marks d x early) where
  -- when all are settled
  pub waking_last : none ≤ x → Awake t j marks d early
  waking_last hx =
      let e = close_list t.fit.few g.state.lists g.one hx in
      let k = flags_none t.fit g.state.known e.1 in
      grind (arith, common_steps)

  module _ (hx : x < none) where
    -- x is one of the n, and waits for j
    pub waking_one : (x < t.n) × (get_or d.waits x 0 ≡ j)
    waking_one = first_waits t.fit.few g.state.lists g.one hx

    -- it is not placed, nor flagged
    waking_open : (placed_in d.marks x ≡ false) × (flag d.ready x ≡ false)
    waking_open = waits_open t.fit g.state.known g.one waking_one.0 waking_one.1

    long : x < length d.waits
    long = omega (arith, g.state.lists.room.waits_size, waking_one.0)

    -- when it waits no more it may be settled
    pub waking_may : MaySettle t x (record d { waits = set d.waits x none })
    waking_may =
        record {
          one = waking_one.0;
          unplaced = waking_open.0;
          moved = g.state.moved;
          room = (pop t.fit.few g.state.lists g.one hx).room;
        }

    -- without x one less waits for j
    less_none : suc (count j (set d.waits x none)) ≡ count j d.waits
    less_none =
        let c = count_set j none d.waits x long in
        let o = waking_one in
        let s = once_same j in
        let away = once_other j none in
        grind (arith, common_steps)

    -- a statement that is not placed is not j
    not_j : {i : ℕ} → placed_in d.marks i ≡ false → i ≡ j → ⊥
    not_j o e = not_both g.mark (rw e at o)

    module _ {d' : Desk N} where
      -- it is ready
      pub waking_ready : Settles t x true (record d { waits = set d.waits x none }) d'
          → Waking t j marks (record d' { ready = set d'.ready x true }) (get_or d.links x 0) (min early x)
      waking_ready w =
          rw (w.kept refl)
          (record {
            one = g.one;
            mark = g.mark;
            same = g.same;
            state =
                record {
                  moved = g.state.moved;
                  lists = pop t.fit.few g.state.lists g.one hx;
                  known =
                      flags_ready t.fit (λ i a. get_or-set_other d.waits x i none 0 a) waking_one.0 g.state.known
                      (get_or-set_same d.waits x none 0 long) (sym w.flag_is) waking_open.0 (λ i a _. a);
                };
            before = omega (arith, g.before);
            clear =
                λ i a.
                get_or-set_other d.ready x i true false (λ q. omega arith) ∙ g.clear i (omega arith);
          })

      -- or it waits for another
      pub waking_wait : Settles t x false (record d { waits = set d.waits x none }) d'
          → Waking t j marks d' (get_or d.links x 0) early
      waking_wait w =
          let k = w.hung refl in
          let q = k.0 in
          let lw : x < length (set d.waits x none) = omega (arith, length-set d.waits x none, long) in
          rw k.4
          (record {
            one = g.one;
            mark = g.mark;
            same = g.same;
            state =
                record {
                  moved = w.moved;
                  lists =
                      push t.fit.few (pop t.fit.few g.state.lists g.one hx) x q waking_one.0 k.1 (not_j k.3)
                      (get_or-set_same d.waits x none 0 long);
                  known =
                      flags_wait t.fit
                      (λ i a. get_or-set_other (set d.waits x none) x i q 0 a ∙ get_or-set_other d.waits x i none 0 a)
                      waking_one.0 g.state.known q (get_or-set_same (set d.waits x none) x q 0 lw) k.1 k.2 k.3
                      waking_open.0 waking_open.1 (λ i a _. a);
                };
            before = g.before;
            clear = g.clear;
          })

      -- in any case one less waits for j
      pub waking_less : (r : Bool) → Settles t x r (record d { waits = set d.waits x none }) d'
          → count j d'.waits < count j d.waits
      waking_less true w = rw (w.kept refl) (omega (arith, less_none))
      waking_less false w =
          let k = w.hung refl in
          let q = k.0 in
          let lw : x < length (set d.waits x none) = omega (arith, length-set d.waits x none, long) in
          rw k.4
          (omega (
            arith,
            less_none,
            count_set j q (set d.waits x none) x lw,
            once_other j q (λ e. not_j k.3 (sym e)),
          ))
