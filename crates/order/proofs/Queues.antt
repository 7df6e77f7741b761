-- Laws of the lists of those that wait.
use mathlib.Core.Path.{◌≡◌, refl, sym, ap, ◌∙◌}
use mathlib.Core.Bool.{cond}
use mathlib.Core.Logic.{⊎_elim}
use mathlib.Core.List.{List, [], ◌∷◌}
use Prim.Native.Nat.{ℕ, ◌+◌, ◌≤◌, ◌<◌}
use native.Mathlib.Omega.{arith}
use borrow.Author.Tests.{eq-eqb, ne_eqb}
use lib.Dec.{eqb}
use lib.ListN.{length, get_or, set, length-set}
use lib.Seq.{get_or-set_same, get_or-set_other}
use Rattle.limits.specs.Limits.{most_statements}
use Rattle.laws.specs.Counts.{once, count, ◌∈◌}
use Rattle.laws.proofs.Tests.{eq_or_ne}
use Rattle.laws.proofs.Counts.{once_same, once_other}
use Rattle.order.specs.Marks.{none, Leads, Queues}

-- ---- queues by statements, one of them another
abbrev put : (ℕ → List ℕ) → ℕ → List ℕ → ℕ → List ℕ
put f a r q = cond (eqb q a) r (f q)

put_same : (f : ℕ → List ℕ) (a : ℕ) (r : List ℕ) {q : ℕ} → q ≡ a → put f a r q ≡ r
put_same f a r {q} e = rw (eq-eqb q a e)

put_other : (f : ℕ → List ℕ) (a : ℕ) (r : List ℕ) {q : ℕ} → (q ≡ a → ⊥) → put f a r q ≡ f q
put_other f a r {q} e = rw (ne_eqb q a e)

-- ---- links

-- a link of one that the list has not does not change where it leads
leads_set : (l : List ℕ) (a b x : ℕ) (ys : List ℕ) → count a ys ≡ 0 → Leads l x ys → Leads (set l a b) x ys
unfolding Leads count
leads_set l a b x [] z h = h
leads_set l a b x (y ∷ ys) z h =
    ⊎_elim (λ (e : a ≡ y). absurd (omega (arith, once_same y, ap (λ k. once (eqb k y)) e)))
    (λ e. (
      h.0,
      rw (get_or-set_other l a y b 0 (λ q. e (sym q)))
          (leads_set l a b (get_or l y 0) ys (omega (arith, once_other a y e)) h.1),
    )) (eq_or_ne a y)

-- a list that has begun: its first, and the rest
begun : (l : List ℕ) (x : ℕ) (ys : List ℕ) → x < none → Leads l x ys
    → (zs : List ℕ) × (ys ≡ x ∷ zs) × Leads l (get_or l x 0) zs
unfolding Leads
begun l x [] h e = absurd (omega arith)
begun l x (y ∷ zs) h e = (zs, ap (λ k. k ∷ zs) (sym e.0), rw e.0 e.1)

-- one that has ended
ended : (l : List ℕ) (x : ℕ) (ys : List ℕ) → none ≤ x → ((i : ℕ) → i ∈ ys → i < none) → Leads l x ys → ys ≡ []
unfolding Leads count
ended l x [] h f e = refl
ended l x (y ∷ zs) h f e = absurd (omega (arith, e.0, f y (omega (arith, once_same y))))

module _ {n : ℕ} {h l v : List ℕ} (few : n ≤ most_statements) where
  -- ---- the list of j is taken off, to be gone through
  pub open_list : Queues n h l v none none → (j : ℕ) → j < n → Queues n (set h j none) l v j (get_or h j 0)
  open_list g j hj =
      record {
        room = record {
          heads_size = omega (arith, length-set h j none, g.room.heads_size);
          links_size = g.room.links_size;
          waits_size = g.room.waits_size;
        };
        queue = g.queue;
        own = λ _. g.others j hj (λ e. omega arith);
        shut = λ _. get_or-set_same h j none 0 (omega (arith, g.room.heads_size));
        others = λ q hq e. rw (get_or-set_other h j q none 0 e) (g.others q hq (λ z. omega arith));
        stands = g.stands;
        only = g.only;
      }

  -- it has been gone through
  module _ {p x : ℕ} (g : Queues n h l v p x) (hp : p < n) where
    pub close_list : none ≤ x → Queues n h l v none none × ((i : ℕ) → i < n → get_or v i 0 ≡ p → ⊥)
    unfolding Leads count
    close_list hx =
        let e : g.queue p ≡ [] = ended l x (g.queue p) hx (λ i m. omega (arith, g.only i p hp m)) (g.own hp) in (
          record {
            room = g.room;
            queue = g.queue;
            own = λ z. absurd (omega arith);
            shut = λ z. absurd (omega arith);
            others = λ q hq _. ⊎_elim (λ (w : q ≡ p). last e q w) (λ w. g.others q hq w) (eq_or_ne q p);
            stands = g.stands;
            only = g.only;
          },
          λ i hi w. empty e i hi w,
        )
      where
        last : g.queue p ≡ [] → (q : ℕ) → q ≡ p → Leads l (get_or h q 0) (g.queue q)
        last e q w = rw (w, e) (g.shut hp)

        empty : g.queue p ≡ [] → (i : ℕ) → i < n → get_or v i 0 ≡ p → ⊥
        empty e i hi w = omega (arith, g.stands i p hi hp, ap (count i) e, once_same p, ap (λ k. once (eqb k p)) w)

    -- ---- its first is taken off
    module _ (hx : x < none) where
      -- it is one that waits for p
      pub first_waits : (x < n) × (get_or v x 0 ≡ p)
      unfolding count
      first_waits =
          let b = begun l x (g.queue p) hx (g.own hp) in
          let c : count x (g.queue p) ≡ once (eqb x x) + count x b.0 = ap (count x) b.1 in
          let m : x < n = g.only x p hp (omega (arith, once_same x)) in (
            m,
            ⊎_elim (λ (e : get_or v x 0 ≡ p). e)
                (λ e. absurd (omega (arith, g.stands x p m hp, once_other (get_or v x 0) p e, once_same x)))
                (eq_or_ne (get_or v x 0) p),
          )

      pub pop : Queues n h l (set v x none) p (get_or l x 0)
      unfolding count
      pop =
          let b = begun l x (g.queue p) hx (g.own hp) in
          let w = first_waits in
          let lv : x < length v = omega (arith, w.0, g.room.waits_size) in
          let zs = b.0 in
          let c : (i : ℕ) → count i (g.queue p) ≡ once (eqb i x) + count i zs = λ i. ap (count i) b.1 in
          let free : (q : ℕ) → q < n → once (eqb none q) ≡ 0 = λ q hq. once_other none q (λ e. omega arith) in
          let at = get_or-set_same v x none 0 lv in
          record {
            room = record {
              heads_size = g.room.heads_size;
              links_size = g.room.links_size;
              waits_size = omega (arith, length-set v x none, g.room.waits_size);
            };
            queue = put g.queue p zs;
            own = λ _. rw (put_same g.queue p zs {q = p} refl) b.2;
            shut = g.shut;
            others = λ q hq e. rw (put_other g.queue p zs e) (g.others q hq e);
            stands =
                λ i q hi hq.
                ⊎_elim
                (λ (s : i ≡ x).
                rw (s, at)
                (⊎_elim (λ (r : q ≡ p). rw (put_same g.queue p zs r)
                (omega (
                  arith,
                  c x,
                  once_same x,
                  g.stands x p w.0 hp,
                  ap (λ k. once (eqb k p)) w.1,
                  once_same p,
                  free q hq,
                )))
                (λ r. rw (put_other g.queue p zs r)
                (omega (
                  arith,
                  g.stands x q w.0 hq,
                  ap (λ k. once (eqb k q)) w.1,
                  once_other p q (λ e. r (sym e)),
                  free q hq,
                ))) (eq_or_ne q p)))
                (λ s. rw (get_or-set_other v x i none 0 s)
                (⊎_elim
                (λ (r : q ≡ p). rw (put_same g.queue p zs r, r)
                (omega (arith, c i, once_other i x s, g.stands i p hi hp)))
                (λ r. rw (put_other g.queue p zs r) (g.stands i q hi hq)) (eq_or_ne q p))) (eq_or_ne i x);
            only =
                λ i q hq m.
                ⊎_elim (λ (r : q ≡ p). g.only i p hp (omega (arith, c i, rw (put_same g.queue p zs r) at m)))
                (λ r. g.only i q hq (rw (put_other g.queue p zs r) at m)) (eq_or_ne q p);
          }

  -- ---- one that waits for none is put to the front of the list of j
  pub push : {p y : ℕ} → Queues n h l v p y → (x j : ℕ) → x < n → j < n → (j ≡ p → ⊥) → get_or v x 0 ≡ none
      → Queues n (set h j x) (set l x (get_or h j 0)) (set v x j) p y
  unfolding count Leads
  push {p} {y} g x j hx hj nj vx =
      let lv : x < length v = omega (arith, g.room.waits_size) in
      let lh : j < length h = omega (arith, g.room.heads_size) in
      let ll : x < length l = omega (arith, g.room.links_size) in
      let a = get_or h j 0 in
      let free : (q : ℕ) → q < n → count x (g.queue q) ≡ 0 = λ q hq.
      omega (arith, g.stands x q hx hq, ap (λ k. once (eqb k q)) vx, once_other none q (λ e. omega arith)) in
      let r = x ∷ g.queue j in
      record {
        room = record {
          heads_size = omega (arith, length-set h j x, g.room.heads_size);
          links_size = omega (arith, length-set l x a, g.room.links_size);
          waits_size = omega (arith, length-set v x j, g.room.waits_size);
        };
        queue = put g.queue j r;
        own = λ hp. rw (put_other g.queue j r {q = p} (λ e. nj (sym e)))
            (leads_set l x a y (g.queue p) (free p hp) (g.own hp));
        shut = λ hp. get_or-set_other h j p x 0 (λ e. nj (sym e)) ∙ g.shut hp;
        others =
            λ q hq e.
            ⊎_elim
            (λ (s : q ≡ j). rw (put_same g.queue j r s, s, get_or-set_same h j x 0 lh)
            (refl, rw (get_or-set_same l x a 0 ll) (leads_set l x a a (g.queue j) (free j hj) (g.others j hj nj))))
            (λ s. rw (put_other g.queue j r s, get_or-set_other h j q x 0 s)
            (leads_set l x a (get_or h q 0) (g.queue q) (free q hq) (g.others q hq e)))
            (eq_or_ne q j);
        stands =
            λ i q hi hq.
            ⊎_elim
            (λ (s : q ≡ j). rw (put_same g.queue j r s, s)
            (⊎_elim
            (λ (w : i ≡ x). rw (w, get_or-set_same v x j 0 lv)
            (omega (arith, once_same x, once_same j, ap (λ k. count k (g.queue j)) w, free j hj)))
            (λ w. rw (get_or-set_other v x i j 0 w) (omega (arith, once_other i x w, g.stands i j hi hj)))
            (eq_or_ne i x)))
            (λ s. rw (put_other g.queue j r s)
            (⊎_elim
            (λ (w : i ≡ x). rw (w, get_or-set_same v x j 0 lv)
            (omega (arith, free q hq, once_other j q (λ e. s (sym e)))))
            (λ w. rw (get_or-set_other v x i j 0 w) (g.stands i q hi hq)) (eq_or_ne i x))) (eq_or_ne q j);
        only =
            λ i q hq m.
            ⊎_elim
            (λ (s : q ≡ j).
            ⊎_elim (λ (w : i ≡ x). omega arith)
            (λ w. g.only i j hj (omega (arith, once_other i x w, rw (put_same g.queue j r s) at m))) (eq_or_ne i x))
            (λ s. g.only i q hq (rw (put_other g.queue j r s) at m)) (eq_or_ne q j);
      }
