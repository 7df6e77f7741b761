-- What one record does, by its shape: to one machine, and to two that are alike.
use Prim.Native.Nat.{ℕ, ◌≤◌, ◌<◌}
use mathlib.Core.Path.{◌≡◌, refl, sym, ap, ap₂, ◌∙◌}
use mathlib.Core.Bool.{true}
use mathlib.Core.Logic.{◌⊎◌, inl, inr, ⊎_elim}
use mathlib.Core.List.Memᴰ
use mathlib.Core.List.{List, ◌∷◌}
use native.Mathlib.Omega.{arith}
use borrow.Author.Tests.{eqb-true}
use lib.Dec.{eqb}
use lib.ListN.{length, get_or, set, drop, length-set}
use lib.Seq.{get_or-set_same, get_or-set_other}
use lib.Ieee.{Float, nan}
use Rattle.limits.specs.Limits.{slots}
use Rattle.laws.proofs.Tests.{not_both, eq_or_ne, and_true}
use Rattle.records.specs.declared.Instr.{Instr}
use Rattle.records.specs.Fields.{fields_of}
use Rattle.records.specs.Shape.{value, slot, operands, applied}
use Rattle.records.specs.Shape.{Shape, constant, initial, push, fold, store, derivative, store_again, bad, shape_of}
use Rattle.evaluator.specs.Judge.{unset_mark, given_mark, state_mark, derived_mark, stored_mark, rule_of}
use Rattle.evaluator.specs.Machine.{Machine, act, step, run}
use Rattle.meaning.specs.ReadSlots.{SetSlot, DerivedSlot, Same}

-- ---- one place set in two lists

-- they agree there
set_now : (v w : List Float) (s : ℕ) (x y : Float) → s < length v → s < length w → x ≡ y
    → Same (set v s x) (set w s y) s
set_now v w s x y a b e = get_or-set_same v s x nan a ∙ e ∙ sym (get_or-set_same w s y nan b)

-- and wherever they did before
set_keeps : (v w : List Float) (s : ℕ) (x y : Float) → s < length v → s < length w → x ≡ y → (q : ℕ) → Same v w q
    → Same (set v s x) (set w s y) q
set_keeps v w s x y a b e q h =
    ⊎_elim (λ (z : q ≡ s). rw z (set_now v w s x y a b e))
    (λ z. get_or-set_other v s q x nan z ∙ h ∙ sym (get_or-set_other w s q y nan z)) (eq_or_ne q s)

-- ---- one record, by its shape

-- the topmost value
abbrev pub top : Machine → Float
top m = get_or m.stack 0 nan

-- a run begins with its first step
pub run_next : (m : Machine) (x : Instr) (xs : List Instr) → run m (x ∷ xs) ≡ run (act m (shape_of x)) xs
unfolding run step
run_next m x xs = refl

-- the lengths stay
pub acted_long : (m : Machine) (h : Shape)
    → (length (act m h).values ≡ length m.values) × (length (act m h).derivs ≡ length m.derivs)
acted_long m (constant s x) = (length-set m.values s x, refl)
acted_long m (initial s x) = (refl, refl)
acted_long m (push p) = (refl, refl)
acted_long m (fold o) = (refl, refl)
acted_long m (store s) = (length-set m.values s (top m), refl)
acted_long m (derivative s) = (refl, length-set m.derivs s (top m))
acted_long m (store_again s) = (length-set m.values s (top m), refl)
acted_long m bad = (refl, refl)

-- each place is one that the record writes, or it stays
pub acted_stays : (m : Machine) (h : Shape) (hs : List Shape) (q : ℕ)
    → (SetSlot (h ∷ hs) q ⊎ Same (act m h).values m.values q)
    × (DerivedSlot (h ∷ hs) q ⊎ Same (act m h).derivs m.derivs q)
acted_stays m (constant s x) hs q = (
  ⊎_elim (λ (e : q ≡ s). inl (inl (x, Memᴰ.head (ap (λ t. constant t x) e))))
      (λ e. inr (get_or-set_other m.values s q x nan e)) (eq_or_ne q s),
  inr refl,
)
acted_stays m (initial s x) hs q = (inr refl, inr refl)
acted_stays m (push p) hs q = (inr refl, inr refl)
acted_stays m (fold o) hs q = (inr refl, inr refl)
acted_stays m (store s) hs q = (
  ⊎_elim (λ (e : q ≡ s). inl (inr (inl (Memᴰ.head (ap store e)))))
      (λ e. inr (get_or-set_other m.values s q (top m) nan e)) (eq_or_ne q s),
  inr refl,
)
acted_stays m (derivative s) hs q = (
  inr refl,
  ⊎_elim (λ (e : q ≡ s). inl (Memᴰ.head (ap derivative e)))
      (λ e. inr (get_or-set_other m.derivs s q (top m) nan e)) (eq_or_ne q s),
)
acted_stays m (store_again s) hs q = (
  ⊎_elim (λ (e : q ≡ s). inl (inr (inr (Memᴰ.head (ap store_again e)))))
      (λ e. inr (get_or-set_other m.values s q (top m) nan e)) (eq_or_ne q s),
  inr refl,
)
acted_stays m bad hs q = (inr refl, inr refl)

-- ---- one record on two machines

-- both have a place for each slot
pub record Roomy (m n : Machine) : Type 0 where
  pub values : slots ≤ length m.values
  pub values_too : slots ≤ length n.values
  pub derivs : slots ≤ length m.derivs
  pub derivs_too : slots ≤ length n.derivs

-- so they have after it
pub acted_roomy : (m n : Machine) (h : Shape) → Roomy m n → Roomy (act m h) (act n h)
acted_roomy m n h r =
    record {
      values = omega (arith, (acted_long m h).0, r.values);
      values_too = omega (arith, (acted_long n h).0, r.values_too);
      derivs = omega (arith, (acted_long m h).1, r.derivs);
      derivs_too = omega (arith, (acted_long n h).1, r.derivs_too);
    }

-- by the marks l a slot is set
abbrev pub Marked : List ℕ → ℕ → Type 0
Marked l q = get_or l q 0 ≡ unset_mark → ⊥

-- the same working values, and the same values in each slot that is set
pub record Alike (l : List ℕ) (m n : Machine) : Type 0 where
  pub stack : m.stack ≡ n.stack
  pub values : (q : ℕ) → Marked l q → Same m.values n.values q

module _ (m n : Machine) (r : Roomy m n) (tops : top m ≡ top n) where
  -- where they agree they agree after it
  pub acted_keeps : (h : Shape) → (fields_of h).operand < slots → (q : ℕ)
      → (Same m.values n.values q → Same (act m h).values (act n h).values q)
      × (Same m.derivs n.derivs q → Same (act m h).derivs (act n h).derivs q)
  acted_keeps (constant s x) b q = (
    set_keeps m.values n.values s x x (omega (arith, b, r.values)) (omega (arith, b, r.values_too)) refl q,
    λ e. e,
  )
  acted_keeps (initial s x) b q = (λ e. e, λ e. e)
  acted_keeps (push p) b q = (λ e. e, λ e. e)
  acted_keeps (fold o) b q = (λ e. e, λ e. e)
  acted_keeps (store s) b q = (
    set_keeps m.values n.values s (top m) (top n) (omega (arith, b, r.values)) (omega (arith, b, r.values_too))
        tops q,
    λ e. e,
  )
  acted_keeps (derivative s) b q = (
    λ e. e,
    set_keeps m.derivs n.derivs s (top m) (top n) (omega (arith, b, r.derivs)) (omega (arith, b, r.derivs_too))
        tops q,
  )
  acted_keeps (store_again s) b q = (
    set_keeps m.values n.values s (top m) (top n) (omega (arith, b, r.values)) (omega (arith, b, r.values_too))
        tops q,
    λ e. e,
  )
  acted_keeps bad b q = (λ e. e, λ e. e)

  -- they agree in a slot to which the topmost value goes
  pub stored_now : (q : ℕ) → q < slots → Same (set m.values q (top m)) (set n.values q (top n)) q
  stored_now q b =
      set_now m.values n.values q (top m) (top n) (omega (arith, r.values)) (omega (arith, r.values_too)) tops

  -- they agree in the slot that it sets
  pub acted_value : (h : Shape) (hs : List Shape) → (fields_of h).operand < slots → (q : ℕ) → SetSlot (h ∷ hs) q
      → Same (act m h).values (act n h).values q ⊎ SetSlot hs q
  acted_value h hs b q (inl z) =
      ⊎_elim
      (λ (e : constant q z.0 ≡ h).
      let b' : q < slots = rw (← e) at b in
      inl (rw (← e) (set_now m.values n.values q z.0 z.0 (omega (arith, r.values))
      (omega (arith, r.values_too)) refl)))
      (λ t. inr (inl (z.0, t))) (Memᴰ.cases_cons z.1)
  acted_value h hs b q (inr (inl z)) =
      ⊎_elim (λ (e : store q ≡ h). inl (rw (← e) (stored_now q (rw (← e) at b)))) (λ t. inr (inr (inl t)))
      (Memᴰ.cases_cons z)
  acted_value h hs b q (inr (inr z)) =
      ⊎_elim (λ (e : store_again q ≡ h). inl (rw (← e) (stored_now q (rw (← e) at b)))) (λ t. inr (inr (inr t)))
      (Memᴰ.cases_cons z)

  -- and in the derivative that it writes
  pub acted_deriv : (h : Shape) (hs : List Shape) → (fields_of h).operand < slots → (q : ℕ) → DerivedSlot (h ∷ hs) q
      → Same (act m h).derivs (act n h).derivs q ⊎ DerivedSlot hs q
  acted_deriv h hs b q z =
      ⊎_elim
      (λ (e : derivative q ≡ h).
      let b' : q < slots = rw (← e) at b in
      inl (rw (← e) (set_now m.derivs n.derivs q (top m) (top n) (omega (arith, r.derivs))
      (omega (arith, r.derivs_too)) tops)))
      inr (Memᴰ.cases_cons z)

-- a slot that is marked once s is: it is s, or it was marked
pub marked_set : {P : Type 0} (l : List ℕ) (s x q : ℕ) → Marked (set l s x) q → (q ≡ s → P)
    → (Marked l q → P)
    → P
marked_set l s x q h f g = ⊎_elim f (λ e. g (λ z. h (get_or-set_other l s q x 0 e ∙ z))) (eq_or_ne q s)

-- a good record leaves them alike: what it reads is marked, and a state is marked where they agree
pub acted_alike : (l : List ℕ) (k : ℕ) (m n : Machine) → Roomy m n → Alike l m n → (h : Shape)
    → (fields_of h).operand < slots
    → (rule_of h).fine l k ≡ true
    → ((s : ℕ) (x : Float) → h ≡ initial s x → Same m.values n.values s)
    → Alike ((rule_of h).marks l) (act m h) (act n h)
acted_alike l k m n r a h b g f = go h b g f
  where
    -- the topmost values are the same
    tops : top m ≡ top n
    tops = ap (λ s. get_or s 0 nan) a.stack

    -- the values after it, in a slot that was marked
    kept : (h : Shape) → (fields_of h).operand < slots → (q : ℕ) → Marked l q
        → Same (act m h).values (act n h).values q
    kept h b q u = (acted_keeps m n r tops h b q).0 (a.values q u)

    -- by the shape
    go : (h : Shape) → (fields_of h).operand < slots → (rule_of h).fine l k ≡ true
        → ((s : ℕ) (x : Float) → h ≡ initial s x → Same m.values n.values s)
        → Alike ((rule_of h).marks l) (act m h) (act n h)
    go (constant s x) b g f =
        record {
          stack = a.stack;
          values =
              λ q u.
              marked_set l s given_mark q u
              (λ (e : q ≡ s). rw e (set_now m.values n.values s x x (omega (arith, r.values))
              (omega (arith, r.values_too)) refl))
              (kept (constant s x) b q);
        }
    go (initial s x) b g f =
        record {
          stack = a.stack;
          values = λ q u. marked_set l s state_mark q u (λ (e : q ≡ s). rw e (f s x refl)) (kept (initial s x) b q);
        }
    go (push (value x)) b g f = record { stack = ap (λ t. x ∷ t) a.stack; values = a.values }
    go (push (slot s)) b g f =
        record {
          stack = ap₂ ◌∷◌ (a.values s (λ e. not_both g (rw e refl))) a.stack;
          values = a.values;
        }
    go (fold o) b g f =
        record {
          stack = ap (λ t. applied o (λ k. get_or t k nan) ∷ drop (operands o) t) a.stack;
          values = a.values;
        }
    go (store s) b g f =
        record {
          stack = ap (drop 1) a.stack;
          values =
              λ q u.
              marked_set l s stored_mark q u (λ (e : q ≡ s). rw e (stored_now m n r tops s b)) (kept (store s) b q);
        }
    go (derivative s) b g f =
        let is_state = eqb-true (get_or l s 0) state_mark (and_true (eqb k 1) (eqb (get_or l s 0) state_mark) g).1 in
        record {
          stack = ap (drop 1) a.stack;
          values =
              λ q u.
              marked_set l s derived_mark q u (λ (e : q ≡ s). rw e (a.values s (λ z. omega arith))) (a.values q);
        }
    go (store_again s) b g f =
        record { stack = ap (drop 1) a.stack; values = kept (store_again s) b }
    go bad b g f = absurd (not_both g refl)
