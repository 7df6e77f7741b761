-- Decoding: what is known of a record that is not refused.
use Prim.Native.Nat.{ℕ, zero-le, ◌+◌, ◌*◌, ◌/◌, ◌≤◌, ◌<◌}
use mathlib.Core.Path.{◌≡◌, refl, sym, ◌∙◌}
use mathlib.Core.Bool.{Bool, true, ◌||◌}
use mathlib.Core.List.{List}
use mathlib.Core.Logic.{◌⊎◌, inr, ⊎_elim}
use native.Mathlib.Nat.{le_refl}
use native.Mathlib.Omega.{arith}
use borrow.Author.Tests.{ne_eqb, lt-ltb, eqb-true, ltb-true}
use lib.Dec.{eqb, ltb}
use lib.ListN.{length, get_or, get_or-eq_default}
use lib.Ieee.{Float, binary64, of_bits}
use Rattle.limits.specs.Limits.{slots, record_bytes}
use Rattle.laws.proofs.Tests.{eq_or_ne, cond_ind, and_true}
use Rattle.laws.proofs.Every.{every_anywhere}
use Rattle.records.specs.declared.Instr.{Instr}
use Rattle.records.specs.declared.Instr.TheVariants.{Bad}
use Rattle.records.specs.declared.Fields.{Fields}
use Rattle.records.specs.Fields.{operand_of, has_slot, has_value, kinds, by_kind, in_order, instr_of, instr_within}
use Rattle.records.specs.Record.{field, decode_at, decode_at_within}
use Rattle.records.specs.Decode.{HoldsFields, decoded_at, read_at, with_fields}
use Rattle.records.proofs.FieldBytes.{field_two}

-- no kind but 1 to 15 is known
pub unknown : (k s : ℕ) (x : Float) → (k ≡ 0) ⊎ (16 ≤ k) → by_kind k s x ≡ Bad
unfolding by_kind
unknown k s x h = ⊎_elim (λ (e : k ≡ 0). rw e) (λ (g : 16 ≤ k). get_or-eq_default (kinds s x) Bad {n = k} g) h

-- so its record is refused
pub unknown_refused : (k s b : ℕ) → (k ≡ 0) ⊎ (16 ≤ k) → Bad ≡ instr_of k 0 s b
unfolding instr_within
unknown_refused k s b h =
    rw (unknown k s (of_bits binary64 b) h)
    (cond_ind (λ (i : Instr). Bad ≡ i) (in_order slots k 0 s b) Bad Bad (λ _. refl) (λ _. refl))

-- what a kind that uses these fields holds
pub uses : (k s b : ℕ) (slotted valued : Bool) → has_slot k ≡ slotted → has_value k ≡ valued
    → with_fields slotted valued k s b ≡ instr_of k 0 s b
unfolding instr_within
uses k s b slotted valued p q = rw (p, q)

-- ---- the code reads kind k and byte 1 z as one number, w

module _ (k z w s b : ℕ) (e : w ≡ k + 256 * z) where
  -- which is a kind only where byte 1 is 0
  pub joined : instr_of w 0 s b ≡ instr_of k z s b
  unfolding instr_within
  joined =
      ⊎_elim (λ (d : z ≡ 0). let f : w ≡ k = omega arith in rw (d, f))
      (λ d. sym (unknown_refused w s b (inr (omega arith))) ∙ rw (ne_eqb z 0 d)) (eq_or_ne z 0)

  -- a record that is not refused is what its kind says
  unrefused : (instr_of k z s b ≡ Bad → ⊥) → by_kind w s (of_bits binary64 b) ≡ instr_of k z s b
  unfolding instr_within
  unrefused =
      cond_ind (λ (i : Instr). (i ≡ Bad → ⊥) → by_kind w s (of_bits binary64 b) ≡ i) (in_order slots k z s b)
      (by_kind k s (of_bits binary64 b)) Bad
      (λ t _. let f : w ≡ k = omega (arith, eqb-true z 0 (and_true (eqb z 0) _ t).0) in rw f)
      (λ _ n. absurd (n refl))

-- ---- the slot

-- a kind's operand is the slot, or 0
operand : (k s : ℕ) (x : Float) → operand_of (by_kind k s x) ≤ s
unfolding by_kind
operand k s x =
    let o = zero-le in
    let i = le_refl s in
    every_anywhere (λ (y : Instr). operand_of y ≤ s) Bad o (kinds s x) k
    (o, (i, (i, (o, (i, (o, (o, (o, (o, (o, (o, (o, (o, (i, (i, (i, tt))))))))))))))))

-- that of fields in order is one of the slots, however many there are
inside : (n k z s b : ℕ) → 0 < n → operand_of (instr_within n k z s b) < n
unfolding instr_within
inside n k z s b some =
    cond_ind (λ (i : Instr). operand_of i < n) (in_order n k z s b) (by_kind k s (of_bits binary64 b)) Bad
    (λ t.
    let fields = (and_true (has_slot k || eqb s 0) _ (and_true (eqb z 0) _ t).1).1 in
    let small = (and_true (has_value k || eqb b 0) (ltb s n) fields).1 in
    omega (arith, operand k s (of_bits binary64 b), ltb-true s n small))
    (λ _. some)

-- with more slots fields that are in order stay so
order_more : (n m k z s b : ℕ) → n ≤ m → in_order n k z s b ≡ true → in_order m k z s b ≡ true
order_more n m k z s b h t =
    let first = and_true (eqb z 0) _ t in
    let second = and_true (has_slot k || eqb s 0) _ first.1 in
    let third = and_true (has_value k || eqb b 0) (ltb s n) second.1 in
    rw (first.0, second.0, third.0, lt-ltb s m (omega (arith, ltb-true s n third.1)))

-- and what is not refused is the same instruction
instr_more : (n m k z s b : ℕ) → n ≤ m → (instr_within n k z s b ≡ Bad → ⊥)
    → instr_within m k z s b ≡ instr_within n k z s b
unfolding instr_within
instr_more n m k z s b h =
    cond_ind (λ (i : Instr). (i ≡ Bad → ⊥) → instr_within m k z s b ≡ i) (in_order n k z s b)
    (by_kind k s (of_bits binary64 b)) Bad
    (λ t _. rw (order_more n m k z s b h t)) (λ _ f. absurd (f refl))

-- ---- records of a program

module _ (p : List ℕ) where
  -- the slot of each is one of the slots
  pub slot_inside : (n o : ℕ) → 0 < n → operand_of (decode_at_within n p o) < n
  unfolding decode_at_within
  slot_inside n o some = inside n (get_or p o 0) (get_or p (o + 1) 0) (field p (o + 2) 2) (field p (o + 8) 8) some

  -- with more slots one that is not refused is the same
  pub decode_more : (n m o : ℕ) → n ≤ m → (decode_at_within n p o ≡ Bad → ⊥)
      → decode_at_within m p o ≡ decode_at_within n p o
  unfolding decode_at_within
  decode_more n m o h f = instr_more n m (get_or p o 0) (get_or p (o + 1) 0) (field p (o + 2) 2) (field p (o + 8) 8) h f

  -- what `decode` answers for a record of the program
  pub decoded_at_holds : (n : ℕ) → n < length p / record_bytes → decoded_at p n ≡ decode_at p (n * record_bytes)
  decoded_at_holds n h = rw (lt-ltb n (length p / record_bytes) h)

  -- what its fields are, checked, is that record
  pub checked_at : (n : ℕ) {f : Fields} → n < length p / record_bytes → HoldsFields p (n * record_bytes) f
      → instr_of f.kind 0 f.slot f.bits ≡ decoded_at p n
  unfolding decode_at_within
  checked_at n h q =
      rw (q.kind, q.slot, q.bits)
      (joined _ _ _ _ _ (field_two p (n * record_bytes) (omega arith)) ∙ sym (decoded_at_holds n h))

  -- `read` answers the same, where that is no refusal
  pub read_at_holds : (n : ℕ) → n < length p / record_bytes → (decode_at p (n * record_bytes) ≡ Bad → ⊥)
      → read_at p n ≡ decode_at p (n * record_bytes)
  unfolding decode_at_within
  read_at_holds n h k =
      rw (lt-ltb n (length p / record_bytes) h) (unrefused _ _ _ _ _ (field_two p (n * record_bytes) (omega arith)) k)
