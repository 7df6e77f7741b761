-- One instruction of the run: what it finds, and that it makes one step of the machine.
use Prim.Native.Nat.{ℕ, ◌-◌, ◌≤◌, ◌<◌}
use mathlib.Core.Path.{◌≡◌, refl, ap}
use mathlib.Core.List.{List}
use native.Mathlib.Omega.{arith}
use lib.ListN.{length, get_or, set}
use lib.Ieee.{Float, nan}
use Rattle.records.specs.Fields.{operand_of}
use Rattle.records.specs.Shape.{Operation, one, two, three, operands, applied, Shape, fold, shape_of}
use Rattle.records.specs.declared.Instr.{Instr}
use Rattle.records.specs.declared.Instr.TheVariants.{Constant, Initial, Value, Slot, Store, Deriv, StoreAgain, Bad}
use Rattle.evaluator.specs.Judge.{rule_of, takes, gives}
use Rattle.evaluator.specs.Machine.{step}
use Rattle.evaluator.specs.Stack.{below, Reaches, HasPlace, Yields, FindsRoom, OneStep}
use Rattle.evaluator.proofs.StackValues.{down_drop}

-- ---- what the instruction x finds, as which a match has found i

module _ {l : List Float} {n : ℕ} {v d : List Float} {i x : Instr} (e : i ≡ x) (r : FindsRoom i l n v d) where
  found : FindsRoom x l n v d
  found = rw e at r

  -- it reaches each of the values that it takes
  pub reach : {k : ℕ} → k < takes x → Reaches k n
  reach h = record { low = omega (arith, found.low); tall = r.tall }

  -- there is a place for the value that it gives
  pub room : {k : ℕ} → takes x ≡ k → gives x ≡ 1 → HasPlace k l n
  room t g = record { low = omega (arith, found.low); high = omega (arith, found.high); full = r.full }

  -- its slot is one of the values, and of the derivatives
  pub in_values : {s : ℕ} → operand_of x ≡ s → s < length v
  in_values h = omega (arith, found.slot, r.values)

  pub in_derivs : {s : ℕ} → operand_of x ≡ s → s < length d
  in_derivs h = omega (arith, found.slot, r.derivs)

  -- it takes a value away, where it takes one
  pub one_less : takes x ≡ 1 → 1 ≤ n
  one_less t = omega (arith, found.low)

-- ---- what it does

module _ {l : List Float} {n : ℕ} {v d : List Float} {i : Instr} where
  -- kinds 1 and 2, and the refusal, leave the stack
  pub constant_step : {s : ℕ} {y : Float} → i ≡ Constant s y → FindsRoom i l n v d → OneStep i l n v d l n (set v s y) d
  unfolding step
  constant_step e r = rw e (record { same = refl; count = omega arith; full = r.full })

  pub initial_step : {s : ℕ} {y : Float} → i ≡ Initial s y → FindsRoom i l n v d → OneStep i l n v d l n v d
  unfolding step
  initial_step e r = rw e (record { same = refl; count = omega arith; full = r.full })

  pub bad_step : i ≡ Bad → FindsRoom i l n v d → OneStep i l n v d l n v d
  unfolding step
  bad_step e r = rw e (record { same = refl; count = omega arith; full = r.full })

  -- kinds 13 to 15 take the topmost value away
  pub store_step : {s : ℕ} {y : Float} → i ≡ Store s → y ≡ below l n 0 → FindsRoom i l n v d
      → OneStep i l n v d l (n - 1) (set v s y) d
  unfolding step
  store_step e f r = rw e (record { same = rw (f, down_drop l n 1); count = omega arith; full = r.full })

  pub deriv_step : {s : ℕ} {y : Float} → i ≡ Deriv s → y ≡ below l n 0 → FindsRoom i l n v d
      → OneStep i l n v d l (n - 1) v (set d s y)
  unfolding step
  deriv_step e f r = rw e (record { same = rw (f, down_drop l n 1); count = omega arith; full = r.full })

  pub again_step : {s : ℕ} {y : Float} → i ≡ StoreAgain s → y ≡ below l n 0 → FindsRoom i l n v d
      → OneStep i l n v d l (n - 1) (set v s y) d
  unfolding step
  again_step e f r = rw e (record { same = rw (f, down_drop l n 1); count = omega arith; full = r.full })

  module _ {k : List Float} {m : ℕ} {y : Float} where
    -- kinds 3 and 4 push y
    pub value_step : i ≡ Value y → Yields 0 l n y k m → OneStep i l n v d k m v d
    unfolding step
    value_step e p = rw e (record { same = rw p.stack; count = p.count; full = p.full })

    pub slot_step : {s : ℕ} → i ≡ Slot s → Yields 0 l n y k m → y ≡ get_or v s nan → OneStep i l n v d k m v d
    unfolding step
    slot_step e p f = rw e (record { same = rw (p.stack, f); count = p.count; full = p.full })

    -- kinds 5 to 12 put the result y of an operation for its operands
    fold_step : {x : Instr} {o : Operation} → i ≡ x → shape_of x ≡ fold o → Yields (operands o) l n y k m
        → y ≡ applied o (below l n) → OneStep i l n v d k m v d
    unfolding step
    fold_step e h p f =
        let t = ap (λ (s : Shape). (rule_of s).takes) h in
        let g = ap (λ (s : Shape). (rule_of s).gives) h in
        rw e (record { same = rw (h, p.stack, f); count = omega (arith, t, g, p.count); full = p.full })

-- one, two or three of them
pub one_step : (f : Float → Float) {l k v d : List Float} {n m : ℕ} {i x : Instr} {y a : Float} → i ≡ x
    → shape_of x ≡ fold (one f) → Yields 1 l n y k m → a ≡ below l n 0 → y ≡ f a → OneStep i l n v d k m v d
one_step f e h p a q = fold_step e h p (rw (q, a))

pub two_step : (f : Float → Float → Float) {l k v d : List Float} {n m : ℕ} {i x : Instr} {y a b : Float} → i ≡ x
    → shape_of x ≡ fold (two f) → Yields 2 l n y k m → a ≡ below l n 1 → b ≡ below l n 0 → y ≡ f a b
    → OneStep i l n v d k m v d
two_step f e h p a b q = fold_step e h p (rw (q, a, b))

pub three_step : (f : Float → Float → Float → Float) {l k v d : List Float} {n m : ℕ} {i x : Instr} {y a b c : Float}
    → i ≡ x → shape_of x ≡ fold (three f) → Yields 3 l n y k m → a ≡ below l n 2 → b ≡ below l n 1 → c ≡ below l n 0
    → y ≡ f a b c → OneStep i l n v d k m v d
three_step f e h p a b c q = fold_step e h p (rw (q, a, b, c))
