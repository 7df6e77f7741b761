-- What a record does: the shape of its instruction, whatever its kind's number.
use Rattle.std.specs.Prelude.{ℕ, cond, Float}
use Rattle.std.specs.Float.{binary64}
use Rattle.std.specs.Float.Ieee.{of_bits, add, sub, mul, div, neg, lt, le}
use Rattle.records.specs.declared.Instr.{Instr}
use Rattle.records.specs.declared.Instr.TheVariants.{Constant, Initial, Value, Slot, Add, Sub, Mul, Div}
use Rattle.records.specs.declared.Instr.TheVariants.{Neg, Insw, Limit, Compar, Store, Deriv, StoreAgain, Bad}

-- 0 and 1
abbrev pub zero64 : Float
zero64 = of_bits binary64 0

abbrev pub one64 : Float
one64 = of_bits binary64 0x3ff0_0000_0000_0000

-- INSW(P,A,B): A if P < 0, else B. A comparison with a NaN is false
abbrev pub insw_of : Float → Float → Float → Float
insw_of p a b = cond (lt p zero64) a b

-- LIMIT(L,U,X): L if X < L, else U if X > U, else X
abbrev pub limit_of : Float → Float → Float → Float
limit_of l u x = cond (lt x l) l (cond (lt u x) u x)

-- COMPAR(A,B): 1 if A >= B, else 0
abbrev pub compar_of : Float → Float → Float
compar_of a b = cond (le b a) one64 zero64

-- what is pushed
pub data Source : Type 0 where
  -- a value
  value : Float → Source
  -- what a slot holds
  slot : ℕ → Source

-- an operation on so many values
pub data Operation : Type 0 where
  one : (Float → Float) → Operation
  two : (Float → Float → Float) → Operation
  three : (Float → Float → Float → Float) → Operation

-- how many values that is
abbrev pub operands : Operation → ℕ
operands (one f) = 1
operands (two f) = 2
operands (three f) = 3

-- its result, where v gives the value that so many others stand on: the operand written last is topmost
abbrev pub applied : Operation → (ℕ → Float) → Float
applied (one f) v = f (v 0)
applied (two f) v = f (v 1) (v 0)
applied (three f) v = f (v 2) (v 1) (v 0)

-- what a record does
pub data Shape : Type 0 where
  -- a slot is a constant, with its value
  constant : ℕ → Float → Shape
  -- a slot is a state, with its initial value
  initial : ℕ → Float → Shape
  -- a value comes on the stack
  push : Source → Shape
  -- one value comes for the operands
  fold : Operation → Shape
  -- the value goes to a slot
  store : ℕ → Shape
  -- the value is the derivative of a slot
  derivative : ℕ → Shape
  -- the value goes again to a slot that a store set
  store_again : ℕ → Shape
  -- no record
  bad : Shape

-- a kind has a number and a shape
pub record Kind : Type 0 where
  pub number : ℕ
  pub shape : Shape

abbrev kind : ℕ → Shape → Kind
kind n s = record { number = n; shape = s }

-- THE KINDS: 1 constant (slot, value); 2 initial (slot, value); 3 push value; 4 push slot; 5 add; 6 subtract;
-- 7 multiply; 8 divide; 9 negate; 10 INSW; 11 LIMIT; 12 COMPAR; 13 store to slot; 14 derivative of slot; 15 store to
-- slot again
abbrev pub listed : Instr → Kind
listed (Constant s x) = kind 1 (constant s x)
listed (Initial s x) = kind 2 (initial s x)
listed (Value x) = kind 3 (push (value x))
listed (Slot s) = kind 4 (push (slot s))
listed Add = kind 5 (fold (two (add binary64)))
listed Sub = kind 6 (fold (two (sub binary64)))
listed Mul = kind 7 (fold (two (mul binary64)))
listed Div = kind 8 (fold (two (div binary64)))
listed Neg = kind 9 (fold (one neg))
listed Insw = kind 10 (fold (three insw_of))
listed Limit = kind 11 (fold (three limit_of))
listed Compar = kind 12 (fold (two compar_of))
listed (Store s) = kind 13 (store s)
listed (Deriv s) = kind 14 (derivative s)
listed (StoreAgain s) = kind 15 (store_again s)
listed Bad = kind 0 bad

abbrev pub shape_of : Instr → Shape
shape_of x = (listed x).shape
