-- The stack in its array, and the machine that it stands for.
use Rattle.std.specs.Prelude.{ℕ, zero, suc, ◌+◌, ◌-◌, ◌≤◌, ◌<◌, ◌≡◌, List, [], ◌∷◌, length, get_or, drop, replicate}
use Rattle.std.specs.Prelude.{Float}
use Rattle.std.specs.Float.{nan}
use Rattle.limits.specs.Limits.{slots, stack_places}
use Rattle.records.specs.Fields.{operand_of}
use Rattle.records.specs.declared.Instr.{Instr}
use Rattle.records.specs.Shape.{zero64}
use Rattle.evaluator.specs.Machine.{Machine, step}
use Rattle.evaluator.specs.Judge.{takes, gives}
use Rattle.evaluator.specs.declared.stack.Stack.{Stack}

-- the first n items, the last of them first
unfoldable pub down : List Float → ℕ → List Float
down l zero = []
down l (suc n) = get_or l n nan ∷ down l n

-- the machine of n items, the values and the derivatives
abbrev pub machine : List Float → ℕ → List Float → List Float → Machine
machine l n v d = record { stack = down l n; values = v; derivs = d }

abbrev pub emptied : Stack
emptied = record { items = replicate stack_places zero64; count = 0 }

-- of n items, the value that k others stand on
abbrev pub below : List Float → ℕ → ℕ → Float
below l n k = get_or (down l n) k nan

-- of n values one stands under k others
pub record Reaches (k n : ℕ) : Type 0 where
  pub low : k < n
  pub tall : n ≤ stack_places

-- the k topmost of n values can give way to one
pub record HasPlace (k : ℕ) (l : List Float) (n : ℕ) : Type 0 where
  pub low : k ≤ n
  pub high : n - k < stack_places
  pub full : length l ≡ stack_places

-- they gave way to x, and there are r
pub record Yields (k : ℕ) (l : List Float) (n : ℕ) (x : Float) (l' : List Float) (r : ℕ) : Type 0 where
  pub stack : down l' r ≡ x ∷ drop k (down l n)
  pub count : r ≡ n - k + 1
  pub full : length l' ≡ stack_places

-- an instruction finds its slot, what it takes and room for what it gives
pub record FindsRoom (x : Instr) (l : List Float) (n : ℕ) (v d : List Float) : Type 0 where
  pub slot : operand_of x < slots
  pub low : takes x ≤ n
  pub high : n - takes x + gives x ≤ stack_places
  pub tall : n ≤ stack_places
  pub full : length l ≡ stack_places
  pub values : slots ≤ length v
  pub derivs : slots ≤ length d

-- it made one step of the machine
pub record OneStep (x : Instr) (l : List Float) (n : ℕ) (v d : List Float)
    (l' : List Float) (r : ℕ) (v' d' : List Float) : Type 0 where
  pub same : machine l' r v' d' ≡ step (machine l n v d) x
  pub count : r ≡ n - takes x + gives x
  pub full : length l' ≡ stack_places

-- the values and the derivatives are the machine's
pub record Ran (m : Machine) (v d : List Float) : Type 0 where
  pub values : v ≡ m.values
  pub derivs : d ≡ m.derivs
