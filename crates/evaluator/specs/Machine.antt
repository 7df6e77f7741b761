-- The machine: one step for each instruction, and a run of them. Each operation rounds once.
use Rattle.std.specs.Prelude.{ℕ, List, [], ◌∷◌, get_or, set, drop, Float}
use Rattle.std.specs.Float.{nan}
use Rattle.records.specs.declared.Instr.{Instr}
use Rattle.records.specs.Shape.{Source, value, slot, operands, applied}
use Rattle.records.specs.Shape.{Shape, constant, initial, push, fold, store, derivative, store_again, bad, shape_of}

-- the working values, the topmost first; the values and the derivatives of the slots
pub record Machine : Type 0 where
  pub stack : List Float
  pub values : List Float
  pub derivs : List Float

-- the value that k others stand on
abbrev at : Machine → ℕ → Float
at m k = get_or m.stack k nan

-- the k topmost values give way to x
abbrev yield : Machine → ℕ → Float → Machine
yield m k x = record { stack = x ∷ drop k m.stack; values = m.values; derivs = m.derivs }

-- what is pushed
abbrev given : Machine → Source → Float
given m (value x) = x
given m (slot s) = get_or m.values s nan

-- the topmost value goes to a slot
abbrev stored : Machine → ℕ → Machine
stored m s = record { stack = drop 1 m.stack; values = set m.values s (at m 0); derivs = m.derivs }

-- what is done for each shape
abbrev pub act : Machine → Shape → Machine
act m (constant s x) = record { stack = m.stack; values = set m.values s x; derivs = m.derivs }
act m (initial s x) = m
act m (push p) = yield m 0 (given m p)
act m (fold o) = yield m (operands o) (applied o (at m))
act m (store s) = stored m s
act m (derivative s) = record { stack = drop 1 m.stack; values = m.values; derivs = set m.derivs s (at m 0) }
act m (store_again s) = stored m s
act m bad = m

-- one instruction
unfoldable pub step : Machine → Instr → Machine
step m x = act m (shape_of x)

unfoldable pub run : Machine → List Instr → Machine
run m [] = m
run m (x ∷ xs) = run (step m x) xs

-- a run begins with no working value
abbrev pub begun : List Float → List Float → Machine
begun v d = record { stack = []; values = v; derivs = d }
