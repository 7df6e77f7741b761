-- The instructions that a record can hold.
use Rattle.std.specs.Prelude.{◌<◌, T, Float}
use Rattle.std.specs.Float.{binary64}
use Rattle.std.specs.Float.Ieee.{fits}
use Rattle.limits.specs.Limits.{slots}
use Rattle.records.specs.declared.Instr.{Instr}
use Rattle.records.specs.Shape.{value, slot, Shape, constant, initial, push, fold, store, derivative}
use Rattle.records.specs.Shape.{store_again, bad, shape_of}

-- an f64
abbrev pub Double : Float → Type 0
Double x = T (fits binary64 x)

-- what a record can hold: a slot is one of the slots, a value an f64, and it is no refusal
abbrev pub ProperAs : Shape → Type 0
ProperAs (constant s x) = (s < slots) × Double x
ProperAs (initial s x) = (s < slots) × Double x
ProperAs (push (value x)) = Double x
ProperAs (push (slot s)) = s < slots
ProperAs (fold o) = Unit {0}
ProperAs (store s) = s < slots
ProperAs (derivative s) = s < slots
ProperAs (store_again s) = s < slots
ProperAs bad = ⊥

-- an instruction that one can hold
abbrev pub Proper : Instr → Type 0
Proper x = ProperAs (shape_of x)
