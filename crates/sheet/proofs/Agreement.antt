-- Any two outcomes that the contract of the open entry allows are equal.
use Prim.Native.Nat.{ℕ}
use mathlib.Core.Path.{sym, ◌∙◌}
use mathlib.Core.List.{List}
use Rattle.laws.specs.Agree.{Agree}
use Rattle.sheet.specs.Contract.{PutsFault}

pub put_fault : (list : List ℕ) (count line code place column : ℕ)
    → Agree (PutsFault list count line code place column)
put_fault list count line code place column l m p q = p ∙ sym q
