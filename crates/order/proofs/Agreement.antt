-- Any two outcomes that the contract of the open entry allows are equal.
use Prim.Native.Nat.{ℕ}
use mathlib.Core.Path.{sym, ◌∙◌}
use mathlib.Core.List.{List}
use Rattle.laws.specs.Agree.{Agree2}
use Rattle.order.specs.Contract.{Sorts}

pub sort : (n : ℕ) (starts used out : List ℕ) → Agree2 (Sorts n starts used out)
sort n starts used out r s a b p q = (p.answer ∙ sym q.answer, p.content ∙ sym q.content)
