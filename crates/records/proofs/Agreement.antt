-- Any two outcomes that the contract of an open entry allows are equal.
use Prim.Native.Nat.{ℕ}
use mathlib.Core.Path.{sym, ◌∙◌}
use mathlib.Core.List.{List}
use Rattle.laws.specs.Agree.{Agree}
use Rattle.records.specs.Contract.{ReadsRecord, Decodes}

pub read : (program : List ℕ) (n : ℕ) → Agree (ReadsRecord program n)
read program n r s p q = p ∙ sym q

pub decode : (program : List ℕ) (n : ℕ) → Agree (Decodes program n)
decode program n r s p q = p ∙ sym q
