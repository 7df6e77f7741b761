-- Any two outcomes that the contract of the open entry allows are equal.
use Prim.Native.Nat.{ℕ}
use mathlib.Core.Path.{sym, ◌∙◌}
use mathlib.Core.List.{List}
use Rattle.laws.specs.Agree.{Agree2}
use Rattle.listing_text.specs.Contract.{Lists}

pub list : (text out : List ℕ) → Agree2 (Lists text out)
list text out r s a b x y = (x.needed ∙ sym y.needed, x.held ∙ sym y.held)
