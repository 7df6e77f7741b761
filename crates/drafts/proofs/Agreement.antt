-- Any two outcomes that the contract of an open entry allows are equal.
use Prim.Native.Nat.{ℕ}
use mathlib.Core.Path.{sym, ◌∙◌}
use mathlib.Core.List.{List}
use Rattle.laws.specs.Agree.{Agree}
use Rattle.drafts.specs.Contract.{WhetherDefining, WhetherUse, WhetherAsking, WhetherNamed}
use Rattle.drafts.specs.Contract.{WhetherClosing, CountsDraft, FindsLast, FindsHome}

pub is_defining : (kind : ℕ) → Agree (WhetherDefining kind)
is_defining kind r s p q = p ∙ sym q

pub is_use : (kind : ℕ) → Agree (WhetherUse kind)
is_use kind r s p q = p ∙ sym q

pub is_asking : (kind : ℕ) → Agree (WhetherAsking kind)
is_asking kind r s p q = p ∙ sym q

pub is_named : (kind : ℕ) → Agree (WhetherNamed kind)
is_named kind r s p q = p ∙ sym q

pub is_closing : (kind : ℕ) → Agree (WhetherClosing kind)
is_closing kind r s p q = p ∙ sym q

pub records_of : (kind : ℕ) → Agree (CountsDraft kind)
records_of kind r s p q = p.0 ∙ sym q.0

pub last_of : (bounds : List ℕ) (j : ℕ) → Agree (FindsLast bounds j)
last_of bounds j r s p q = p ∙ sym q

pub home_of : (places : List ℕ) (slot : ℕ) → Agree (FindsHome places slot)
home_of places slot r s p q = p.0 ∙ sym q.0
