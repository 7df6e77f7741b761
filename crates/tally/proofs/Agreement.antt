-- Any two outcomes that the contract of an open entry allows are equal.
use Rattle.std.proofs.Common.{ℕ, Bool, sym, ap₂, ◌∙◌}
use Rattle.laws.specs.Agree.{Agree}
use Rattle.tally.specs.declared.Tally.{Tally}
use Rattle.tally.specs.Contract.{CountsNone, CountsOne, CountsNumber, Finishes}

-- a tally is its two counts
pub none : Agree CountsNone
none r s p q = ap₂ (λ (i j : ℕ). record { tried = i; differ = j }) (p.0 ∙ sym q.0) (p.1 ∙ sym q.1)

pub right : (t : Tally) (same : Bool) → Agree (CountsOne t same)
right t same r s p q = p ∙ sym q

pub number : (t : Tally) (got wanted : ℕ) → Agree (CountsNumber t got wanted)
number t got wanted r s p q = p ∙ sym q

pub finish : (t : Tally) → Agree (Finishes t)
finish t r s p q = p ∙ sym q
