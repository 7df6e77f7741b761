-- What the open entries promise: r is the answer.
use Rattle.std.specs.Prelude.{ℕ, ◌≡◌, Bool, eqb}
use Rattle.tally.specs.declared.Tally.{Tally}
use Rattle.tally.specs.Counted.{counted}

-- `none`: nothing is counted yet
abbrev pub CountsNone : Tally → Type 0
CountsNone r = (r.tried ≡ 0) × (r.differ ≡ 0)

-- `right`: one comparison more, the same or not
abbrev pub CountsOne : Tally → Bool → Tally → Type 0
CountsOne t same r = r ≡ counted t same

-- `number`: one comparison more, of two numbers
abbrev pub CountsNumber : Tally → ℕ → ℕ → Tally → Type 0
CountsNumber t got wanted r = r ≡ counted t (eqb got wanted)

-- `finish`: nothing is answered
abbrev pub Finishes : Tally → Unit {0} → Type 0
Finishes t r = r ≡ tt
