-- Drafts by place: a sheet is two lists, the kinds of its drafts and their arguments, and bounds says where those of
-- each statement begin. Every read past an end gives 0, so that each of these says something of every list.
use Rattle.std.specs.Prelude.{ℕ, ◌+◌, ◌-◌, Bool, List, get_or}
use Rattle.laws.specs.Places.{gather, any_in}

-- the places of statement j
abbrev pub begins : List ℕ → ℕ → ℕ
begins bounds j = get_or bounds j 0

abbrev pub ends : List ℕ → ℕ → ℕ
ends bounds j = get_or bounds (j + 1) 0

-- what f gives at each place of statement j, and whether f holds at one
abbrev pub in_statement : {A : Type 0} → List ℕ → (ℕ → List A) → ℕ → List A
in_statement bounds f j = gather f (ends bounds j - begins bounds j) (begins bounds j)

abbrev pub any_of : List ℕ → (ℕ → Bool) → ℕ → Bool
any_of bounds f j = any_in f (ends bounds j - begins bounds j) (begins bounds j)

-- the kind of its first draft, and of its last
abbrev pub first_kind : List ℕ → List ℕ → ℕ → ℕ
first_kind bounds kinds j = get_or kinds (begins bounds j) 0

abbrev pub last_kind : List ℕ → List ℕ → ℕ → ℕ
last_kind bounds kinds j = get_or kinds (ends bounds j - 1) 0

-- the definition of a slot stands at this place, if places are those of the definitions
abbrev pub home_of : List ℕ → ℕ → ℕ
home_of places s = get_or places (s - 1) 0
