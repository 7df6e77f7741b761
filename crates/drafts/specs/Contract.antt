-- What the open entries promise: r is the answer.
use Rattle.std.specs.Prelude.{ℕ, ◌-◌, ◌≤◌, ◌<◌, ◌≡◌, Bool, List}
use Rattle.laws.specs.Counts.{once}
use Rattle.drafts.specs.Kinds.{defines, is_use, asks, is_named, closes, writes}
use Rattle.drafts.specs.Places.{ends, home_of}

-- `is_defining`: whether a draft of this kind defines its name
abbrev pub WhetherDefining : ℕ → Bool → Type 0
WhetherDefining kind r = r ≡ defines kind

-- `is_use`: whether it uses what assigns its name
abbrev pub WhetherUse : ℕ → Bool → Type 0
WhetherUse kind r = r ≡ is_use kind

-- `is_asking`: whether it asks for a name that must be defined
abbrev pub WhetherAsking : ℕ → Bool → Type 0
WhetherAsking kind r = r ≡ asks kind

-- `is_named`: whether its argument is a name's key
abbrev pub WhetherNamed : ℕ → Bool → Type 0
WhetherNamed kind r = r ≡ is_named kind

-- `is_closing`: whether it closes a unit of the order
abbrev pub WhetherClosing : ℕ → Bool → Type 0
WhetherClosing kind r = r ≡ closes kind

-- `records_of`: how many records it writes, one or none
abbrev pub CountsDraft : ℕ → ℕ → Type 0
CountsDraft kind r = (r ≡ once (writes kind)) × (r ≤ 1)

-- `last_of`: the last place of statement j, 0 where it has none before its end
abbrev pub FindsLast : List ℕ → ℕ → ℕ → Type 0
FindsLast bounds j r = r ≡ ends bounds j - 1

-- `home_of`: the place at which a slot is defined, 0 past the end
abbrev pub FindsHome : List ℕ → ℕ → ℕ → Type 0
FindsHome places slot r = (r ≡ home_of places slot) × (r < 65536)
