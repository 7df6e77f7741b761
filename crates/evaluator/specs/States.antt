-- A function of the code that gives what a state becomes.
use Rattle.std.specs.Prelude.{ℕ, ◌<◌, ◌≡◌, List, get_or, set, Float}
use Rattle.std.specs.Float.{nan}
use Rattle.limits.specs.Limits.{slots}

-- it may be asked for each slot
abbrev pub MayBeAsked : (Float → ℕ → Float → Type 0) → Type 0
MayBeAsked P = (old : Float) (s : ℕ) (x : Float) → s < slots → P old s x

-- whatever it gives is what g gives
abbrev pub AnsweredBy : (Float → ℕ → Float → Float → Type 0) → (Float → ℕ → Float → Float) → Type 0
AnsweredBy P g = (old : Float) (s : ℕ) (x r : Float) → P old s x r → r ≡ g old s x

-- the values where the state of slot s becomes what g gives for its value, its slot and its initial value x
abbrev pub remade : (Float → ℕ → Float → Float) → List Float → ℕ → Float → List Float
remade g v s x = set v s (g (get_or v s nan) s x)
