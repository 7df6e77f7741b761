-- Rows of places: i, i + 1, .., k of them.
use Rattle.std.specs.Prelude.{ℕ, zero, suc, Bool, true, false, ◌||◌, List, [], ◌∷◌, ◌++◌}

-- what f gives at each of the k places from i on, one after the other
unfoldable pub gather : {A : Type 0} → (ℕ → List A) → ℕ → ℕ → List A
gather f zero i = []
gather f (suc k) i = f i ++ gather f k (suc i)

-- f holds at one of the k places from i on
unfoldable pub any_in : (ℕ → Bool) → ℕ → ℕ → Bool
any_in f zero i = false
any_in f (suc k) i =
    let r = any_in f k (suc i) in
    f i || r

-- x alone, if the test holds
abbrev pub only_if : {A : Type 0} → Bool → A → List A
only_if true x = x ∷ []
only_if false x = []
