-- Digits read with a cap: what is above the cap stays above it.
use Prim.Native.Nat.{ℕ, ◌+◌, ◌*◌, ◌-◌, ◌≤◌, min}
use mathlib.Core.Path.{◌≡◌, refl, sym, ap, ◌∙◌}
use mathlib.Core.List.{List, [], ◌∷◌, ◌++◌}
use native.Mathlib.Omega.{arith}
use Rattle.tokens.specs.Number.{decimal}
use Rattle.tokens.specs.Capped.{cap}

-- digits behind a number that was held down
pub decimal_cap : (a : ℕ) (xs : List ℕ) → min cap (decimal (min cap a) xs) ≡ min cap (decimal a xs)
unfolding decimal
decimal_cap a [] = omega arith
decimal_cap a (x ∷ xs) =
    let step : min cap (min cap a * 10 + (x - 48)) ≡ min cap (a * 10 + (x - 48)) = omega arith in
    sym (decimal_cap (min cap a * 10 + (x - 48)) xs) ∙ ap (λ (n : ℕ). min cap (decimal n xs)) step
    ∙ decimal_cap (a * 10 + (x - 48)) xs

-- one digit more
pub decimal_more : (a b x : ℕ) (xs ys : List ℕ) → b ≡ min cap (a * 10 + (x - 48)) → ys ≡ x ∷ xs
    → min cap (decimal b xs) ≡ min cap (decimal a ys)
unfolding decimal
decimal_more a b x xs ys e f = rw (e, f) (decimal_cap (a * 10 + (x - 48)) xs)

-- no digit more
pub decimal_stop : (a : ℕ) (ys : List ℕ) → a ≤ cap → ys ≡ [] → a ≡ min cap (decimal a ys)
unfolding decimal
decimal_stop a ys h f = rw f (omega arith)

-- the digits of two lists are those of the second behind the first
pub decimal_append : (a : ℕ) (xs ys : List ℕ) → decimal a (xs ++ ys) ≡ decimal (decimal a xs) ys
unfolding decimal
decimal_append a [] ys = refl
decimal_append a (x ∷ xs) ys = decimal_append (a * 10 + (x - 48)) xs ys
