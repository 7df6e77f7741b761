-- A comparison with a NaN is false.
use mathlib.Core.Path.{◌≡◌, refl}
use mathlib.Core.Bool.{false}
use lib.Ieee.{Float, nan, inf, fin, lt, le}

-- on either side
pub nan_compares : (x : Float) → (lt nan x ≡ false) × (lt x nan ≡ false) × (le nan x ≡ false) × (le x nan ≡ false)
unfolding lt le
nan_compares nan = (refl, refl, refl, refl)
nan_compares (inf s) = (refl, refl, refl, refl)
nan_compares (fin s m e) = (refl, refl, refl, refl)
