-- Which floats are NaN.
use mathlib.Core.Path.{◌≡◌, refl}
use mathlib.Core.Bool.{true, false, not, true≢false, false≢true}
use lib.Dec.{T}
use lib.Ieee.{Float, nan, inf, fin, is_nan, ne}

-- a NaN is the one NaN
pub is_nan_holds : (x : Float) → is_nan x ≡ true → nan ≡ x
unfolding is_nan
is_nan_holds nan e = refl
is_nan_holds (inf s) e = absurd (false≢true e)
is_nan_holds (fin s m k) e = absurd (false≢true e)

-- what equals itself is none
pub no_nan : (x : Float) → ne x x ≡ false → T (not (is_nan x))
unfolding is_nan ne
no_nan nan e = absurd (true≢false e)
no_nan (inf s) e = tt
no_nan (fin s m k) e = tt
