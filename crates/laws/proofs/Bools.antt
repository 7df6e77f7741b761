-- Tests that fail.
use mathlib.Core.Path.{◌≡◌, refl}
use mathlib.Core.Bool.{Bool, true, false, ◌&&◌, ◌||◌}
use Rattle.laws.proofs.Tests.{not_both}

pub or_false : (a b : Bool) → (a || b) ≡ false → (a ≡ false) × (b ≡ false)
or_false true b e = absurd (not_both refl e)
or_false false b e = (refl, e)

-- the second part fails, if it is looked at
pub and_fails : (a : Bool) {b : Bool} → (a ≡ true → b ≡ false) → (a && b) ≡ false
and_fails true f = f refl
and_fails false f = refl
