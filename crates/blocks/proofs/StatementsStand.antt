-- The statements of a sheet that fits stand in its arrays.
use Prim.Native.Nat.{ℕ, zero, suc, ◌+◌, ◌-◌, ◌≤◌}
use mathlib.Core.Path.{◌≡◌, ap}
use mathlib.Core.List.{List}
use native.Mathlib.Omega.{arith}
use lib.ListN.{length}
use Rattle.drafts.specs.Places.{begins}
use Rattle.blocks.specs.Working.{AllStand}
use Rattle.blocks.specs.InsideWorking.{Turned}

module _ {n : ℕ} {bounds kinds : List ℕ} (t : Turned n bounds kinds) where
  -- with k statements from j on, j begins no later than the drafts end
  begins_inside : (k j : ℕ) → j + k ≡ n → begins bounds j ≤ length kinds
  begins_inside zero j e =
      let last : j ≡ n = omega arith in omega (arith, ap (begins bounds) last, t.ended)
  begins_inside (suc k) j e =
      omega (arith, t.rise j (omega arith), begins_inside k (j + 1) (omega arith))

  -- THEY STAND: each ends where the next one begins
  pub turned_stand : AllStand n bounds kinds
  turned_stand j h =
      record {
        bounded = omega (arith, t.one_more);
        inside = begins_inside (n - (j + 1)) (j + 1) (omega arith);
      }
