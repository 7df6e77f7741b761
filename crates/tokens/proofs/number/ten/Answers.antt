-- Ten times x is the next power, exactly.
use Prim.Native.Nat.{ℕ, ◌+◌, ◌<◌}
use mathlib.Core.Path.{◌≡◌, refl, sym, ap, ◌∙◌}
use native.Mathlib.Numerals.{add-one}
use native.Mathlib.Omega.{arith}
use lib.Ieee
use lib.Ieee.{Float, binary64, mul}
use Rattle.limits.specs.Limits.{most_tens}
use Rattle.tokens.specs.Number.{ten_to}
use Rattle.tokens.proofs.Values.{ten_times}
use Rattle.tokens.proofs.number.ten.Goals as goal

-- one multiplication more
more : (x : Float) (i : ℕ) → i < most_tens → x ≡ ten_to i → mul binary64 x (ten_to 1) ≡ ten_to (i + 1)
more x i h e = ap (λ (y : Float). mul binary64 y (ten_to 1)) e ∙ (ten_times i h).0 ∙ ap ten_to (sym (add-one i))

pub loop-i-init : goal.loop-i-init
unfolding Ieee.of_bits Ieee.of_int ten_to
loop-i-init c =
    refl

pub loop-i-preserved : goal.loop-i-preserved
unfolding Ieee.of_bits Ieee.of_int ten_to
loop-i-preserved c =
    more c.loop-i.x c.loop-i._i (omega (arith, c.requires)) c.loop-i.invariant

pub returns : goal.returns
returns c =
    let done : c.loop-i._i ≡ c.args.k = omega arith in c.loop-i.invariant ∙ ap ten_to done
