-- The loop writes from the first byte to the last for which there is a place.
use Prim.Native.Nat.{◌-◌, min}
use mathlib.Core.Path.{◌≡◌}
use lib.ListN.{length}
use Rattle.bits.proofs.Lows.{Writing}
use Rattle.bits.proofs.put_low.Given as goal

abbrev pub invariant-loop-i : goal.invariant-loop-i
invariant-loop-i l =
    (l.count ≡ min (length l.initial.buf - l.at) l.n) × Writing l.initial.buf l.buf l.at l.n l.v l.rest l.i
