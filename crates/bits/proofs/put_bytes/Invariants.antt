-- The loop copies from the first byte to the last for which there is a place.
use Prim.Native.Nat.{◌-◌, min}
use mathlib.Core.Path.{◌≡◌}
use lib.ListN.{length}
use Rattle.laws.proofs.Copies.{Copied}
use Rattle.bits.proofs.put_bytes.Given as goal

abbrev pub invariant-loop-i : goal.invariant-loop-i
invariant-loop-i l =
    (l.n ≡ min (length l.initial.buf - l.at) (length l.from)) × Copied l.from l.initial.buf l.buf l.at l.i
