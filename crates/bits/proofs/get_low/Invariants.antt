-- The loop reads from the last byte to the first.
use Prim.Native.Nat.{min}
use Rattle.bits.proofs.Lows.{Reading}
use Rattle.bits.proofs.get_low.Given as goal

abbrev pub invariant-loop-i : goal.invariant-loop-i
invariant-loop-i l =
    Reading l.part (min l.n 8) l.i l.word
