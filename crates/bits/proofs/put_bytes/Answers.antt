-- The loop copies from the first byte to the last for which there is a place.
use native.Mathlib.Omega.{arith}
use Rattle.laws.proofs.Copies.{copied_first, copied_next, copied_last}
use Rattle.bits.proofs.put_bytes.Goals as goal

pub loop-i-init : goal.loop-i-init
loop-i-init c =
    let a = c.args in (c.room-n.ensures, copied_first a.from.now a.buf.now a.at)

pub loop-i-preserved : goal.loop-i-preserved
loop-i-preserved c =
    let a = c.args in (
      c.loop-i.invariant.0,
      copied_next a.from.now a.buf.now a.at c.loop-i.buf c.loop-i.i (omega arith) c.loop-i.invariant.1,
    )

pub returns : goal.returns
returns c =
    let a = c.args in
    copied_last a.from.now a.buf.now a.at c.loop-i.buf c.loop-i.i (omega arith) c.loop-i.invariant.1
