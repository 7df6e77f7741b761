-- The loop writes from the first byte to the last for which there is a place.
use native.Mathlib.Omega.{arith}
use Rattle.bits.proofs.Lows.{writing_next, writing_last}
use Rattle.bits.proofs.put_low.Goals as goal

pub loop-i-preserved : goal.loop-i-preserved
loop-i-preserved c = (
  c.loop-i.invariant.0,
  writing_next c.args.buf.now c.loop-i.buf c.args.at c.args.n c.args.v c.loop-i.rest
      c.loop-i.i (omega arith) c.loop-i.invariant.1,
)

pub returns : goal.returns
returns c =
    writing_last c.args.buf.now c.loop-i.buf c.args.at c.args.n c.args.v c.loop-i.rest c.loop-i.i
    (omega arith) c.loop-i.invariant.1
