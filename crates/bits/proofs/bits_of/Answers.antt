use lib.Ieee
use lib.Ieee.Compare.{differs_from_itself}
use Rattle.bits.proofs.Nans.{no_nan}
use Rattle.bits.proofs.bits_of.Goals as goal

pub float_to_bits-result : goal.float_to_bits-result
float_to_bits-result c =
    no_nan c.args.x c.if-x.false

pub returns-then-x : goal.returns-then-x
unfolding Ieee.to_bits
returns-then-x c =
    rw (differs_from_itself c.args.x (rw c.if-x.true tt))
