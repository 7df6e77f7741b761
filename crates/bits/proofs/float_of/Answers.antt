use mathlib.Core.Path.{sym, ◌∙◌}
use borrow.Author.Tests.{le-ltb, lt-ltb}
use lib.Ieee
use lib.Ieee.Bits.{nan_bits_above, nan_bits_is}
use Rattle.bits.proofs.Nans.{is_nan_holds}
use Rattle.bits.proofs.float_of.Goals as goal

pub float_from_bits-result : goal.float_from_bits-result
float_from_bits-result c =
    rw (nan_bits_above Ieee.binary64 c.args.bits, le-ltb 0x7ff0_0000_0000_0000 _ c.if-bits-gt9218868437227405312.false)
    tt

pub returns-then-bits-gt9218868437227405312 : goal.returns-then-bits-gt9218868437227405312
unfolding Ieee.div Ieee.of_bits
returns-then-bits-gt9218868437227405312 c =
    let b = c.args.bits in
    is_nan_holds (Ieee.of_bits Ieee.binary64 b)
    (sym (nan_bits_is Ieee.binary64 b) ∙ nan_bits_above Ieee.binary64 b
    ∙ lt-ltb 0x7ff0_0000_0000_0000 _ c.if-bits-gt9218868437227405312.true)
