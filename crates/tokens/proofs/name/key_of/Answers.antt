-- As many bytes as a name may have are two times three.
use Rattle.std.proofs.Common.{arith}
use Rattle.tokens.proofs.Words.{key_threes}
use Rattle.tokens.proofs.name.key_of.Goals as goal

pub returns : goal.returns
returns c =
    omega (arith, key_threes c.args.name.now)
