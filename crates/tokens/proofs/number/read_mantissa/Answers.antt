use Rattle.tokens.proofs.Numbers.{with_point, no_point}
use Rattle.tokens.proofs.number.read_mantissa.Goals as goal

pub returns-then-whole-ne46 : goal.returns-then-whole-ne46
returns-then-whole-ne46 c =
    no_point c.args.body.now c.args.at c.digits-whole.result c.digits-whole.ensures c.if-whole-ne46.true

pub returns : goal.returns
returns c =
    with_point c.args.body.now c.args.at c.digits-whole.result c.digits-all.result c.digits-whole.ensures
    c.if-whole-ne46.false c.digits-all.ensures
