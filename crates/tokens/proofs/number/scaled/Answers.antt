use Rattle.std.proofs.Common.{arith}
use Rattle.tokens.proofs.Numbers.{out_of_range, far, number_up, number_down}
use Rattle.tokens.proofs.number.scaled.Goals as goal

pub returns-then-m-gt-MOST_DIGITS : goal.returns-then-m-gt-MOST_DIGITS
returns-then-m-gt-MOST_DIGITS c =
    let a = c.args in
    out_of_range a.m a.up a.down
    (far a.m a.up a.down c.abs_diff-k.result c.abs_diff-k.ensures c.then-m-gt-MOST_DIGITS.either)

pub returns-then-down-up : goal.returns-then-down-up
returns-then-down-up c =
    let a = c.args in
    number_up a.m a.up a.down c.abs_diff-k.result c.ten-x.result (omega arith) c.abs_diff-k.ensures (omega arith)
    c.ten-x.ensures c.if-down-up.true

pub returns-else-down-up : goal.returns-else-down-up
returns-else-down-up c =
    let a = c.args in
    number_down a.m a.up a.down c.abs_diff-k.result c.ten-x.result (omega arith) c.abs_diff-k.ensures (omega arith)
    c.ten-x.ensures c.if-down-up.false
