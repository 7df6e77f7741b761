-- The answer of a table that fits, of few statements and of many, and of one that does not.
use native.Mathlib.Omega.{arith}
use Rattle.order.proofs.AnswerByFit.{sorts_placed, sorts_unfit}
use Rattle.order.proofs.sort.Goals as goal

pub returns-then-out-n : goal.returns-then-out-n
returns-then-out-n c =
    sorts_unfit (λ _ h. omega arith)

pub returns-in_err-table : goal.returns-in_err-table
returns-in_err-table c =
    rw c.from_residual.ensures (sorts_unfit (λ t _. c.in_err-table.ensures t))

pub returns-then-n-le-FEW : goal.returns-then-n-le-FEW
returns-then-n-le-FEW c =
    sorts_placed c.in_ok-table.table c.in_ok-table.ensures (omega arith) c.place_in.ensures

pub returns : goal.returns
returns c =
    sorts_placed c.in_ok-table.table c.in_ok-table.ensures (omega arith) c.place_in-2.ensures
