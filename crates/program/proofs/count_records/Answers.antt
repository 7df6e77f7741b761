-- The loop counts on what each kind adds.
use mathlib.Core.Path.{ap, ◌∙◌}
use native.Mathlib.Omega.{arith}
use borrow.Author.Rules.{rules}
use Prim.Native.Nat.{◌≤◌}
use lib.ListN.{length, drop_of_length-le}
use Rattle.program.specs.Written.{record_count}
use Rattle.program.proofs.StepCases.{counted}
use Rattle.program.proofs.count_records.Goals as goal

pub loop-kind-init : goal.loop-kind-init
loop-kind-init c = (search rules, omega arith)

pub loop-kind-preserved : goal.loop-kind-preserved
loop-kind-preserved c =
    let kinds = c.args.kinds.now in
    let e =
    counted kinds c.loop-kind.kind-index c.loop-kind.n c.records_of-n.result (omega arith) c.records_of-n.ensures.0 in
    (omega (arith, c.records_of-n.ensures.1), e ∙ c.loop-kind.invariant.1)

pub returns : goal.returns
unfolding record_count
returns c =
    let kinds = c.args.kinds.now in
    let h : length kinds ≤ c.loop-kind.kind-index = omega arith in
    omega (arith, ap record_count (drop_of_length-le kinds h))
