use borrow.Author.Rules.{rules}
use Rattle.evaluator.proofs.RunProgram.{first, ready, next, last}
use Rattle.evaluator.proofs.run.run.Goals as goal

pub loop-i-preserved : goal.loop-i-preserved
loop-i-preserved c =
    next c.loop-i.invariant c.loop-i-test.true c.read-ins.ensures c.run_step-count.ensures
    (search rules) (search rules)

pub loop-i-init : goal.loop-i-init
loop-i-init c = search first

pub run_step-count-requires : goal.run_step-count-requires
run_step-count-requires c = search ready

pub returns : goal.returns
returns c = search last
