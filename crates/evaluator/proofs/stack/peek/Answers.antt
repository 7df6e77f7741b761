use Rattle.evaluator.proofs.StackValues.{down_at}
use Rattle.evaluator.proofs.stack.peek.Goals as goal

pub returns : goal.returns
returns c = search down_at
