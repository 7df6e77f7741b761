use Rattle.evaluator.proofs.StackValues.{put_done}
use Rattle.evaluator.proofs.stack.put.Goals as goal

pub returns : goal.returns
returns c = search put_done
