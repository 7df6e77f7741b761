use Rattle.evaluator.proofs.JudgedProgram.{Judging}
use Rattle.evaluator.proofs.judge.judge.Given as goal

abbrev pub invariant-loop-i : goal.invariant-loop-i
invariant-loop-i l = Judging l.program l.t l.i
