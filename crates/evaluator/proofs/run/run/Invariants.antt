use Rattle.evaluator.proofs.RunProgram.{Running}
use Rattle.evaluator.proofs.run.run.Given as goal

abbrev pub invariant-loop-i : goal.invariant-loop-i
invariant-loop-i l = Running l.program l.initial.values l.initial.derivs l.values l.derivs l.s.items l.count l.i
