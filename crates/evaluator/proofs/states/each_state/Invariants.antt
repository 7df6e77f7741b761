use Rattle.evaluator.proofs.StatePasses.{Passing}
use Rattle.evaluator.proofs.states.each_state.Given as goal

abbrev pub invariant-loop-i : goal.invariant-loop-i
invariant-loop-i g l = Passing (goal.F-post g l.f) l.program l.initial.values l.values l.i
