-- A refusal writes nothing.
use mathlib.Core.Path.{refl}
use mathlib.Core.List.{List}
use Prim.Native.Nat.{ℕ}
use borrow.Author.Tests.{eqb-true}
use lib.Dec.{eqb}
use lib.ListN.{set}
use lib.Ieee.{Float}
use Rattle.laws.proofs.Tests.{cond_ind}
use Rattle.records.specs.Record.{decoded}
use Rattle.records.specs.Shape.{zero64}
use Rattle.evaluator.specs.Judge.{Answer}
use Rattle.evaluator.specs.Machine.{Machine, begun}
use Rattle.evaluator.specs.Evaluate.{refusal, run_outcome, unless, ran, evaluated, evaluated_within, start_all}
use Rattle.evaluator.specs.Evaluate.{started, started_within, move_all}
use Rattle.evaluator.specs.Evaluate.{advanced, stepped, stepped_within, RefusedUnwritten}

-- without an answer 0 the buffers stay
unless_unwritten : (a : Answer) (v d : List Float) (m : Machine) → RefusedUnwritten v d (unless a v d m)
unless_unwritten a v d m =
    cond_ind (RefusedUnwritten v d) (eqb a.number 0) (run_outcome a m.values m.derivs) (run_outcome a v d)
    (λ t n. absurd (n (eqb-true a.number 0 t))) (λ _ _. (refl, refl))

-- A REFUSAL WRITES NOTHING: evaluating, starting and stepping
pub unwritten : (p : List ℕ) (h : Float) (v d : List Float)
    → RefusedUnwritten v d (evaluated p v d) × RefusedUnwritten v d (started p v d)
    × RefusedUnwritten v d (stepped p h v d)
unfolding evaluated_within started_within stepped_within
unwritten p h v d =
    let m = ran p v d in
    let moved = advanced h (move_all h m.derivs m.values (decoded p)) in
    let a = refusal p v d in (
      unless_unwritten a v d m,
      unless_unwritten a v d (begun (start_all (set v 0 zero64) (decoded p)) d),
      unless_unwritten a v d (begun moved m.derivs),
    )
