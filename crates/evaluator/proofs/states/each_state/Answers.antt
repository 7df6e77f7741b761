use native.Mathlib.Omega.{arith}
use borrow.Author.Rules.{rules}
use Rattle.evaluator.proofs.StatePasses.{first, ready, past_constant, past_initial, over, done}
use Rattle.evaluator.proofs.states.each_state.Goals as goal
use Rattle.evaluator.proofs.states.each_state.Goals.{in-Constant, in-Initial}

pub loop-i-init : goal.loop-i-init
loop-i-init g c = search first

pub bounds-values-at : goal.bounds-values-at
bounds-values-at g c =
    let a = c.loop-i.invariant in
    omega (arith, ready a c.loop-i-test.true c.in-Initial.ensures, a.wide, c.requires.room)

pub bounds-values-at-in-Initial : goal.bounds-values-at-in-Initial
bounds-values-at-in-Initial g c =
    let a = c.loop-i.invariant in
    omega (arith, ready a c.loop-i-test.true c.in-Initial.ensures, a.wide, c.requires.room)

pub f-requires : goal.f-requires
f-requires g c =
    c.requires.callable _ _ _ (ready c.loop-i.invariant c.loop-i-test.true c.in-Initial.ensures)

pub returns-in_default : goal.returns-in_default
returns-in_default g c = over c.loop-i.invariant c.read.result c.loop-i-test.true (search rules) c.read.ensures

pub loop-i-preserved : goal.loop-i-preserved
loop-i-preserved g c =
    elim c.match-read.branch [
      | in-Constant w ↦ rw w.values-is (past_constant c.loop-i.invariant c.loop-i-test.true w.in-Constant.ensures)
      | in-Initial w ↦
          rw w.values-is
          (past_initial c.loop-i.invariant c.loop-i-test.true w.in-Initial.ensures w.f.ensures)
    ]

pub returns : goal.returns
returns g c = done c.loop-i.invariant c.loop-i-test.false
