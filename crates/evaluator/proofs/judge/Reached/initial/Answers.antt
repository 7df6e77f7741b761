use mathlib.Core.Path.{refl, sym, ◌∙◌}
use native.Mathlib.Omega.{arith}
use borrow.Author.Tests.{eqb-true}
use Rattle.evaluator.specs.Judge.{unset_mark, state_mark, set_rule}
use Rattle.evaluator.specs.declared.judge.Mark.TheVariants.{State}
use Rattle.evaluator.proofs.JudgedRecord.{goes, marked, remarked, owed_few}
use Rattle.evaluator.proofs.judge.Reached.initial.Goals as goal

pub overflow_add-self : goal.overflow_add-self
overflow_add-self c =
    let t = c.args.self.now in
    omega (arith, owed_few t.marks, t.owes)

pub invariant_of-self-clause-owes : goal.invariant_of-self-clause-owes
invariant_of-self-clause-owes c =
    let t = c.args.self.now in
    let was = eqb-true _ unset_mark (sym c.has.ensures ∙ c.if-not-has.false) in
    let r = remarked t.marks c.args.s State (omega arith) in
    omega (arith, rw was at r, t.owes)

pub returns : goal.returns
returns c =
    let t = c.args.self.now in
    let marked_so = sym c.has.ensures ∙ c.if-not-has.false in
    goes (set_rule 2 c.args.s state_mark) (omega arith) (omega arith) marked_so refl (omega arith)
    (marked t.marks c.args.s State)
