use mathlib.Core.Path.{refl, sym, ◌∙◌}
use native.Mathlib.Omega.{arith}
use borrow.Author.Tests.{eqb-true}
use Rattle.evaluator.specs.Judge.{unset_mark, given_mark, set_rule}
use Rattle.evaluator.specs.declared.judge.Mark.TheVariants.{Given}
use Rattle.evaluator.proofs.JudgedRecord.{goes, marked, remarked}
use Rattle.evaluator.proofs.judge.Reached.constant.Goals as goal

pub invariant_of-self-clause-owes : goal.invariant_of-self-clause-owes
invariant_of-self-clause-owes c =
    let t = c.args.self.now in
    let was = eqb-true _ unset_mark (sym c.has.ensures ∙ c.if-not-has.false) in
    let r = remarked t.marks c.args.s Given (omega arith) in
    omega (arith, rw was at r, t.owes)

pub returns : goal.returns
returns c =
    let t = c.args.self.now in
    let marked_so = sym c.has.ensures ∙ c.if-not-has.false in
    goes (set_rule 1 c.args.s given_mark) (omega arith) (omega arith) marked_so refl (omega arith)
    (marked t.marks c.args.s Given)
