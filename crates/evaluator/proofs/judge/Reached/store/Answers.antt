use mathlib.Core.Path.{refl, sym, ◌∙◌}
use native.Mathlib.Omega.{arith}
use borrow.Author.Tests.{eqb-true, eq-eqb}
use Rattle.laws.proofs.Tests.{and_both}
use Rattle.evaluator.specs.Judge.{unset_mark, store_rule}
use Rattle.evaluator.specs.declared.judge.Mark.TheVariants.{Stored}
use Rattle.evaluator.proofs.JudgedRecord.{goes, marked, remarked}
use Rattle.evaluator.proofs.judge.Reached.store.Goals as goal

pub invariant_of-self-clause-owes : goal.invariant_of-self-clause-owes
invariant_of-self-clause-owes c =
    let t = c.args.self.now in
    let was = eqb-true _ unset_mark (sym c.has.ensures ∙ c.if-not-has.false) in
    let r = remarked t.marks c.args.s Stored (omega arith) in
    omega (arith, rw was at r, t.owes)

pub returns : goal.returns
returns c =
    let t = c.args.self.now in
    let marked_so = sym c.has.ensures ∙ c.if-not-has.false in
    let fine = and_both _ _ (eq-eqb t.height 1 (omega arith)) marked_so in
    goes (store_rule c.args.s) (omega arith) (omega arith) fine refl (omega arith) (marked t.marks c.args.s Stored)
