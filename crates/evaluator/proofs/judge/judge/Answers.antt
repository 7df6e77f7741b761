use borrow.Author.Rules.{rules}
use Rattle.evaluator.proofs.JudgedProgram.{first, ready, refused, next, unfinished, well}
use Rattle.evaluator.proofs.judge.judge.Goals as goal

pub loop-i-init : goal.loop-i-init
loop-i-init c = search first

pub step-requires : goal.step-requires
step-requires c = search (rules, ready)

pub loop-i-preserved : goal.loop-i-preserved
loop-i-preserved c = search (rules, next)

pub returns-then-is_none : goal.returns-then-is_none
returns-then-is_none c = search (rules, refused)

pub returns-then-t-ne0 : goal.returns-then-t-ne0
returns-then-t-ne0 c = unfinished c.loop-i.invariant (search rules) c.then-t-ne0.either

pub returns : goal.returns
returns c = search (rules, well)
