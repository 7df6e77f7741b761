use borrow.Author.Rules.{rules}
use mathlib.Core.Path.{refl}
use Rattle.evaluator.proofs.EntryAnswers.{granted, evaluate_refused, evaluate_done}
use Rattle.evaluator.proofs.evaluate.Goals as goal

pub returns-in_err-refuse : goal.returns-in_err-refuse
returns-in_err-refuse c = search (rules, evaluate_refused)

pub run_all-requires : goal.run_all-requires
run_all-requires c = granted c.in_ok-refuse.ensures refl

pub returns : goal.returns
returns c = evaluate_done _ _ _ c.in_ok-refuse.ensures c.run_all.ensures
