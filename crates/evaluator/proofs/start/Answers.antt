use borrow.Author.Rules.{rules}
use mathlib.Core.Path.{refl}
use native.Mathlib.Omega.{arith}
use lib.ListN.{length-set}
use Rattle.evaluator.proofs.EntryAnswers.{granted, start_refused, start_done}
use Rattle.evaluator.proofs.start.Goals as goal

pub returns-in_err-refuse : goal.returns-in_err-refuse
returns-in_err-refuse c = search (rules, start_refused)

pub bounds-values-0 : goal.bounds-values-0
bounds-values-0 c = omega (arith, (granted c.in_ok-refuse.ensures refl).values)

pub each_state-requires-clause-sound : goal.each_state-requires-clause-sound
each_state-requires-clause-sound c = (granted c.in_ok-refuse.ensures refl).sound

pub each_state-requires-clause-room : goal.each_state-requires-clause-room
each_state-requires-clause-room c = simp length-set (granted c.in_ok-refuse.ensures refl).values

pub returns : goal.returns
returns c = start_done _ _ _ c.in_ok-refuse.ensures (c.each_state.ensures (λ old s x. x) (λ old s x r p. search rules))
