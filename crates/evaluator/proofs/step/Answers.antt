use borrow.Author.Rules.{rules}
use mathlib.Core.Path.{refl}
use Prim.Native.Nat.{◌<◌}
use lib.ListN.{length, get_or}
use lib.Ieee.{binary64, nan, add, mul}
use native.Mathlib.Omega.{arith}
use Rattle.evaluator.proofs.EntryAnswers.{granted, step_refused, step_done}
use Rattle.evaluator.proofs.step.Goals as goal

pub returns-in_err-refuse : goal.returns-in_err-refuse
returns-in_err-refuse c = search (rules, step_refused)

pub run_all-requires : goal.run_all-requires
run_all-requires c = granted c.in_ok-refuse.ensures refl

pub each_state-requires-clause-sound : goal.each_state-requires-clause-sound
each_state-requires-clause-sound c = (granted c.in_ok-refuse.ensures refl).sound

pub each_state-requires-clause-room : goal.each_state-requires-clause-room
each_state-requires-clause-room c = omega (arith, (granted c.in_ok-refuse.ensures refl).values)

pub each_state-requires-clause-callable : goal.each_state-requires-clause-callable
each_state-requires-clause-callable c =
    let g = granted c.in_ok-refuse.ensures refl in
    λ old s x h. let n : s < length c.run_all.new.derivs = omega (arith, g.derivs) in search rules

pub bounds-values-0 : goal.bounds-values-0
bounds-values-0 c = omega (arith, (granted c.in_ok-refuse.ensures refl).values)

pub bounds-values-0-2 : goal.bounds-values-0-2
bounds-values-0-2 c = omega (arith, (granted c.in_ok-refuse.ensures refl).values)

pub returns : goal.returns
returns c =
    let h = c.args.h in
    let d = c.run_all.new.derivs in
    step_done _ _ _ c.in_ok-refuse.ensures h c.run_all.ensures
    (c.each_state.ensures (λ old s x. add binary64 old (mul binary64 h (get_or d s nan))) (λ old s x r p. search rules))
