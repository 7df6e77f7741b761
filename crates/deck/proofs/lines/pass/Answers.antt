-- The invariant: from each place that was passed it is the same line's end.
use Rattle.std.proofs.Common.{false, sym, ◌∙◌}
use native.Mathlib.Omega.{arith}
use Rattle.deck.proofs.Ends.{passes_first, passes_on, ends_fold}
use Rattle.deck.proofs.lines.pass.Goals as goal

pub loop-i-init : goal.loop-i-init
loop-i-init c =
    passes_first _ _ c.requires.0

pub loop-i-preserved : goal.loop-i-preserved
loop-i-preserved c =
    let i = c.loop-i.invariant in
    let none = sym (ends_fold false _) ∙ sym c.has_end.ensures ∙ c.if-has_end.false in
    passes_on _ i (omega (arith, c.loop-i-test.true, i.upto)) none
