-- The loop goes over the drafts.
use mathlib.Core.Path.{◌∙◌}
use Rattle.model.proofs.DefinitionsCollected.{collecting_one, collecting_none, collecting_last}
use Rattle.model.proofs.collect.collect.Goals as goal
use Rattle.model.proofs.collect.collect.Goals.{then-is_defining, else-is_defining}

pub loop-i-preserved : goal.loop-i-preserved
loop-i-preserved c =
    let v = c.loop-i.invariant in
    let h = c.loop-i-test.true in
    elim c.if-is_defining.branch [
      | then-is_defining w ↦
          collecting_one v h c.is_defining.ensures w.if-is_defining.true (w.keys-is ∙ w.put.ensures)
          (w.places-is ∙ w.put-then-is_defining.ensures) w.d-is
      | else-is_defining w ↦
          collecting_none v h c.is_defining.ensures w.if-is_defining.false w.keys-is w.places-is w.d-is
    ]

pub returns : goal.returns
returns c =
    collecting_last c.loop-i.invariant c.loop-i-test.false
