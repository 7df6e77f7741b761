use Rattle.tokens.proofs.Words.{held_name, held_word}
use Rattle.tokens.proofs.step.held_name.Goals as goal

pub returns-then-kind-eq-NAME : goal.returns-then-kind-eq-NAME
returns-then-kind-eq-NAME c =
    held_name _ _ _ c.requires c.kind_of-kind.ensures c.if-kind-eq-NAME.true c.key_of-arg.ensures

pub returns-else-kind-eq-NAME : goal.returns-else-kind-eq-NAME
returns-else-kind-eq-NAME c =
    held_word _ _ c.kind_of-kind.ensures c.if-kind-eq-NAME.false
