use Rattle.std.proofs.Common.{◌∙◌, arith}
use Rattle.tokens.proofs.Skips.{behind_here, behind_next}
use Rattle.tokens.proofs.token_place.Goals as goal

pub loop-k-preserved : goal.loop-k-preserved
loop-k-preserved c =
    behind_next _ _ _ _ _ _ (omega arith) c.past_spaces-at.ensures c.past_token-from.ensures ∙ c.loop-k.invariant

pub returns : goal.returns
returns c =
    behind_here _ _ _ _ (omega arith) c.past_spaces.ensures ∙ c.loop-k.invariant
