-- By the first byte.
use Rattle.std.proofs.Common.{rules}
use Rattle.tokens.specs.Skips.{token_end}
use Rattle.tokens.proofs.places.past_token.Goals as goal

pub returns-then-is_ascii_uppercase : goal.returns-then-is_ascii_uppercase
unfolding token_end
returns-then-is_ascii_uppercase c =
    search rules

pub returns-then-is_figure : goal.returns-then-is_figure
unfolding token_end
returns-then-is_figure c =
    search rules

pub returns-then-at-body : goal.returns-then-at-body
unfolding token_end
returns-then-at-body c =
    search rules

pub returns-else-at-body : goal.returns-else-at-body
unfolding token_end
returns-else-at-body c =
    search rules
