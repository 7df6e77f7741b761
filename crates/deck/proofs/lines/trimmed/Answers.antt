-- The invariant: what is kept has the same front without trailing spaces as the line.
use Rattle.std.proofs.Common.{◌≡◌, ◌-◌, ◌≢◌, get_or, length, ◌∙◌, rules}
use Rattle.deck.proofs.Cutting.{front_space, front_other}
use Rattle.deck.proofs.lines.trimmed.Goals as goal

pub loop-kept-preserved : goal.loop-kept-preserved
loop-kept-preserved c =
    let k = c.loop-kept.kept.now in
    let last : get_or k (length k - 1) 0 ≡ 32 = search rules in
    front_space k c.in-32.len_at_least last ∙ c.loop-kept.invariant

pub returns-in_default-2 : goal.returns-in_default-2
returns-in_default-2 c =
    let k = c.loop-kept.kept.now in
    let last : get_or k (length k - 1) 0 ≢ 32 = search rules in
    front_other k c.in_default.len_at_least last ∙ c.loop-kept.invariant
