-- A comment passes; any other line where trailing spaces aside nothing is left.
use Rattle.std.proofs.Common.{ℕ, ◌==◌, length, ap, refl, ◌∙◌}
use Rattle.std.proofs.Math.Seq.{length-take-le}
use Rattle.deck.specs.Lines.{trimmed, passed}
use Rattle.deck.proofs.Cutting.{trimmed_le}
use Rattle.deck.proofs.lines.is_passed.Goals as goal

pub returns-then-is_comment : goal.returns-then-is_comment
unfolding passed
returns-then-is_comment c = rw (← c.is_comment.ensures, c.if-is_comment.true) refl

pub returns-else-is_comment : goal.returns-else-is_comment
unfolding passed
returns-else-is_comment c =
    let l = c.args.line.now in
    rw (← c.is_comment.ensures, c.if-is_comment.false)
    (c.is_empty.ensures
    ∙ ap (λ (n : ℕ). n == 0) (ap length c.trimmed.ensures ∙ length-take-le (trimmed l) l (trimmed_le l)))
