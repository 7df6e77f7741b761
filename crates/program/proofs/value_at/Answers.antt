use mathlib.Core.Path.{sym, ◌∙◌}
use borrow.Author.Tests.{eq-eqb, ne_eqb}
use Rattle.drafts.specs.Kinds.{kind_from}
use Rattle.program.proofs.value_at.Goals as goal

pub returns-then-byte_at-eq-FROM : goal.returns-then-byte_at-eq-FROM
returns-then-byte_at-eq-FROM c =
    rw (
      eq-eqb _ kind_from (sym c.byte_at.ensures ∙ c.if-byte_at-eq-FROM.true),
      ← c.word_at-v.ensures,
      ← c.home_of.ensures.0,
    )
    c.word_at.ensures

pub returns : goal.returns
returns c =
    rw (ne_eqb _ kind_from (λ e. c.if-byte_at-eq-FROM.false (c.byte_at.ensures ∙ e))) c.word_at-v.ensures
