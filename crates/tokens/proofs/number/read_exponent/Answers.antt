use Rattle.std.proofs.Common.{sym, ◌∙◌}
use Rattle.tokens.proofs.Numbers.{no_exponent, digits_minus, digits_plus, no_letter}
use Rattle.tokens.proofs.number.read_exponent.Goals as goal

pub returns-then-first-ne69 : goal.returns-then-first-ne69
returns-then-first-ne69 c =
    no_letter c.args.body.now c.args.at c.args.first c.requires c.if-first-ne69.true

pub returns-then-n-eq0 : goal.returns-then-n-eq0
returns-then-n-eq0 c =
    no_exponent _ _ _ _ (sym c.requires ∙ c.if-first-ne69.false) c.past_sign-from.ensures c.digits-d.ensures
    c.then-n-eq0.either

pub returns-then-byte_at-eq45 : goal.returns-then-byte_at-eq45
returns-then-byte_at-eq45 c =
    digits_minus _ _ _ _ (sym c.requires ∙ c.if-first-ne69.false) c.past_sign-from.ensures c.digits-d.ensures
    c.if-n-eq0.false c.if-n-gt-EXPONENT_DIGITS.false (sym c.byte_at.ensures ∙ c.if-byte_at-eq45.true)

pub returns-else-byte_at-eq45 : goal.returns-else-byte_at-eq45
returns-else-byte_at-eq45 c =
    digits_plus _ _ _ _ (sym c.requires ∙ c.if-first-ne69.false) c.past_sign-from.ensures c.digits-d.ensures
    c.if-n-eq0.false c.if-n-gt-EXPONENT_DIGITS.false (λ e. c.if-byte_at-eq45.false (c.byte_at.ensures ∙ e))
