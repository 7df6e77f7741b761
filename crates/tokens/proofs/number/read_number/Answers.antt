use Rattle.std.proofs.Common.{sym, ◌∙◌, arith}
use Rattle.tokens.proofs.Numbers.{empty, through, tail_after, no_tail, after_short, down_small}
use Rattle.tokens.proofs.number.read_number.Goals as goal

pub returns-then-m-eq0 : goal.returns-then-m-eq0
returns-then-m-eq0 c =
    c.bad.ensures ∙ empty _ _ _ c.read_mantissa-m.ensures c.if-m-eq0.true

pub returns-in_default : goal.returns-in_default
returns-in_default c =
    c.bad-in_default.ensures ∙ through _ _ _ c.read_mantissa-m.ensures c.if-m-eq0.false _ c.in_default.ensures

pub returns-then-is_tail : goal.returns-then-is_tail
returns-then-is_tail c =
    c.bad-then-is_tail.ensures
    ∙ tail_after _ _ _ c.read_mantissa-m.ensures c.in-Some.power (sym c.is_tail.ensures ∙ c.if-is_tail.true)
    ∙ through _ _ _ c.read_mantissa-m.ensures c.if-m-eq0.false _ c.in-Some.ensures

pub overflow_add-power : goal.overflow_add-power
overflow_add-power c =
    omega (
      arith,
      after_short _ _ _ c.read_mantissa-m.ensures,
      down_small _ _ c.in-Some.power c.in-Some.ensures,
      c.well_formed,
    )

pub returns : goal.returns
returns c =
    no_tail _ _ _ c.read_mantissa-m.ensures c.in-Some.power (sym c.is_tail.ensures ∙ c.if-is_tail.false) _
    c.scaled.ensures
    ∙ through _ _ _ c.read_mantissa-m.ensures c.if-m-eq0.false _ c.in-Some.ensures
