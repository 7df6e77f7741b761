use Rattle.std.proofs.Common.{◌≤◌, length, sym, ◌∙◌, rules}
use Rattle.tokens.proofs.Cuts.{at_end, at_letter, at_figure, at_mark, at_other}
use Rattle.tokens.proofs.take_cut.Goals as goal

pub returns-in_default : goal.returns-in_default
returns-in_default c =
    let behind : length c.args.body.now ≤ c.past_spaces-at.result = search rules in
    at_end _ _ _ c.past_spaces-at.ensures behind

pub returns-then-is_ascii_uppercase : goal.returns-then-is_ascii_uppercase
returns-then-is_ascii_uppercase c =
    let there = c.in-Some.ensures.lookup.3 in
    at_letter _ _ _ c.past_spaces-at.ensures _ there.0 (there.1 0)
    (sym c.is_ascii_uppercase.ensures.value ∙ c.if-is_ascii_uppercase.true) _ c.read_name.ensures

pub returns-then-is_mark : goal.returns-then-is_mark
returns-then-is_mark c =
    let there = c.in-Some.ensures.lookup.3 in
    at_mark _ _ _ c.past_spaces-at.ensures _ there.0 (there.1 0)
    (sym c.is_ascii_uppercase.ensures.value ∙ c.if-is_ascii_uppercase.false) (sym c.is_mark.ensures ∙ c.if-is_mark.true)

pub returns-then-is_figure : goal.returns-then-is_figure
returns-then-is_figure c =
    let there = c.in-Some.ensures.lookup.3 in
    at_figure _ _ _ c.past_spaces-at.ensures _ there.0 (there.1 0)
    (sym c.is_ascii_uppercase.ensures.value ∙ c.if-is_ascii_uppercase.false)
    (sym c.is_figure.ensures ∙ c.if-is_figure.true) _ c.read_number.ensures

pub returns-else-is_figure : goal.returns-else-is_figure
returns-else-is_figure c =
    let there = c.in-Some.ensures.lookup.3 in
    at_other _ _ _ c.past_spaces-at.ensures _ there.0 (there.1 0)
    (sym c.is_ascii_uppercase.ensures.value ∙ c.if-is_ascii_uppercase.false)
    (sym c.is_mark.ensures ∙ c.if-is_mark.false) (sym c.is_figure.ensures ∙ c.if-is_figure.false) _ c.bad.ensures
