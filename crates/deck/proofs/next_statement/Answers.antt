-- The invariant: what is found from the present line on is what is found from the cursor.
use Rattle.std.proofs.Common.{Some, None, refl, sym, ap, ◌∙◌, arith}
use Rattle.deck.proofs.Steps.{seeking_first, seeking_next, seeking_run, seeking_end, found_none}
use Rattle.deck.proofs.Walking.{found_both}
use Rattle.deck.proofs.next_statement.Goals as goal

pub returns-then-saturating_add-c : goal.returns-then-saturating_add-c
returns-then-saturating_add-c c =
    found_both c.args.text.now c.args.c None (found_none c.args.text.now c.args.c (omega arith))

pub loop-line-init : goal.loop-line-init
loop-line-init c = (refl, seeking_first c.args.text.now c.args.c (omega arith))

pub returns-in_err-line : goal.returns-in_err-line
returns-in_err-line c =
    let text = c.args.text.now in
    let sought = c.loop-line.invariant in
    let end = rw sought.0 at c.in_err-line.ensures.steps.1.0 in
    found_both text c.args.c _ (c.from_residual.ensures ∙ seeking_end text c.args.c sought.1 end)

pub returns-then-not-is_passed : goal.returns-then-not-is_passed
returns-then-not-is_passed c =
    let text = c.args.text.now in
    let sought = c.loop-line.invariant in
    let line = rw sought.0 at c.in_ok-line.ensures.steps.1.0 in
    let starts = sym c.is_passed.ensures ∙ c.if-not-is_passed.true in
    found_both text c.args.c (Some c.run.result)
    (seeking_run text c.args.c sought.1 c.in_ok-line.line.now (Some c.run.result) line starts c.run.ensures)

pub loop-line-preserved : goal.loop-line-preserved
loop-line-preserved c =
    let text = c.args.text.now in
    let sought = c.loop-line.invariant in
    let steps = c.in_ok-line.ensures.steps in
    let line = rw sought.0 at steps.1.0 in
    let over = sym c.is_passed.ensures ∙ c.if-not-is_passed.false in (
      ap (λ t. t.now) steps.0 ∙ sought.0,
      rw steps.1.1 (seeking_next text c.args.c sought.1 c.in_ok-line.line.now line over),
    )
