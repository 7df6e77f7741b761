-- A line for each byte 10, and one more where the last byte is another.
use Rattle.std.proofs.Common.{◌≡◌, ◌≢◌, ◌-◌, length, Some, arith, rules}
use Rattle.std.specs.List.{slice_get}
use Rattle.deck.proofs.Ends.{lines_none, lines_closed, lines_open}
use Rattle.deck.proofs.line_count.Goals as goal

pub returns-in-Some : goal.returns-in-Some
returns-in-Some c =
    let other : c.in-Some.field-0.now ≢ 10 = search rules in
    let many = lines_open c.args.text.now c.in-Some.field-0.now c.in-Some.ensures.value other in
    omega (arith, many, c.count_ends-n.ensures.0)

pub returns-in-None : goal.returns-in-None
returns-in-None c =
    let many = lines_none c.args.text.now c.in-None.ensures.value in omega (arith, many, c.count_ends-n.ensures.0)

pub returns-in-None-2 : goal.returns-in-None-2
returns-in-None-2 c =
    let text = c.args.text.now in
    let ten : Some 10 ≡ slice_get text (length text - 1) = search rules in
    omega (arith, lines_closed text ten, c.count_ends-n.ensures.0)
