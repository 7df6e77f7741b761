-- The line ends at the first byte 10 behind what was passed, or at the text's end.
use Rattle.std.proofs.Common.{◌-◌, length, take, drop, Some, None, arith}
use Rattle.std.proofs.Math.ListN.{length-drop}
use Rattle.deck.proofs.Cutting.{rest_whole, width_found}
use Rattle.deck.proofs.Ends.{passes_both}
use Rattle.deck.proofs.lines.line_end.Goals as goal

pub returns-in-Some-clause-value : goal.returns-in-Some-clause-value
returns-in-Some-clause-value c =
    let passed = passes_both c.pass-far.ensures c.pass-near.ensures in
    let text = c.args.text.now in
    let rest = take (length text - c.pass-near.result) (drop c.pass-near.result text) in
    let found = rw (rest_whole text c.pass-near.result) at (width_found rest (Some c.in-Some.i) c.in-Some.ensures) in
    omega (arith, passed.same, found)

pub returns-in-None-clause-value : goal.returns-in-None-clause-value
returns-in-None-clause-value c =
    let passed = passes_both c.pass-far.ensures c.pass-near.ensures in
    let text = c.args.text.now in
    let rest = take (length text - c.pass-near.result) (drop c.pass-near.result text) in
    let found = rw (rest_whole text c.pass-near.result) at (width_found rest None c.in-None.ensures) in
    omega (arith, passed.same, passed.upto, found, length-drop c.pass-near.result c.args.text.now)
