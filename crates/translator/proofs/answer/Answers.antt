-- The first three refusals, then the verdict in a room.
use Prim.Native.Nat.{◌≤◌}
use native.Mathlib.Omega.{arith}
use lib.ListN.{length}
use Rattle.limits.specs.Limits.{text_lines}
use Rattle.deck.specs.Lines.{lines_of}
use Rattle.translator.specs.Working.{asks_names}
use Rattle.translator.proofs.Verdicts.{bytes_lines, says_two, says_three, says_decided}
use Rattle.translator.proofs.answer.Goals as goal

pub returns-then-text-gt-TEXT_BYTES : goal.returns-then-text-gt-TEXT_BYTES
returns-then-text-gt-TEXT_BYTES c =
    let a = c.args in
    says_two (asks_names (length a.rows.now)) a.text.now a.faults.now a.out.now a.ordered.now
    (omega arith) c.if-text-gt-TEXT_BYTES.true

-- ---- few bytes
pub returns-then-text-le-SMALL : goal.returns-then-text-le-SMALL
returns-then-text-le-SMALL c =
    let a = c.args in
    says_decided (asks_names (length a.rows.now)) a.text.now a.faults.now a.out.now a.ordered.now
    (omega arith)
    c.if-text-gt-TEXT_BYTES.false (bytes_lines a.text.now (omega (arith, c.if-text-le-SMALL.true)))
    c.in_small_room.result c.in_small_room.ensures

-- ---- no more bytes than there may be lines
pub returns-then-text-le-TEXT_LINES : goal.returns-then-text-le-TEXT_LINES
returns-then-text-le-TEXT_LINES c =
    let a = c.args in
    says_decided (asks_names (length a.rows.now)) a.text.now a.faults.now a.out.now a.ordered.now
    (omega arith) c.if-text-gt-TEXT_BYTES.false
    (bytes_lines a.text.now c.if-text-le-TEXT_LINES.true) c.in_large_room.result c.in_large_room.ensures

pub returns-then-line_count-gt-TEXT_LINES : goal.returns-then-line_count-gt-TEXT_LINES
returns-then-line_count-gt-TEXT_LINES c =
    let a = c.args in
    says_three (asks_names (length a.rows.now)) a.text.now a.faults.now a.out.now a.ordered.now
    (omega arith) c.if-text-gt-TEXT_BYTES.false
    (rw c.line_count.ensures at c.if-line_count-gt-TEXT_LINES.true)

pub returns : goal.returns
returns c =
    let few_lines : length (lines_of c.args.text.now) ≤ text_lines =
    rw c.line_count.ensures at c.if-line_count-gt-TEXT_LINES.false in
    let a = c.args in
    says_decided (asks_names (length a.rows.now)) a.text.now a.faults.now a.out.now a.ordered.now
    (omega arith) c.if-text-gt-TEXT_BYTES.false few_lines
    c.in_large_room-2.result c.in_large_room-2.ensures
