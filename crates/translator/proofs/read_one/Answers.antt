-- What the statement tells, noted or listed.
use native.Mathlib.Omega.{arith}
use Rattle.deck.specs.Next.{lines_at, cards_at}
use lib.ListN.{length}
use Rattle.sheet.specs.Reader.{told}
use Rattle.translator.specs.Working.{joined_at}
use Rattle.translator.proofs.Parsing.{drafts_few}
use Rattle.translator.proofs.Telling.{end_near, down_few, adds_says, adds_faulty}
use Rattle.translator.proofs.read_one.Goals as goal

pub overflow_cast-bounds : goal.overflow_cast-bounds
overflow_cast-bounds c =
    let a = c.args in
    let few = drafts_few (cards_at a.text.now a.s.start a.s.lines) a.s.closed in
    let ls = lines_at a.text.now a.s.start a.s.lines in
    let near = end_near a.n c.read_statement.ensures ls (length (joined_at a.text.now a.s)) few c.in-Ok.is in
    omega (arith, near, c.requires.drafts_fit)

pub overflow_add-s : goal.overflow_add-s
overflow_add-s c =
    let a = c.args in
    let spot =
    down_few a.text.now a.s.start a.s.lines c.in-Err.field-0.place c.find_spot-at.result c.find_spot-at.ensures in
    omega (arith, c.requires.first_fits, c.requires.brief, spot)

pub returns-in-Ok : goal.returns-in-Ok
unfolding told
returns-in-Ok c =
    let a = c.args in
    let ls = lines_at a.text.now a.s.start a.s.lines in
    adds_says a.n c.read_statement.ensures ls a.s.first a.lines.now a.bounds.now a.list.now c.in-Ok.is

pub returns-in-Err : goal.returns-in-Err
unfolding told
returns-in-Err c =
    let a = c.args in
    let ls = lines_at a.text.now a.s.start a.s.lines in
    adds_faulty a.n c.read_statement.ensures ls c.in-Err.field-0 a.s.first a.lines.now a.bounds.now a.list.now
    c.put_fault.new.list c.find_spot-at.result c.in-Err.is c.from-code.ensures c.find_spot-at.ensures
    c.put_fault.ensures
