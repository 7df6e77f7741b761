-- The answer is that of the grammar for the row, a fault's token with its place.
use mathlib.Core.Path.{◌≡◌, ap, ◌∙◌}
use lib.ListN.{length}
use Rattle.std.specs.Prelude.{Err}
use Rattle.tokens.specs.Row.{row_of}
use Rattle.grammar.specs.declared.ParseError.{ParseError}
use Rattle.grammar.specs.declared.ParseError.TheVariants.{NoRoom, Misread}
use Rattle.translator.proofs.Parsing.{place_same, parsed_tells, never_unparsed}
use Rattle.translator.proofs.parse.Goals as goal

pub unreachable-requires : goal.unreachable-requires
unreachable-requires c =
    let p = c.parse_row in
    let e : c.in-Err-NoRoom.field-0 ≡ NoRoom = c.in-Err-NoRoom.field-0-is in
    never_unparsed c.requires p.result p.new.out_kinds p.new.out_args p.ensures
    (c.in-Err-NoRoom.is ∙ ap (λ (x : ParseError). Err x) e)

pub returns-in-Ok : goal.returns-in-Ok
returns-in-Ok c held long =
    let p = c.parse_row in
    parsed_tells c.requires p.result p.new.out_kinds p.new.out_args p.ensures ((row_of c.args.body.now).tokens) held
    _ (rw c.in-Ok.is)

pub returns-in-Err-Misread : goal.returns-in-Err-Misread
returns-in-Err-Misread c held long =
    let p = c.parse_row in
    let m = c.in-Err-Misread.misread in
    let e : c.in-Err-Misread.field-0 ≡ Misread m = c.in-Err-Misread.field-0-is in
    let same = place_same c.args.body.now (length c.args.row.now) m.at long in
    parsed_tells c.requires p.result p.new.out_kinds p.new.out_args p.ensures ((row_of c.args.body.now).tokens) held
    _ (rw (c.in-Err-Misread.is, e, c.place_of.ensures, same))
