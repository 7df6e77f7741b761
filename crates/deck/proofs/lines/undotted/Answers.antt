-- The dots stand at the end of the line without its trailing spaces.
use Rattle.deck.proofs.Parts.{dots_front, front_dots}
use Rattle.deck.proofs.lines.undotted.Goals as goal

pub returns : goal.returns
returns c =
    let cases = rw (c.trimmed.ensures, dots_front c.args.line.now) at c.strip_suffix.ensures.cases in
    front_dots c.args.line.now c.strip_suffix.result cases
