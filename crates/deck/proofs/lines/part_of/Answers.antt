use Rattle.deck.proofs.Parts.{part_undotted}
use Rattle.deck.proofs.lines.part_of.Goals as goal

pub returns : goal.returns
returns c = rw c.unwrap_or.ensures (part_undotted c.args.line c.undotted.result c.undotted.ensures)
