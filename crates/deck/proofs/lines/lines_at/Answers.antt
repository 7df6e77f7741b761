-- They are the first of those from the place on.
use Rattle.deck.proofs.Ahead.{lines_taken}
use Rattle.deck.proofs.lines.lines_at.Goals as goal

pub returns : goal.returns
returns c = lines_taken c.args.text c.args.start c.args.lines c.take.result c.take.ensures.source c.take.ensures.count
