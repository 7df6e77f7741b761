-- The key, and behind it the rest.
use borrow.Author.Rules.{rules}
use Rattle.program.proofs.RosterFilled.{entry_put}
use Rattle.program.proofs.roster.put_entry.Goals as goal

pub returns : goal.returns
returns c =
    let a = c.args in
    entry_put a.key a.what a.line a.n a.out.now _ _ (search rules) c.head_of.ensures
    c.put_eight.ensures c.put_eight-2.ensures
