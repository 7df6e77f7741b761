-- The first eight bytes, and the value behind them.
use borrow.Author.Rules.{rules}
use Rattle.program.proofs.RoomFilled.{fields_put}
use Rattle.program.proofs.put_fields.Goals as goal

pub returns : goal.returns
returns c =
    let a = c.args in
    fields_put a.kind a.slot a.line a.bits a.part.now _ _ (search rules)
    c.head_of.ensures c.put_eight.ensures
    c.put_eight-2.ensures
