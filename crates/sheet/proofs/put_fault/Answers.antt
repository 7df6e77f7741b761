-- The bytes of a fault are written as those of one number; where the list has no place for them, nothing is.
use Rattle.sheet.proofs.Entries.{entry_put, entry_out}
use Rattle.sheet.proofs.put_fault.Goals as goal

pub returns-then-list-count : goal.returns-then-list-count
returns-then-list-count c =
    let a = c.args in
    entry_out _ a.count a.list.now c.if-list-count.true

pub returns : goal.returns
returns c =
    let a = c.args in
    entry_put a.line a.code a.place a.column _ a.list.now c.wide.ensures
    c.put_low.ensures
