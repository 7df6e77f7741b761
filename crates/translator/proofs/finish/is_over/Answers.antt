-- Where the drafts are few, so are the records; else they are counted.
use native.Mathlib.Omega.{arith}
use borrow.Author.Tests.{lt-ltb, le-ltb}
use Rattle.limits.specs.Limits.{most_records}
use Rattle.program.specs.Written.{record_count}
use Rattle.translator.proofs.Counted.{records_few}
use Rattle.translator.proofs.finish.is_over.Goals as goal

pub returns-then-kinds-room : goal.returns-then-kinds-room
returns-then-kinds-room c =
    let a = c.args in
    let n = record_count a.kinds.now in
    let few = records_few a.kinds.now in
    rw (
      le-ltb most_records n (omega (arith, c.if-kinds-le-RECORDS.true, few)),
      le-ltb a.room n (omega (arith, c.if-kinds-room.true, few)),
    )

pub returns-then-n-gt-RECORDS : goal.returns-then-n-gt-RECORDS
returns-then-n-gt-RECORDS c =
    let n = record_count c.args.kinds.now in
    let many = lt-ltb most_records n (omega (arith, c.if-n-gt-RECORDS.true, c.count_records-n.ensures)) in
    rw (c.count_records-n.ensures, many)
