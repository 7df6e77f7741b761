-- None are asked for, or they are entered.
use Prim.Native.Nat.{◌*◌}
use native.Mathlib.Omega.{arith}
use borrow.Author.Tests.{leb-true}
use lib.ListN.{length}
use Rattle.limits.specs.Limits.{most_definitions, roster_bytes}
use Rattle.translator.proofs.finish.enter_names.Goals as goal

pub returns-then-rows-lt-ROSTER_ROOM : goal.returns-then-rows-lt-ROSTER_ROOM
returns-then-rows-lt-ROSTER_ROOM c asked =
    let rows = c.args.rows.now in
    absurd (omega (
      arith,
      leb-true (roster_bytes * most_definitions) (length rows) asked,
      c.if-rows-lt-ROSTER_ROOM.true,
    ))

pub returns : goal.returns
returns c asked =
    c.put_roster.ensures
