-- By the records, and by the room.
use Prim.Native.Nat.{◌*◌}
use mathlib.Core.Path.{sym, ◌∙◌}
use borrow.Author.Tests.{lt-ltb, le-ltb}
use lib.ListN.{length}
use lib.Seq.{length-take-le}
use Rattle.limits.specs.Limits.{roster_bytes}
use Rattle.translator.proofs.finish.write_names.Goals as goal

pub returns-then-is_over : goal.returns-then-is_over
returns-then-is_over c =
    rw (sym c.is_over.ensures ∙ c.if-is_over.true)

pub returns-then-out-end : goal.returns-then-out-end
returns-then-out-end c =
    let a = c.args in
    rw (
      sym c.is_over.ensures ∙ c.if-is_over.false,
      lt-ltb (length a.out.now) (roster_bytes * a.n) c.if-out-end.true,
    )

pub slice_bounds-put_bytes-end : goal.slice_bounds-put_bytes-end
slice_bounds-put_bytes-end c =
    sym (length-take-le _ _ c.requires.1)

pub returns : goal.returns
returns c =
    let a = c.args in
    rw (
      sym c.is_over.ensures ∙ c.if-is_over.false,
      le-ltb (length a.out.now) (roster_bytes * a.n) c.if-out-end.false,
      c.put_bytes.ensures,
    )
