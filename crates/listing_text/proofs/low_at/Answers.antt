-- Past the end there is nothing to read.
use Prim.Native.Nat.{min}
use native.Mathlib.Omega.{arith}
use Rattle.listing_text.proofs.Fields.{field_out, field_part}
use Rattle.listing_text.proofs.low_at.Goals as goal

pub returns-then-s-at : goal.returns-then-s-at
returns-then-s-at c =
    let a = c.args in field_out a.s.now a.at (min a.n 8) (omega arith)

pub returns : goal.returns
returns c =
    let a = c.args in
    field_part a.s.now a.at (min a.n 8) _ c.get_low.ensures.0
