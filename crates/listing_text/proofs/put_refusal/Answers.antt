-- The first line, then the others; all are in reach, for all that is read is bytes.
use Prim.Native.Nat.{◌≤◌}
use native.Mathlib.Omega.{arith}
use Rattle.limits.specs.Limits.{most_records}
use Rattle.laws.specs.Places.{gather}
use Rattle.laws.proofs.Puts.{put_both}
use Rattle.listing_text.specs.Written.{fault_at, head}
use Rattle.listing_text.proofs.Reach.{reach_first, reach_second, fault_short, listing_reach}
use Rattle.listing_text.proofs.put_refusal.Goals as goal

pub put_head-at-requires : goal.put_head-at-requires
put_head-at-requires c =
    let a = c.args in
    let lines = fault_at a.faults.now in
    let short = fault_short a.faults.now (λ i. omega (arith, c.type_inv.faults i)) in
    reach_first (head 78 79 c.from.result) (gather lines 0 0) 0
    (listing_reach lines short 78 79 c.from.result 0 (omega (arith, c.number.type_inv, c.from.ensures)) (omega arith))

pub put_faults-requires : goal.put_faults-requires
put_faults-requires c =
    let a = c.args in
    let lines = fault_at a.faults.now in
    let short = fault_short a.faults.now (λ i. omega (arith, c.type_inv.faults i)) in
    let few : c.count.result ≤ most_records = rw (← c.count.ensures) at c.requires in
    let number : c.from.result ≤ most_records = omega (arith, c.number.type_inv, c.from.ensures) in
    let reach = listing_reach lines short 78 79 c.from.result c.count.result number few in
    (few, reach_second c.put_head-at.ensures (gather lines c.count.result 0) reach)

pub returns : goal.returns
returns c =
    rw (← c.number.ensures, ← c.from.ensures, ← c.count.ensures)
    (put_both c.put_head-at.ensures c.put_faults.ensures)
