-- The first line, then the others; all are in reach, for all that is read is short.
use native.Mathlib.Omega.{arith}
use Rattle.laws.specs.Places.{gather}
use Rattle.laws.proofs.Puts.{put_both}
use Rattle.listing_text.specs.Written.{ordered_at, head}
use Rattle.listing_text.proofs.Reach.{reach_first, reach_second, unit_short, listing_reach}
use Rattle.listing_text.proofs.put_order.Goals as goal

pub put_head-at-requires : goal.put_head-at-requires
put_head-at-requires c =
    let a = c.args in
    let lines = ordered_at a.ordered.now in
    let short = unit_short a.ordered.now (λ i. omega (arith, c.type_inv.ordered i)) in
    reach_first (head 79 75 a.done.records) (gather lines a.done.units 0) 0
    (listing_reach lines short 79 75 a.done.records a.done.units c.requires.0 c.requires.1)

pub put_units-requires : goal.put_units-requires
put_units-requires c =
    let a = c.args in
    let lines = ordered_at a.ordered.now in
    let short = unit_short a.ordered.now (λ i. omega (arith, c.type_inv.ordered i)) in
    let reach = listing_reach lines short 79 75 a.done.records a.done.units c.requires.0 c.requires.1 in
    (c.requires.1, reach_second c.put_head-at.ensures (gather lines a.done.units 0) reach)

pub returns : goal.returns
returns c =
    put_both c.put_head-at.ensures c.put_units.ensures
