-- The equations before statement j are stored.
use Rattle.model.specs.Places.{ordered_in}
use Rattle.model.proofs.UnitReads.{listing_next, listing_last}
use Rattle.model.proofs.units.collect_ordered.Goals as goal

pub loop-j-preserved : goal.loop-j-preserved
loop-j-preserved c =
    listing_next c.loop-j.invariant c.loop-j-test.true c.is_ordered.ensures c.put_if-count.ensures

pub returns : goal.returns
unfolding ordered_in
returns c =
    listing_last c.loop-j.invariant c.loop-j-test.false
