-- The loop goes over the lines.
use native.Mathlib.Omega.{arith}
use Rattle.laws.proofs.Gathers.{writes_first}
use Rattle.listing_text.proofs.Puts.{put_next, put_whole}
use Rattle.listing_text.proofs.Reach.{reach_turn}
use Rattle.listing_text.proofs.put_faults.Goals as goal

pub loop-i-init : goal.loop-i-init
loop-i-init c =
    writes_first _ _ _ _ _

pub put_fault_line-w-requires : goal.put_fault_line-w-requires
put_fault_line-w-requires c =
    (omega (arith, c.requires.0), reach_turn c.loop-i.invariant (omega arith) c.requires.1)

pub loop-i-preserved : goal.loop-i-preserved
loop-i-preserved c =
    put_next c.loop-i.invariant (omega arith) c.put_fault_line-w.ensures

pub returns : goal.returns
returns c =
    put_whole c.loop-i.invariant (omega arith)
