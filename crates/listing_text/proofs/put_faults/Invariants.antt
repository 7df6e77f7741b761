-- The loop goes over the lines.
use Rattle.laws.proofs.Gathers.{Writes}
use Rattle.listing_text.specs.Written.{fault_at}
use Rattle.listing_text.proofs.put_faults.Given as goal

abbrev pub invariant-loop-i : goal.invariant-loop-i
invariant-loop-i l =
    Writes (fault_at l.list) l.count 0 l.i l.at l.w l.initial.out l.out
