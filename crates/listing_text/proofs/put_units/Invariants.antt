-- The loop goes over the lines.
use Rattle.laws.proofs.Gathers.{Writes}
use Rattle.listing_text.specs.Written.{ordered_at}
use Rattle.listing_text.proofs.put_units.Given as goal

abbrev pub invariant-loop-i : goal.invariant-loop-i
invariant-loop-i l =
    Writes (ordered_at l.ordered) l.count 0 l.i l.at l.w l.initial.out l.out
