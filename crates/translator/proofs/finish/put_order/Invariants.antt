-- The loop goes over the order, until no place is left.
use Rattle.translator.proofs.Handing.{Hands}
use Rattle.translator.proofs.finish.put_order.Given as goal

abbrev pub invariant-loop-i : goal.invariant-loop-i
invariant-loop-i l =
    Hands l.equated l.lines l.order l.i l.initial.ordered l.ordered
