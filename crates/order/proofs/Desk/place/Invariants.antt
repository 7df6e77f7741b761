-- The loop keeps `Going`.
use Rattle.order.proofs.Placing.{Going}
use Rattle.order.proofs.Desk.place.Given as goal

abbrev pub invariant-loop-k : goal.invariant-loop-k
invariant-loop-k g l =
    Going l.table l.initial.out l.out l.self l.from l.k
