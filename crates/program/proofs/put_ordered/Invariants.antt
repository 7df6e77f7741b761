-- The loop goes over the places of the order.
use Prim.Native.Nat.{ℕ}
use lib.ListN.{length, get_or}
use Rattle.program.specs.Written.{unit_steps}
use Rattle.program.proofs.RoomFilled.{Filling}
use Rattle.program.proofs.put_ordered.Given as goal

abbrev pub invariant-loop-place : goal.invariant-loop-place
invariant-loop-place l =
    let s = l.sheet in
    let steps = unit_steps l.firsts s.lines.now s.bounds.now s.kinds.now s.args.now in
    Filling (λ (p : ℕ). steps (get_or l.equated (get_or l.order p 0) 0))
    (length l.order) 0 l.place-index l.fn.w l.w l.initial.out l.out
