-- A setting is sought from the present statement on, up to an end.
use Prim.Native.Nat.{◌-◌}
use mathlib.Core.Path.{◌≡◌}
use lib.ListN.{length}
use Rattle.laws.specs.Counts.{has}
use Rattle.blocks.specs.InsidePlaces.{set_below}
use Rattle.blocks.proofs.inside.is_set_below.Given as goal

abbrev pub invariant-loop-k : goal.invariant-loop-k
invariant-loop-k l =
    has l.key (set_below l.s.bounds.now l.s.kinds.now l.s.args.now (length l.s.lines.now - l.k) l.k)
    ≡ has l.key (set_below l.s.bounds.now l.s.kinds.now l.s.args.now (length l.s.lines.now - l.i) l.i)
