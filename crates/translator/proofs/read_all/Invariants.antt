-- One statement after the other, from the first byte to the last.
use Prim.Native.Nat.{◌-◌}
use lib.ListN.{length}
use Rattle.translator.proofs.Turns.{Going}
use Rattle.translator.proofs.read_all.Given as goal

abbrev pub invariant-loop-s : goal.invariant-loop-s
invariant-loop-s l =
    Going l.text l.initial.kinds l.initial.args l.initial.lines l.initial.bounds l.initial.list
    l.kinds l.args l.lines l.bounds l.list l.n l.c

abbrev pub decreases-loop-s : goal.decreases-loop-s
decreases-loop-s l =
    length l.text - l.c.at
