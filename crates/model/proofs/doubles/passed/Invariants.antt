-- The places before the present one are passed.
use Prim.Native.Nat.{◌≤◌}
use Rattle.model.specs.Working.{before}
use Rattle.model.proofs.doubles.passed.Given as goal

abbrev pub invariant-loop-d : goal.invariant-loop-d
invariant-loop-d l =
    l.d ≤ before l.end l.places
