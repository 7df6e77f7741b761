-- A key repeats from the present place on exactly if one does from the start on.
use mathlib.Core.Path.{◌≡◌}
use Rattle.model.specs.Working.{repeats}
use Rattle.model.proofs.doubles.is_repeated.Given as goal

abbrev pub invariant-loop-d : goal.invariant-loop-d
invariant-loop-d l =
    repeats l.names.keys.now l.d l.end ≡ repeats l.names.keys.now l.from l.end
