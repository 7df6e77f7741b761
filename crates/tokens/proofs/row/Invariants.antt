-- The invariant is Turn: so many tokens are written, and what is left to be written is the row from here.
use Rattle.std.proofs.Common.{◌-◌, length}
use Rattle.tokens.proofs.Steps.{Turn}
use Rattle.tokens.proofs.row.Given as goal

abbrev pub invariant-loop-step : goal.invariant-loop-step
invariant-loop-step l =
    Turn l.body l.initial.kinds l.initial.args l.kinds l.args l.from l.n

abbrev pub decreases-loop-step : goal.decreases-loop-step
decreases-loop-step l =
    length l.body - l.from
