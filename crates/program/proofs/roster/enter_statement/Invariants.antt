-- The loop goes over the places of the statement.
use Rattle.program.specs.Written.{entry_at}
use Rattle.program.proofs.RosterFilled.{Entering}
use Rattle.program.proofs.roster.enter_statement.Given as goal

abbrev pub invariant-loop-i : goal.invariant-loop-i
invariant-loop-i l =
    Entering (entry_at l.sheet.kinds.now l.sheet.args.now l.line) l.end l.begin l.i l.fn.n l.n l.initial.out l.out
