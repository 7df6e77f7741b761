-- The loop goes over the statements.
use lib.ListN.{length}
use Rattle.program.specs.Written.{entries_of}
use Rattle.program.proofs.RosterFilled.{Entering}
use Rattle.program.proofs.roster.put_roster.Given as goal

abbrev pub invariant-loop-j : goal.invariant-loop-j
invariant-loop-j l =
    let s = l.sheet in
    Entering (entries_of s.lines.now s.bounds.now s.kinds.now s.args.now) (length s.lines.now) 0 l.j 0 l.n l.initial.out
    l.out
