-- The faults of the statements before j are written.
use lib.ListN.{length}
use Rattle.model.specs.Places.{names_at}
use Rattle.blocks.proofs.FaultsListed.{Reports}
use Rattle.model.proofs.names.report_nameless.Given as goal

abbrev pub invariant-loop-j : goal.invariant-loop-j
invariant-loop-j l =
    let s = l.sheet in
    Reports (names_at l.places s.lines.now s.bounds.now s.kinds.now s.args.now) (length s.lines.now) l.j l.count
    l.initial.faults l.faults
