-- The faults of the statements before j are written.
use Rattle.model.specs.Places.{nameless}
use Rattle.model.proofs.ReportedFaults.{reports_fault}
use Rattle.model.proofs.NamesResolved.{flaw_found}
use Rattle.blocks.proofs.FaultsListed.{reports_last}
use Rattle.model.proofs.names.report_nameless.Goals as goal

pub loop-j-preserved : goal.loop-j-preserved
loop-j-preserved c =
    let s = c.args.sheet.now in
    let found =
    flaw_found c.args.places.now s.lines.now s.bounds.now s.kinds.now s.args.now c.loop-j.j
    c.flaw_in-flaw.ensures c.short_at-from.ensures.0 c.short_at-end.ensures.0 in
    reports_fault c.loop-j.invariant c.requires c.loop-j-test.true c.add_fault-count.ensures found

pub returns : goal.returns
unfolding nameless
returns c =
    reports_last c.loop-j.invariant c.loop-j-test.false
