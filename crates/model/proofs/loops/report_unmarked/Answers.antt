-- The faults of the equations before r are written.
use Rattle.faults.specs.declared.Fault.TheVariants.{Unsortable}
use Rattle.model.proofs.ReportedFaults.{reports_test}
use Rattle.model.proofs.LoopMarks.{unmarked_found}
use Rattle.blocks.proofs.FaultsListed.{reports_last}
use Rattle.model.proofs.loops.report_unmarked.Goals as goal

pub loop-r-preserved : goal.loop-r-preserved
loop-r-preserved c =
    let s = c.args in
    let found = unmarked_found s.marks.now s.equated.now s.lines.now c.loop-r.r c.byte_at.ensures
    c.short_at.ensures.0 in
    reports_test c.loop-r.invariant c.requires c.loop-r-test.true c.add_fault-count.ensures _ Unsortable
    c.then_some-fault.ensures found

pub returns : goal.returns
returns c =
    reports_last c.loop-r.invariant c.loop-r-test.false
