-- A table that fits is sorted; then all are placed, or fewer.
use Rattle.model.proofs.PlanStages.{sorts_fit, sorts_short, sorts_whole}
use Rattle.model.proofs.stages.place.Goals as goal

pub returns-in_default : goal.returns-in_default
returns-in_default c =
    let s = c.requires in
    absurd (sorts_fit c.args.equated.now c.sort.ensures s.0 s.1 c.in_default.is)

pub returns-then-k-equated : goal.returns-then-k-equated
returns-then-k-equated c =
    let s = c.requires in
    sorts_short c.args.equated.now c.sort.ensures s.0 s.1 c.args.n c.args.lines.now c.in-Some.is c.if-k-equated.true
    c.report_loops-loops.ensures

pub returns : goal.returns
returns c =
    let s = c.requires in
    sorts_whole c.args.equated.now c.sort.ensures s.0 s.1 c.args.n c.args.lines.now c.args.faults.now c.in-Some.is
    c.if-k-equated.false
