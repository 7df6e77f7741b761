-- Each stage goes on from what the one before has left.
use mathlib.Core.Path.{refl}
use Rattle.blocks.specs.Grouped.{unit_arrays}
use Rattle.blocks.proofs.GroupStages.{paired_fault, paired_none, inside_fault, inside_none, united_listed}
use Rattle.blocks.proofs.GroupStages.{follows_small, follows_turned, follows_stand, follows_listed}
use Rattle.blocks.proofs.stages.run_blocks.Goals as goal

-- ---- 25
pub report_unpaired-unpaired-requires : goal.report_unpaired-unpaired-requires
report_unpaired-unpaired-requires c =
    follows_stand c.requires.0

pub returns-then-unpaired-gt0-clause-grouped : goal.returns-then-unpaired-gt0-clause-grouped
returns-then-unpaired-gt0-clause-grouped c =
    let a = c.args in
    paired_fault a.lines.now a.bounds.now a.kinds.now a.args.now c.report_unpaired-unpaired.ensures
    (unit_arrays a.units.now.lines.now a.units.now.bounds.now a.units.now.firsts.now) c.if-unpaired-gt0.true refl

-- ---- 26
pub report_inside-wrong-requires : goal.report_inside-wrong-requires
report_inside-wrong-requires c =
    let fit = c.requires in (follows_small fit, (follows_stand fit.0).1)

pub returns-then-wrong-gt0-clause-grouped : goal.returns-then-wrong-gt0-clause-grouped
returns-then-wrong-gt0-clause-grouped c =
    let a = c.args in
    let u = unit_arrays a.units.now.lines.now a.units.now.bounds.now a.units.now.firsts.now in
    let stands = inside_fault a.lines.now a.bounds.now a.kinds.now a.args.now
    c.report_inside-wrong.ensures u c.if-wrong-gt0.true refl in
    paired_none a.lines.now a.bounds.now a.kinds.now a.args.now c.report_unpaired-unpaired.ensures u
    c.if-unpaired-gt0.false stands

-- ---- the units, and the kinds inside
pub list_units-count-requires : goal.list_units-count-requires
list_units-count-requires c =
    follows_listed c.requires.0

pub rewrite-requires : goal.rewrite-requires
rewrite-requires c =
    follows_turned c.requires.0

pub returns-clause-grouped : goal.returns-clause-grouped
returns-clause-grouped c =
    let a = c.args in
    let u = unit_arrays a.units.now.lines.now a.units.now.bounds.now a.units.now.firsts.now in
    let listed = united_listed a.lines.now a.bounds.now a.kinds.now a.args.now
    c.report_inside-wrong.new.faults c.list_units-count.ensures.listed c.rewrite.ensures in
    let no_26 = inside_none a.lines.now a.bounds.now a.kinds.now a.args.now
    c.report_inside-wrong.ensures u c.if-wrong-gt0.false listed in
    paired_none a.lines.now a.bounds.now a.kinds.now a.args.now c.report_unpaired-unpaired.ensures u
    c.if-unpaired-gt0.false no_26
