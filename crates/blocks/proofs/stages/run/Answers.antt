-- 6 is counted first; then the stages of blocks answer, or there is none.
use mathlib.Core.Path.{refl, sym, ◌∙◌}
use native.Mathlib.Omega.{arith}
use Rattle.blocks.specs.Grouped.{unit_arrays}
use Rattle.blocks.proofs.GroupStages.{counted_many, counted_few, united_listed, follows_turned}
use Rattle.blocks.proofs.GroupStages.{follows_stand, follows_listed}
use Rattle.blocks.proofs.NoBrackets.{kinds_kept, unbracketed}
use Rattle.blocks.proofs.stages.run.Goals as goal

-- ---- 6
pub returns-then-count_defining-gt-DEFINITIONS-clause-grouped :
    goal.returns-then-count_defining-gt-DEFINITIONS-clause-grouped
returns-then-count_defining-gt-DEFINITIONS-clause-grouped c =
    let a = c.args in
    let lent = unit_arrays a.units.now.lines.now a.units.now.bounds.now a.units.now.firsts.now in
    counted_many a.lines.now a.bounds.now a.kinds.now a.args.now c.count_defining.ensures
    a.faults.now lent c.if-count_defining-gt-DEFINITIONS.true refl

pub has_bracket-requires : goal.has_bracket-requires
has_bracket-requires c =
    follows_stand c.requires

-- ---- with a header or an end
pub run_blocks-requires : goal.run_blocks-requires
run_blocks-requires c =
    (c.requires, omega (arith, c.count_defining.ensures, c.if-count_defining-gt-DEFINITIONS.false))

pub returns-then-has_bracket-clause-grouped : goal.returns-then-has_bracket-clause-grouped
returns-then-has_bracket-clause-grouped c =
    let a = c.args in
    let lent = unit_arrays a.units.now.lines.now a.units.now.bounds.now a.units.now.firsts.now in
    counted_few a.lines.now a.bounds.now a.kinds.now a.args.now c.count_defining.ensures
    a.faults.now lent c.if-count_defining-gt-DEFINITIONS.false c.run_blocks.ensures.grouped

-- ---- without
pub list_units-requires : goal.list_units-requires
list_units-requires c =
    follows_listed c.requires

pub returns-clause-grouped : goal.returns-clause-grouped
returns-clause-grouped c =
    let a = c.args in
    let lent = unit_arrays a.units.now.lines.now a.units.now.bounds.now a.units.now.firsts.now in
    let plain = sym c.has_bracket.ensures ∙ c.if-has_bracket.false in
    let stay = kinds_kept a.lines.now a.bounds.now a.kinds.now a.args.now plain (follows_turned c.requires) in
    let listed = united_listed a.lines.now a.bounds.now a.kinds.now a.args.now a.faults.now
    c.list_units.ensures.listed stay in
    counted_few a.lines.now a.bounds.now a.kinds.now a.args.now c.count_defining.ensures
    a.faults.now lent c.if-count_defining-gt-DEFINITIONS.false
    (unbracketed a.lines.now a.bounds.now a.kinds.now a.args.now plain a.faults.now lent listed)
