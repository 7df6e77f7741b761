-- The arrays fit, and the stages follow; or they do not.
use mathlib.Core.Path.{refl, sym, ◌∙◌}
use lib.ListN.{length}
use Rattle.std.proofs.Common.{rules}
use Rattle.blocks.specs.Grouped.{unit_arrays}
use Rattle.blocks.proofs.GroupStages.{fit_sound, grouped_fit, grouped_unfit, arrays_back}
use Rattle.blocks.proofs.group.Goals as goal

pub run-requires : goal.run-requires
run-requires c =
    let a = c.args in
    fit_sound a.lines.now a.bounds.now a.kinds.now (length a.args.now) (length a.faults.now)
    (length a.ulines.now) (length a.ubounds.now) (length a.firsts.now)
    (sym c.fits.ensures ∙ c.if-not-fits.false)

pub returns-then-not-fits : goal.returns-then-not-fits
returns-then-not-fits c =
    let a = c.args in
    grouped_unfit a.lines.now a.bounds.now a.kinds.now a.args.now a.faults.now
    (unit_arrays a.ulines.now a.ubounds.now a.firsts.now) (sym c.fits.ensures ∙ c.if-not-fits.true) refl

pub returns : goal.returns
returns c =
    let a = c.args in
    let grouped = grouped_fit a.lines.now a.bounds.now a.kinds.now a.args.now a.faults.now
    (unit_arrays a.ulines.now a.ubounds.now a.firsts.now) (sym c.fits.ensures ∙ c.if-not-fits.false)
    c.run.ensures.grouped in
    arrays_back grouped (search rules) (search rules) (search rules)
