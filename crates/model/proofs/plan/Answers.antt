-- The arrays fit, and the stages follow; or they do not.
use mathlib.Core.Path.{sym, ◌∙◌}
use lib.ListN.{length}
use Rattle.model.specs.Plan.{lent}
use Rattle.model.proofs.PlanStages.{fit_sound, planned_fit, planned_unfit}
use Rattle.model.proofs.plan.Goals as goal

pub run-requires : goal.run-requires
run-requires c =
    let a = c.args in
    let fitting = sym c.fits-fits.ensures ∙ c.if-not-fits.false in
    fit_sound a.lines.now a.bounds.now a.ulines.now a.ubounds.now a.kinds.now a.used.now
    a.equated.now a.order.now
    (length a.args.now) (length a.faults.now)
    (length a.places.now) fitting

pub returns-then-not-fits : goal.returns-then-not-fits
returns-then-not-fits c =
    let a = c.args in
    planned_unfit a.lines.now a.bounds.now a.ulines.now a.ubounds.now a.kinds.now
    a.args.now a.used.now a.faults.now
    (lent a.places.now a.equated.now a.order.now) (sym c.fits-fits.ensures ∙ c.if-not-fits.true)

pub returns : goal.returns
returns c =
    let a = c.args in
    let fitting = sym c.fits-fits.ensures ∙ c.if-not-fits.false in
    planned_fit a.lines.now a.bounds.now a.ulines.now a.ubounds.now a.kinds.now
    a.args.now a.used.now a.faults.now
    (lent a.places.now a.equated.now a.order.now) fitting c.run.ensures
