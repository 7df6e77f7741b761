-- The names are linked; none of them is flawed; the units are placed.
use mathlib.Core.Path.{refl}
use native.Mathlib.Omega.{arith}
use lib.ListN.{length}
use Rattle.std.proofs.lemmas.Result.{err_from_is_err_and}
use Rattle.model.proofs.PlanStages.{searched, tested_fault, tested_none}
use Rattle.model.proofs.PlanStages.{weighed_fit, weighed_by}
use Rattle.model.proofs.stages.linked.Goals as goal

-- ---- 22 and 23
pub report_names-flaws-requires : goal.report_names-flaws-requires
report_names-flaws-requires c =
    searched c.requires.0 c.connect-link.ensures

pub returns-in_err-none_of : goal.returns-in_err-none_of
returns-in_err-none_of c = λ p.
    let refused = err_from_is_err_and c.from_residual.result c.from_residual.ensures.1 in
    rw (refused.1, refused.2, c.in_err-none_of.ensures.0)
    (tested_fault c.requires.0 c.connect-link.ensures c.report_names-flaws.ensures p c.args.placed.now
    c.in_err-none_of.ensures.1)

-- ---- 24
pub place-requires : goal.place-requires
place-requires c =
    (weighed_fit c.connect-link.ensures.weighs, c.requires.1.order_room)

pub returns : goal.returns
returns c = λ p.
    let a = c.args in
    let placed = weighed_by c.connect-link.ensures.weighs (length a.places.now) c.report_names-flaws.new.faults
    a.placed.now c.place.ensures p in
    tested_none c.requires.0 c.connect-link.ensures c.report_names-flaws.ensures p a.placed.now refl
    (omega (arith, c.in_ok-none_of.ensures)) placed
