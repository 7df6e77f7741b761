-- The definitions are collected; no name is defined twice; what follows of the units is done.
use mathlib.Core.Path.{refl}
use native.Mathlib.Omega.{arith}
use Rattle.std.proofs.lemmas.Result.{err_from_is_err_and}
use Rattle.model.specs.Plan.{lent}
use Rattle.model.proofs.PlanStages.{holds_front, defined, keyed, sheeted_many, sheeted_few, distinct_fault}
use Rattle.model.proofs.PlanStages.{distinct_none}
use Rattle.model.proofs.stages.in_room.Goals as goal

-- ---- the definitions
pub returns-then-n-gt-DEFINITIONS : goal.returns-then-n-gt-DEFINITIONS
returns-then-n-gt-DEFINITIONS g c =
    let a = c.args in
    sheeted_many c.collect-n.ensures a.lines.now a.bounds.now a.ulines.now a.ubounds.now a.used.now a.faults.now
    a.equated.now a.placed.now c.if-n-gt-DEFINITIONS.true

pub shared_whole_as_front-keys : goal.shared_whole_as_front-keys
shared_whole_as_front-keys g c =
    let s = c.requires in
    let d = defined c.collect-n.ensures g.row.K g.row.O refl s.5 s.6 s.3 c.if-n-gt-DEFINITIONS.false in
    (omega (arith, d.keys_held.room), omega arith)

-- ---- 21
pub returns-in_err-none_of : goal.returns-in_err-none_of
returns-in_err-none_of g c =
    let a = c.args in
    let s = c.requires in
    let d = defined c.collect-n.ensures g.row.K g.row.O refl s.5 s.6 s.3 c.if-n-gt-DEFINITIONS.false in
    let refused = err_from_is_err_and c.from_residual.result c.from_residual.ensures.1 in
    rw (refused.1, refused.2, c.in_err-none_of.ensures.0)
    (sheeted_few c.collect-n.ensures a.lines.now a.bounds.now a.ulines.now a.ubounds.now a.used.now a.faults.now
    a.equated.now a.placed.now c.if-n-gt-DEFINITIONS.false
    (distinct_fault s.0 (keyed d s.1 s.2) c.report_doubles-doubles.ensures
    (lent c.collect-n.new.places a.equated.now a.placed.now) c.in_err-none_of.ensures.1))

-- ---- what follows of the units
pub linked-requires : goal.linked-requires
linked-requires g c =
    let s = c.requires in
    let d = defined c.collect-n.ensures g.row.K g.row.O refl s.5 s.6 s.3 c.if-n-gt-DEFINITIONS.false in
    (keyed d s.1 s.2, s.4, rw (← (holds_front d.keys_held).long) d.unowned)

pub returns : goal.returns
returns g c =
    let a = c.args in
    let s = c.requires in
    let d = defined c.collect-n.ensures g.row.K g.row.O refl s.5 s.6 s.3 c.if-n-gt-DEFINITIONS.false in
    let places = c.collect-n.new.places in
    sheeted_few c.collect-n.ensures a.lines.now a.bounds.now a.ulines.now a.ubounds.now a.used.now a.faults.now
    a.equated.now a.placed.now c.if-n-gt-DEFINITIONS.false
    (distinct_none s.0 (keyed d s.1 s.2) c.report_doubles-doubles.ensures
    {l' = lent places c.linked.new.equated c.linked.new.placed} (lent places a.equated.now a.placed.now)
    (omega (arith, c.in_ok-none_of.ensures)) (c.linked.ensures places))
