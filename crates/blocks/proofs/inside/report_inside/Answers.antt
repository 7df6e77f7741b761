-- The constants and states are collected, and the faults reported by them.
use mathlib.Core.Path.{refl, sym}
use native.Mathlib.Omega.{arith}
use lib.Seq.{length-take-le}
use Rattle.blocks.proofs.FreeCollected.{free_few, free_front, free_reported}
use Rattle.blocks.proofs.inside.report_inside.Goals as goal

pub slice_bounds-free-end : goal.slice_bounds-free-end
slice_bounds-free-end c =
    let front = free_front c.args.s.now.kinds.now c.args.s.now.args.now c.requires.0.defined refl
    c.collect_free-f.ensures in
    front.0

pub slice_bounds-report_wrong-end : goal.slice_bounds-report_wrong-end
slice_bounds-report_wrong-end c =
    let front = free_front c.args.s.now.kinds.now c.args.s.now.args.now c.requires.0.defined refl
    c.collect_free-f.ensures in
    sym (length-take-le c.collect_free-f.result c.collect_free-f.new.free
    front.0)

pub report_wrong-requires : goal.report_wrong-requires
report_wrong-requires c =
    let front = free_front c.args.s.now.kinds.now c.args.s.now.args.now c.requires.0.defined refl
    c.collect_free-f.ensures in
    let many = free_few c.args.s.now.kinds.now c.args.s.now.args.now in
    (c.requires.0.few, rw front.1 (omega (arith, many, c.requires.0.defined)), c.requires.1)

pub returns : goal.returns
returns c =
    free_reported c.args.s.now.lines.now c.args.s.now.bounds.now c.args.s.now.kinds.now c.args.s.now.args.now
    c.requires.0.defined
    refl c.collect_free-f.ensures
    c.report_wrong.ensures
