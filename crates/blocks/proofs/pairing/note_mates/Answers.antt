-- The statements before j are taken, and what is noted from there on is noted in all.
use mathlib.Core.Path.{sym, ap, ◌∙◌}
use mathlib.Core.List.{map}
use native.Mathlib.Omega.{arith}
use lib.ListN.{length, length-map}
use Rattle.blocks.specs.Working.{mate_in}
use Rattle.blocks.specs.Places.{bracket_kind}
use Rattle.blocks.proofs.MatesNoted.{mating_first, mating_next, mating_last}
use Rattle.blocks.proofs.pairing.note_mates.Goals as goal

pub loop-j-init : goal.loop-j-init
loop-j-init c =
    let s = c.args.s.now in
    mating_first (length s.lines.now) s.bounds.now s.kinds.now (map mate_in c.args.mates.now)

pub leading_kind-requires : goal.leading_kind-requires
leading_kind-requires c =
    c.requires.1 c.loop-j.j c.loop-j-test.true

pub note_mate-depth-requires : goal.note_mate-depth-requires
note_mate-depth-requires c =
    let few = c.requires.0 in
    (omega (arith, c.loop-j-test.true, few), c.loop-j.invariant.sound)

pub loop-j-preserved : goal.loop-j-preserved
loop-j-preserved c =
    mating_next c.loop-j.invariant c.loop-j-test.true (ap bracket_kind c.leading_kind.ensures)
    (length-map _ _ ∙ c.note_mate-depth.auto.mates ∙ sym (length-map _ _)) c.note_mate-depth.ensures

pub returns : goal.returns
returns c =
    mating_last c.loop-j.invariant c.loop-j-test.false
