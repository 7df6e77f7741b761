-- The faults of the statements before j are written, and reach is the furthest mate before it.
use Prim.Native.Nat.{ℕ, max, ◌+◌}
use mathlib.Core.Path.{◌≡◌, refl, ap, sym, ◌∙◌}
use mathlib.Core.List.{map}
use native.Mathlib.Omega.{arith}
use lib.ListN.{length, get_or, get_or-map}
use Rattle.std.proofs.Common.{None}
use Rattle.blocks.specs.Working.{mate_in, furthest, unmated_at}
use Rattle.blocks.proofs.FaultsListed.{added_if, reports_first, reports_next, reports_last}
use Rattle.blocks.proofs.Unpaired.{unmated_single, unmated_found, furthest_next}
use Rattle.blocks.proofs.pairing.report_unmated.Goals as goal
use Rattle.blocks.proofs.pairing.report_unmated.Goals.{in-Some, in_default}

pub loop-j-init : goal.loop-j-init
unfolding furthest
loop-j-init c =
    let s = c.args.s.now in
    let mates = map mate_in c.args.mates.now in
    let found = unmated_at s.lines.now s.bounds.now s.kinds.now mates in
    let single = unmated_single s.lines.now s.bounds.now s.kinds.now mates in
    (reports_first found (length s.lines.now) c.args.faults.now single, refl)

pub loop-j-preserved : goal.loop-j-preserved
loop-j-preserved c =
    let at = c.loop-j in
    let s = c.args.s.now in
    let mates = map mate_in c.args.mates.now in
    let own : mate_in (get_or c.args.mates.now at.j None) ≡ get_or mates at.j 0 =
    sym (get_or-map mate_in c.args.mates.now at.j None) in
    let found = unmated_found s.lines.now s.bounds.now s.kinds.now mates at.j
    c.leading_kind.ensures own at.invariant.1 c.is_unmated.ensures c.index.ensures.0 in
    let few = c.requires.0 in
    let put = added_if _ _ c.then_some-fault.ensures (omega (arith, at.invariant.0.few, at.invariant.0.within, few))
    c.add_fault-count.ensures in
    let reach : c.match-mate.reach ≡ max at.reach (mate_in (get_or c.args.mates.now at.j None)) =
    elim c.match-mate.branch [
      | in-Some w ↦ rw w.in-Some.is (w.reach-is ∙ w.max-reach.ensures
          ∙ ap (λ (p : ℕ). max at.reach (p + 1)) w.index-in-Some.ensures.0)
      | in_default w ↦ rw w.in_default.is (w.reach-is ∙ omega arith)
    ] in
    (reports_next at.invariant.0 c.loop-j-test.true found put, furthest_next mates at.j at.invariant.1 own reach)

pub returns : goal.returns
returns c =
    reports_last c.loop-j.invariant.0 c.loop-j-test.false
