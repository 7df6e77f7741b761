-- What the stores before statement j become is noted.
use mathlib.Core.List.{map}
use mathlib.Core.Path.{ap, ◌∙◌}
use native.Mathlib.Omega.{arith}
use Rattle.std.proofs.lemmas.List.{map-set}
use Rattle.blocks.specs.InsideWorking.{role_in}
use Rattle.blocks.proofs.KindsRenewed.{noting_first, noting_next, noting_last}
use Rattle.blocks.proofs.InsideFound.{standing_low}
use Rattle.blocks.proofs.rewrite.note_roles.Goals as goal

pub loop-j-init : goal.loop-j-init
loop-j-init c =
    noting_first _ _ _ _ _

pub role_at-requires : goal.role_at-requires
role_at-requires c =
    let at = c.loop-j in
    let low = standing_low c.args.s.now.bounds.now c.args.s.now.kinds.now at.j in
    let few = c.requires.0 in (
      omega (arith, at.invariant.standing, low),
      omega (arith, c.loop-j-test.true, few),
      c.requires.1 at.j c.loop-j-test.true,
    )

pub loop-j-preserved : goal.loop-j-preserved
loop-j-preserved c =
    noting_next c.loop-j.invariant c.loop-j-test.true c.role_at.ensures
    (ap (map role_in) c.put.ensures ∙ map-set role_in c.loop-j.roles c.loop-j.j c.role_at.result)
    c.standing_behind-c.ensures

pub returns : goal.returns
returns c =
    noting_last c.loop-j.invariant c.loop-j-test.false
