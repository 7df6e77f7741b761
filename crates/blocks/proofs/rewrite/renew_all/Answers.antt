-- The kinds of the statements before statement j are renewed.
use mathlib.Core.Path.{sym}
use lib.ListN.{get_or-map}
use Rattle.std.proofs.Common.{None}
use Rattle.blocks.specs.InsideWorking.{role_in}
use Rattle.blocks.proofs.KindsRenewed.{all_first, all_next, all_last}
use Rattle.blocks.proofs.rewrite.renew_all.Goals as goal

pub loop-j-init : goal.loop-j-init
loop-j-init c =
    all_first _ _ _ _ c.requires

pub loop-j-preserved : goal.loop-j-preserved
loop-j-preserved c =
    all_next c.loop-j.invariant c.loop-j-test.true (sym (get_or-map role_in c.args.roles.now c.loop-j.j None))
    c.short_at.ensures.0 c.short_at-in-loop-j.ensures.0 c.renew.ensures

pub returns : goal.returns
returns c =
    all_last c.loop-j.invariant c.loop-j-test.false
