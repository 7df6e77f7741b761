-- The drafts before the present one are resolved, those that are flawed are noted, and what they use is listed.
use mathlib.Core.Path.{sym, ◌∙◌}
use native.Mathlib.Omega.{arith}
use lib.ListN.{get_or}
use Rattle.model.proofs.KeysFound.{place_le}
use Rattle.model.proofs.NamesResolved.{slot_named}
use Rattle.model.proofs.NamesLinked.{walking_first, walking_named, walking_other}
use Rattle.model.proofs.names.resolve_in.Goals as goal
use Rattle.model.proofs.names.resolve_in.Goals.{then-is_named, else-is_named}

pub loop-i-init : goal.loop-i-init
loop-i-init c =
    walking_first c.args.places.now c.args.owners.now c.args.used.now c.args.usage.flawed
    c.requires

pub overflow_add-slot : goal.overflow_add-slot
overflow_add-slot c =
    omega
    (arith, c.find.ensures, place_le (get_or c.loop-i.args c.loop-i.i 0) c.args.names.now.keys.now, c.requires.few)

pub loop-i-preserved : goal.loop-i-preserved
loop-i-preserved c =
    let asks = sym c.is_named.ensures in
    let v = c.loop-i.invariant in
    let p = c.requires in
    let h = c.loop-i-test.true in
    let ks = c.args.names.now.keys.now in
    let kind = get_or c.args.kinds.now c.loop-i.i 0 in
    let arg = get_or c.loop-i.args c.loop-i.i 0 in
    elim c.if-is_named.branch [
      | then-is_named w ↦
          let slot = slot_named ks kind arg (asks ∙ w.if-is_named.true) w.find.ensures in
          walking_named v p.wide p.inside h slot w.put_use-w.ensures w.args-is w.used-is w.w-is
          w.is_flawed-flawed.ensures w.flawed-is
      | else-is_named w ↦
          walking_other v p.wide p.inside h (asks ∙ w.if-is_named.false) w.args-is w.used-is w.w-is w.flawed-is
    ]
