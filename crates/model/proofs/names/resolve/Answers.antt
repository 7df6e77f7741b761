-- The statements before the present one are gone over, and where the uses of each equation among them begin is stored.
use mathlib.Core.Path.{refl}
use borrow.Author.Rules.{rules}
use Rattle.model.proofs.NamesLinked.{stating_first, stating_walked, stating_next}
use Rattle.model.proofs.NamesLinked.{stating_last}
use Rattle.model.proofs.names.resolve.Goals as goal

pub loop-j-init : goal.loop-j-init
loop-j-init c =
    stating_first c.args.places.now c.args.starts.now c.requires

pub resolve_in-usage-requires : goal.resolve_in-usage-requires
resolve_in-usage-requires c =
    stating_walked c.args.places.now c.args.starts.now c.requires c.loop-j.invariant c.loop-j-test.true
    c.short_at.ensures.0
    c.short_at-in-loop-j.ensures.0

pub loop-j-preserved : goal.loop-j-preserved
loop-j-preserved c =
    stating_next c.args.places.now c.args.starts.now c.requires c.loop-j.invariant c.loop-j-test.true
    c.is_ordered-ordered.ensures refl
    c.put_if-r.ensures c.all_or_none-known.ensures.0 c.short_at.ensures.0
    c.short_at-in-loop-j.ensures.0 (search rules)
    c.resolve_in-usage.ensures.0 c.resolve_in-usage.ensures.1

pub returns : goal.returns
returns c =
    stating_last c.args.places.now c.args.starts.now c.requires c.loop-j.invariant c.loop-j-test.false refl
    c.put.ensures
