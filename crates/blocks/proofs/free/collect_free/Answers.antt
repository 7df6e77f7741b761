-- The loop goes over the drafts: the key of one that names a constant or a state is written.
use mathlib.Core.Path.{refl, sym, ap, ◌∙◌}
use lib.ListN.{get_or, set}
use Rattle.laws.specs.Places.{only_if}
use Rattle.laws.specs.Put.{Put}
use Rattle.blocks.specs.InsidePlaces.{is_free}
use Rattle.blocks.proofs.FreeCollected.{put_one, put_unless, gathering_first, gathering_next, gathering_last}
use Rattle.blocks.proofs.free.collect_free.Goals as goal
use Rattle.blocks.proofs.free.collect_free.Goals.{then-is_free, else-is_free}

pub loop-i-init : goal.loop-i-init
loop-i-init c =
    gathering_first _ _ _

pub loop-i-preserved : goal.loop-i-preserved
loop-i-preserved c =
    let at = c.loop-i in
    let next = c.if-is_free in
    let kind = get_or c.args.s.now.kinds.now at.i 0 in
    let key = get_or c.args.s.now.args.now at.i 0 in
    let put : Put (only_if (is_free kind) key) at.f next.f at.free next.free =
    elim next.branch [
      | then-is_free w ↦ rw (w.free-is, w.f-is)
          (put_one (is_free kind) key at.f (sym c.is_free.ensures ∙ w.if-is_free.true)
          (w.put.ensures ∙ ap (set at.free at.f) w.word_at.ensures))
      | else-is_free w ↦ rw (w.free-is, w.f-is)
          (put_unless (is_free kind) key at.f at.free (sym c.is_free.ensures ∙ w.if-is_free.false))
    ] in
    gathering_next at.invariant c.loop-i-test.true refl put

pub returns : goal.returns
returns c =
    gathering_last c.loop-i.invariant c.loop-i-test.false
