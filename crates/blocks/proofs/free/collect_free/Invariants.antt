-- The loop goes over the drafts.
use Rattle.blocks.proofs.FreeCollected.{Gathering}
use Rattle.blocks.proofs.free.collect_free.Given as goal

abbrev pub invariant-loop-i : goal.invariant-loop-i
invariant-loop-i l =
    Gathering l.s.kinds.now l.s.args.now l.initial.free l.f l.i l.free
