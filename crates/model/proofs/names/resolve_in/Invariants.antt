-- The drafts before the present one are resolved, those that are flawed are noted, and what they use is listed.
use Rattle.model.proofs.NamesLinked.{usage, Walking}
use Rattle.model.proofs.names.resolve_in.Given as goal

abbrev pub invariant-loop-i : goal.invariant-loop-i
invariant-loop-i l =
    Walking l.names.keys.now l.kinds l.places l.owners l.initial.args l.initial.used l.from l.end
    (usage l.initial.w l.initial.flawed) l.w l.flawed l.i l.args l.used
