-- The key sought is the one that the hint or link leads to, or one behind it. Each link leads on.
use lib.ListN.{length}
use Rattle.model.proofs.KeysFound.{Sought, ahead}
use Rattle.model.proofs.hints.Names.find.Given as goal

abbrev pub invariant-loop-h : goal.invariant-loop-h
invariant-loop-h l =
    Sought l.self.keys.now l.key l.h

abbrev pub decreases-loop-h : goal.decreases-loop-h
decreases-loop-h l =
    ahead (length l.self.keys.now) l.h
