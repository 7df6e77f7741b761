-- The key sought is the one that the hint or link leads to, or one behind it. Each link leads on.
use Rattle.model.proofs.KeysFound.{sought_first, sought_there, sought_next, sought_less}
use Rattle.model.proofs.hints.Names.find.Goals as goal

pub loop-h-init : goal.loop-h-init
loop-h-init c =
    let bucket = c.bucket.ensures in
    sought_first c.args.self.now.hinted bucket.0 bucket.1 c.short_at-h.ensures.0

pub returns-then-self-h : goal.returns-then-self-h
returns-then-self-h c =
    sought_there c.args.self.now.hinted c.loop-h.invariant c.loop-h-test.true c.if-self-h.true

pub loop-h-smaller : goal.loop-h-smaller
loop-h-smaller c =
    sought_less c.args.self.now.hinted c.loop-h.invariant c.loop-h-test.true c.short_at-h-in-loop-h.ensures.0

pub loop-h-preserved : goal.loop-h-preserved
loop-h-preserved c =
    sought_next c.args.self.now.hinted c.loop-h.invariant c.loop-h-test.true c.if-self-h.false
    c.short_at-h-in-loop-h.ensures.0
