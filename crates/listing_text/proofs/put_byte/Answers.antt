-- Past the end nothing is written.
use Rattle.listing_text.proofs.Puts.{put_out}
use Rattle.listing_text.proofs.put_byte.Goals as goal

pub returns-then-out-at : goal.returns-then-out-at
returns-then-out-at c =
    let a = c.args in put_out a.b a.at a.out.now c.if-out-at.true
