-- One byte behind another, and the number's line.
use Rattle.laws.proofs.Puts.{put_both}
use Rattle.listing_text.proofs.put_head.Goals as goal

pub returns : goal.returns
returns c =
    put_both c.put_byte-second.ensures
    (put_both c.put_byte-gap.ensures (put_both c.put_byte-number.ensures c.put_line.ensures))
