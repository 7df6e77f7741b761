-- The digits of the first, a space, and the line of the second.
use mathlib.Core.List.{[], ◌∷◌}
use Rattle.laws.proofs.Puts.{put_both}
use Rattle.listing_text.specs.Listing.{figures, line}
use Rattle.listing_text.proofs.Reach.{reach_first, reach_second}
use Rattle.listing_text.proofs.put_pair.Goals as goal

pub put_figures-gap-requires : goal.put_figures-gap-requires
put_figures-gap-requires c =
    reach_first (figures c.args.m) (32 ∷ line c.args.n) c.args.at c.requires

pub put_byte-second-requires : goal.put_byte-second-requires
put_byte-second-requires c =
    reach_first (32 ∷ []) (line c.args.n) _
    (reach_second c.put_figures-gap.ensures (32 ∷ line c.args.n) c.requires)

pub put_line-requires : goal.put_line-requires
put_line-requires c =
    reach_second c.put_byte-second.ensures (line c.args.n)
    (reach_second c.put_figures-gap.ensures (32 ∷ line c.args.n) c.requires)

pub returns : goal.returns
returns c =
    put_both c.put_figures-gap.ensures
    (put_both c.put_byte-second.ensures c.put_line.ensures)
