-- The digits, and byte 10 behind them.
use mathlib.Core.List.{[], ◌∷◌}
use Rattle.laws.proofs.Puts.{put_both}
use Rattle.listing_text.specs.Listing.{figures}
use Rattle.listing_text.proofs.Reach.{reach_first, reach_second}
use Rattle.listing_text.proofs.put_line.Goals as goal

pub put_figures-end-requires : goal.put_figures-end-requires
put_figures-end-requires c =
    reach_first (figures c.args.n) (10 ∷ []) c.args.at c.requires

pub put_byte-requires : goal.put_byte-requires
put_byte-requires c =
    reach_second c.put_figures-end.ensures (10 ∷ []) c.requires

pub returns : goal.returns
returns c =
    put_both c.put_figures-end.ensures
    c.put_byte.ensures
