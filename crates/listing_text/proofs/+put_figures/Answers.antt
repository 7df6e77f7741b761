-- One digit, or the digits of a tenth and one more.
use Prim.Native.Nat.{◌/◌}
use native.Mathlib.Omega.{arith}
use Rattle.laws.proofs.Puts.{put_both}
use Rattle.listing_text.specs.Listing.{figures}
use Rattle.listing_text.proofs.Figures.{one_figure, more_figures}
use Rattle.listing_text.proofs.Reach.{reach_first, reach_second}
use Rattle.listing_text.proofs.+put_figures.Goals as goal

pub put_byte-requires : goal.put_byte-requires
put_byte-requires t c = rw (one_figure c.args.n c.if-n-lt10.true) at c.requires

pub returns-then-n-lt10 : goal.returns-then-n-lt10
returns-then-n-lt10 t c = rw (one_figure c.args.n c.if-n-lt10.true) c.put_byte.ensures

pub put_figures-last-requires : goal.put_figures-last-requires
put_figures-last-requires t c = (
  omega arith,
  reach_first (figures (c.args.n / 10)) _ c.args.at (rw (more_figures c.args.n c.if-n-lt10.false) at c.requires),
)

pub put_byte-requires-2 : goal.put_byte-requires-2
put_byte-requires-2 t c =
    reach_second c.put_figures-last.ensures _ (rw (more_figures c.args.n c.if-n-lt10.false) at c.requires)

pub returns : goal.returns
returns t c =
    rw (more_figures c.args.n c.if-n-lt10.false) (put_both c.put_figures-last.ensures c.put_byte-2.ensures)
