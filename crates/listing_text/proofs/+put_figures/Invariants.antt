-- The measure is the number.
use Rattle.listing_text.proofs.+put_figures.Given as goal

abbrev pub decreases-put_figures : goal.decreases-put_figures
decreases-put_figures l = l.n
