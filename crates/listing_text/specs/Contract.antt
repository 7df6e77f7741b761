-- The promise of `list`.
use Rattle.std.specs.Prelude.{ℕ, ◌≡◌, List, length}
use Rattle.std.proofs.lemmas.List.Edits.{sets}
use Rattle.listing_text.specs.Listing.{listing}

-- `list`: the answer is the listing's length, and the lent bytes hold the listing from their front on, as much of it as
-- they have places for; the others stay as lent
pub record Lists (text out : List ℕ) (r : ℕ) (out' : List ℕ) : Type 0 where
  pub needed : r ≡ length (listing text)
  pub held : out' ≡ sets out 0 (listing text)
