-- What it is for a spot to be in a statement of these lines: a byte of one of its cards.
use Rattle.std.specs.Prelude.{ℕ, ◌-◌, ◌≤◌, ◌<◌, ◌≡◌, false, List, [], ◌++◌, ◌⊎◌, length, get_or, drop}
use Rattle.laws.specs.Runs.{EndOrSpace}
use Rattle.deck.specs.Lines.{Line, starred}
use Rattle.deck.specs.Reading.{cards_of}
use Rattle.deck.specs.Joined.{line_part, joined}
use Rattle.deck.specs.declared.Spot.{Spot}

-- the line of a spot
abbrev pub line_at_spot : List Line → Spot → Line
line_at_spot ls p = get_or ls p.down []

-- it is a byte of one of the cards, or column 1 of an empty one
pub record InCard (ls : List Line) (p : Spot) : Type 0 where
  pub within : p.down < length ls
  pub card : starred (line_at_spot ls p) ≡ false
  pub column : 0 < p.column
  pub byte : (p.column ≤ length (line_at_spot ls p)) ⊎ ((line_at_spot ls p ≡ []) × (p.column ≡ 1))

-- byte n of the joined text is there: from it the text goes on with the rest of the card's part, and then ends, or has
-- a space
pub record StandsAt (ls : List Line) (n : ℕ) (p : Spot) : Type 0 where
  pub in_card : InCard ls p
  pub in_part : p.column ≤ length (line_part (line_at_spot ls p))
  pub behind : List ℕ
  pub apart : EndOrSpace behind
  pub goes_on : drop n (joined (cards_of ls)) ≡ drop (p.column - 1) (line_part (line_at_spot ls p)) ++ behind

-- one spot is earlier than another: on a line above, or further to the left
abbrev pub Earlier : Spot → Spot → Type 0
Earlier p q = (p.down < q.down) ⊎ ((p.down ≡ q.down) × (p.column < q.column))
