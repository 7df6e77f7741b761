-- The place of a statement's fault is in the statement: a byte of one of its cards. The token that is cut from there is
-- the one at fault, and nothing before it is at fault.
use Rattle.std.specs.Prelude.{ℕ, ◌-◌, ◌<◌, ◌≡◌, Bool, List, ◌⊎◌, length, get_or}
use Rattle.laws.specs.Every.{Every}
use Rattle.deck.specs.Lines.{Line}
use Rattle.deck.specs.Reading.{cards_of}
use Rattle.deck.specs.Joined.{line_part, joined}
use Rattle.deck.specs.Faults.{none, size_flaw}
use Rattle.deck.specs.Spots.{spot_of}
use Rattle.deck.specs.InPlace.{line_at_spot, InCard, StandsAt, Earlier}
use Rattle.deck.specs.declared.Place.TheVariants.{AtToken}
use Rattle.deck.specs.declared.Spot.{Spot}
use Rattle.tokens.specs.Symbol.{Symbol}
use Rattle.tokens.specs.Row.{Placed, bad, no_token, row_of, symbols}
use Rattle.tokens.specs.Seen.{Seen, token, ill, seen_at}
use Rattle.grammar.specs.Meaning.{Eighteen, Nineteen}
use Rattle.sheet.specs.Sheet.{faulty}
use Rattle.sheet.specs.Reader.{told}
use Rattle.sheet.specs.StatementMeans.{tokens_of, Scanned}

-- what a cut from a spot shows: of the card there without its dots, from the column on
abbrev pub seen_from : List Line → Spot → Seen
seen_from ls p = seen_at (line_part (line_at_spot ls p)) (p.column - 1)

-- byte n of the joined text stands there, and what is cut from there is x
pub record CutThere (ls : List Line) (n : ℕ) (x : Seen) (p : Spot) : Type 0 where
  pub stands : StandsAt ls n p
  pub cut : seen_from ls p ≡ x

-- the spot of a token of the joined text
abbrev pub token_spot : List Line → Placed → Spot
token_spot ls q = spot_of ls (AtToken q.at)

-- a token before p, good by itself
abbrev pub GoodBefore : List Line → Spot → Placed → Type 0
GoodBefore ls p q = Earlier (token_spot ls q) p × CutThere ls q.at (token q.symbol) (token_spot ls q)

-- token i of a row is where the grammar's fault c is
abbrev pub FaultAt : List Symbol → ℕ → ℕ → Type 0
FaultAt row c i = ((c ≡ 18) × Eighteen row i) ⊎ ((c ≡ 19) × Nineteen row i)

pub record PlaceMeans (lines : List Line) (closed : Bool) : Type 0 where
  -- whatever the fault, its place is a byte of one of the cards, or column 1 of an empty one
  pub in_statement : (c : ℕ) (p : Spot) → told lines closed ≡ faulty c p → InCard lines p
  -- 14 to 17: the token that is cut from there is the bad one; each before it is good
  pub bad_token : size_flaw (cards_of lines) closed ≡ none → (c at : ℕ)
      → (row_of (joined (cards_of lines))).close ≡ bad c at
      → (p : Spot) → told lines closed ≡ faulty c p
      → CutThere lines at (ill c) p × Every (GoodBefore lines p) (tokens_of (cards_of lines))
  -- 18 and 19, early end aside: the token that is cut from there is the one at fault; no token before it is
  pub wrong_token : Scanned (cards_of lines) closed
      → (c i : ℕ) → FaultAt (symbols (tokens_of (cards_of lines))) c i → i < length (tokens_of (cards_of lines))
      → (p : Spot) → told lines closed ≡ faulty c p
      → (let at_fault = get_or (tokens_of (cards_of lines)) i no_token in
      CutThere lines at_fault.at (token at_fault.symbol) p)
      × ((j : ℕ) → j < i → Earlier (token_spot lines (get_or (tokens_of (cards_of lines)) j no_token)) p
      × ((d : ℕ) → FaultAt (symbols (tokens_of (cards_of lines))) d j → ⊥))
