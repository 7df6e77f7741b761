-- What a statement of a text means, by its lines and whether it is closed: what it says, or its fault.
use Rattle.std.specs.Prelude.{ℕ, ◌≡◌, Bool, List, ◌⊎◌, ◌↔◌}
use Rattle.limits.specs.Limits.{levels}
use Rattle.deck.specs.Lines.{Line}
use Rattle.deck.specs.Reading.{cards_of}
use Rattle.deck.specs.Joined.{joined}
use Rattle.deck.specs.Faults.{none, flaw, size_flaw}
use Rattle.deck.specs.Spots.{spot_of}
use Rattle.deck.specs.declared.Place.{Place}
use Rattle.deck.specs.declared.Place.TheVariants.{AtToken}
use Rattle.deck.specs.declared.Spot.{Spot}
use Rattle.tokens.specs.Row.{Placed, all_good, bad, row_of, symbols}
use Rattle.drafts.specs.Tree.{Says}
use Rattle.grammar.specs.Grammar.{Derives}
use Rattle.grammar.specs.Meaning.{Eighteen, Nineteen}
use Rattle.sheet.specs.Sheet.{says, faulty}
use Rattle.sheet.specs.Reader.{place_of, told}

-- the tokens of its joined text
abbrev pub tokens_of : List Line → List Placed
tokens_of cards = (row_of (joined cards)).tokens

-- without a fault 11, 12 or 13 and without a bad token
pub record Scanned (cards : List Line) (closed : Bool) : Type 0 where
  pub sized : size_flaw cards closed ≡ none
  pub good : (row_of (joined cards)).close ≡ all_good

-- what it says, or its fault with its place
pub record StatementMeans (lines : List Line) (closed : Bool) : Type 0 where
  -- 11, 12 or 13
  pub for_size : (c : ℕ) (p : Place) → size_flaw (cards_of lines) closed ≡ flaw c p
      → told lines closed ≡ faulty c (spot_of lines p)
  -- the first bad token
  pub for_token : size_flaw (cards_of lines) closed ≡ none → (c at : ℕ)
      → (row_of (joined (cards_of lines))).close ≡ bad c at
      → told lines closed ≡ faulty c (spot_of lines (AtToken at))
  pub for_grammar : Scanned (cards_of lines) closed → (x : Says)
      → (told lines closed ≡ says x) ↔ Derives levels (symbols (tokens_of (cards_of lines))) x
  pub for_eighteen : Scanned (cards_of lines) closed → (i : ℕ) → Eighteen (symbols (tokens_of (cards_of lines))) i
      → told lines closed ≡ faulty 18 (spot_of lines (place_of (tokens_of (cards_of lines)) i))
  pub for_nineteen : Scanned (cards_of lines) closed → (i : ℕ) → Nineteen (symbols (tokens_of (cards_of lines))) i
      → told lines closed ≡ faulty 19 (spot_of lines (place_of (tokens_of (cards_of lines)) i))
  -- and there is no other fault
  pub no_other : Scanned (cards_of lines) closed → (c : ℕ) (p : Spot) → told lines closed ≡ faulty c p
      → (i : ℕ) × (p ≡ spot_of lines (place_of (tokens_of (cards_of lines)) i))
      × (((c ≡ 18) × Eighteen (symbols (tokens_of (cards_of lines))) i)
      ⊎ ((c ≡ 19) × Nineteen (symbols (tokens_of (cards_of lines))) i))
