-- What the open entries promise: r is the answer, o the buffer afterwards.
use Rattle.std.specs.Prelude.{ℕ, ◌≡◌, Bool, List, length, Option}
use Rattle.std.proofs.lemmas.List.Edits.{sets}
use Rattle.faults.specs.declared.Fault.{Fault}
use Rattle.faults.specs.Codes.{code_or_none}
use Rattle.deck.specs.Lines.{lines_of}
use Rattle.deck.specs.Joined.{joined}
use Rattle.deck.specs.Next.{found_from, Further, lines_at, cards_at}
use Rattle.deck.specs.Spots.{spot_of}
use Rattle.deck.specs.Codes.{size_code}
use Rattle.deck.specs.declared.Cursor.{Cursor}
use Rattle.deck.specs.declared.Statement.{Statement}
use Rattle.deck.specs.declared.Place.{Place}
use Rattle.deck.specs.declared.Spot.{Spot}

-- `next_statement`: the next statement from a cursor on, with the cursor behind it; none at the end
abbrev pub FindsNext : List ℕ → Cursor → Option Statement → Type 0
FindsNext text c r = (r ≡ found_from text c) × Further (length text) c r

-- `line_count`: how many lines the text has
abbrev pub CountsLines : List ℕ → ℕ → Type 0
CountsLines text r = r ≡ length (lines_of text)

-- `size_fault`: the fault of the code 11, 12 or 13, or none for 0, by what is known of a statement
abbrev pub FaultsSize : ℕ → Bool → Bool → Option Fault → Type 0
FaultsSize cards closed long r = code_or_none r ≡ size_code cards closed long

-- `join`: the length of the joined text of the cards among so many lines from a place on, which stands at the front of
-- the buffer, as far as there are places; the others are as lent
abbrev pub Joins : List ℕ → ℕ → ℕ → List ℕ → ℕ → List ℕ → Type 0
Joins text start lines out r o =
    (r ≡ length (joined (cards_at text start lines))) × (o ≡ sets out 0 (joined (cards_at text start lines)))

-- `find_spot`: where a place of the statement of so many lines from a start on stands
abbrev pub FindsSpot : List ℕ → ℕ → ℕ → Place → Spot → Type 0
FindsSpot text start lines place r = r ≡ spot_of (lines_at text start lines) place
