-- One step of a caller's walk, from a cursor c over the statement that was found there to the cursor nx behind it.
use Rattle.std.specs.Prelude.{ℕ, ◌+◌, ◌-◌, ◌≤◌, ◌<◌, ◌≡◌, Bool, true, List, ◌∷◌, length, take, drop}
use Rattle.deck.specs.Joined.{joined}
use Rattle.deck.specs.Faults.{size_flaw}
use Rattle.deck.specs.Next.{spread, lines_at, cards_at, statements_from, Lawful}
use Rattle.deck.specs.Codes.{size_code, flaw_of, joined_room}
use Rattle.deck.specs.declared.Cursor.{Cursor}

-- the bytes from a place up to one before another are these
pub record BytesFrom (text : List ℕ) (start next : ℕ) (body : List ℕ) : Type 0 where
  pub from : start < next
  pub upto : next ≤ length text + 1
  pub same : take (next - 1 - start) (drop start text) ≡ body

-- the statement has first line f, start s, n lines, k cards; d says whether it is closed, g whether a card is long
pub record Walk (t : List ℕ) (c : Cursor) (f s n k : ℕ) (d g : Bool) (nx : Cursor) : Type 0 where
  -- it is the first of the statements from c on, and the others are those from nx on
  pub reads : statements_from t c ≡ record { first = f; lines = lines_at t s n; closed = d } ∷ statements_from t nx
  -- its fault for size is that of the code
  pub size : size_flaw (cards_at t s n) d ≡ flaw_of d (size_code k d g)
  -- without such a fault its joined text has room
  pub short : size_code k d g ≡ 0 → length (joined (cards_at t s n)) ≤ joined_room
  -- its lines stand from its start to the next cursor
  pub from : c.at ≤ s
  pub upto : nx.at ≡ s + spread (lines_at t s n)
  -- of one line that closed it the joined text stands there
  pub alone : n ≡ 1 → d ≡ true → BytesFrom t s nx.at (joined (cards_at t s n))
  -- its number is at most the count of bytes
  pub near : f ≤ length t
  pub bytes : c.at < length t
  pub further : c.at < nx.at
  pub lawful : Lawful nx
