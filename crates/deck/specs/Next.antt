-- What the code finds from a cursor on: the first of the statements of the lines from there, and where it stands.
use Rattle.std.specs.Prelude.{ℕ, suc, ◌+◌, ◌-◌, ◌<◌, ◌≤◌, ◌≡◌, cond, List, [], ◌∷◌, length, take, drop, eqb, leb}
use Rattle.std.specs.Prelude.{Option, Some, None}
use Rattle.deck.specs.Lines.{Line, lines_of}
use Rattle.deck.specs.Reading.{Statement as Read, cards_of, fresh, reading}
use Rattle.deck.specs.Faults.{any_long}
use Rattle.deck.specs.declared.Cursor.{Cursor}
use Rattle.deck.specs.declared.Statement.{Statement}

-- how many bytes stand before the first byte 10
unfoldable pub width : List ℕ → ℕ
width [] = 0
width (b ∷ t) = cond (eqb b 10) 0 (suc (width t))

-- between two places of a text no byte 10 stands: from both it is the same line's end
pub record SameEnd (t : List ℕ) (at i : ℕ) : Type 0 where
  pub from : at ≤ i
  pub upto : i ≤ length t
  pub same : i + width (drop i t) ≡ at + width (drop at t)

-- the bytes of lines, a byte 10 behind each
unfoldable pub spread : List Line → ℕ
spread [] = 0
spread (l ∷ ls) = length l + 1 + spread ls

-- n lines of a text from a place on, and the cards among them
abbrev pub lines_at : List ℕ → ℕ → ℕ → List Line
lines_at t start n = take n (lines_of (drop start t))

abbrev pub cards_at : List ℕ → ℕ → ℕ → List Line
cards_at t start n = cards_of (lines_at t start n)

-- the statements from a cursor on, at which reading is fresh
abbrev pub statements_from : List ℕ → Cursor → List Read
statements_from t c = reading fresh c.line (lines_of (drop c.at t))

-- a statement that starts at a place: how many lines it covers, how many cards it has, whether one of these is too
-- long, and the cursor behind its lines
abbrev pub found_of : ℕ → Read → Statement
found_of start s =
    let n = length s.lines in
    let cards = cards_of s.lines in
    record {
      first = s.first;
      start = start;
      lines = n;
      cards = length cards;
      closed = s.closed;
      long = any_long cards;
      next = record { at = start + spread s.lines; line = s.first + n };
    }

-- the first of the statements, which starts at a place
abbrev pub found_at : ℕ → List Read → Option Statement
found_at start [] = None
found_at start (s ∷ ss) = Some (found_of start s)

-- the first of the statements from a cursor on, where ls are the lines from there: it starts behind those of them that
-- stand before its first
abbrev pub found_in : Cursor → List Line → List Read → Option Statement
found_in c ls [] = None
found_in c ls (s ∷ ss) = Some (found_of (c.at + spread (take (s.first - c.line) ls)) s)

-- a line's number is at most its place and one: each line in front of it has a byte at least, its byte 10
abbrev pub Lawful : Cursor → Type 0
Lawful c = c.line ≤ c.at + 1

-- from a cursor on; where the cursor's number cannot be that of its line, nothing is found
unfoldable pub found_from : List ℕ → Cursor → Option Statement
found_from t c =
    cond (leb c.line (c.at + 1)) (found_in c (lines_of (drop c.at t)) (statements_from t c)) None

-- a statement is found only where bytes are left, of n, and the next cursor is further on and lawful
abbrev pub Further : ℕ → Cursor → Option Statement → Type 0
Further n c None = Unit {0}
Further n c (Some s) = (c.at < n) × (c.at < s.next.at) × Lawful s.next
