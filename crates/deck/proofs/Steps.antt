-- What is found from a place on, one line at a time.
use Prim.Native.Nat.{ℕ, suc, ◌+◌, ◌-◌, ◌≤◌, ◌<◌}
use mathlib.Core.Path.{◌≡◌, refl, sym, ap, ap₂, ◌∙◌}
use mathlib.Core.Bool.{Bool, true, false, not, ◌&&◌, ◌||◌}
use mathlib.Core.List.{List, [], ◌∷◌, ◌++◌, append_assoc}
use native.Mathlib.Omega.{arith}
use lib.Dec.{ltb}
use Rattle.std.specs.Prelude.{Option, Some, None}
use lib.ListN.{length, drop, length-append}
use lib.Seq.{take_at}
use borrow.Author.Tests.{le-leb, lt-leb}
use Rattle.limits.specs.Limits.{card_bytes}
use Rattle.laws.specs.Counts.{once}
use Rattle.deck.specs.Lines.{Line, lines_of, dotted, starred, passed}
use Rattle.deck.specs.Reading.{Statement as Read, cards_of, fresh, inside, leaves_open, after, ended, left, reading}
use Rattle.deck.specs.Faults.{any_long}
use Rattle.deck.specs.Next.{spread, statements_from, found_at, found_in, Lawful, found_from}
use Rattle.deck.specs.declared.Cursor.{Cursor}
use Rattle.deck.specs.declared.Statement.{Statement}
use Rattle.deck.proofs.Cards.{cards_few, cards_count, cards_long}
use Rattle.deck.specs.Ahead.{LineAt}
use Rattle.deck.proofs.Cutting.{lines_end, spread_snoc}
use Rattle.deck.proofs.First.{onward, starts}

-- ---- inside the statement that starts at start: `read` are its lines so far, n of them, k of these cards; what is
-- read from the line at place at on, behind which the others stand from place to on, is what is read from start on
pub record Running (t : List ℕ) (first start to : ℕ) (here : Line) (n k : ℕ) (long : Bool) : Type 0 where
  pub at : ℕ
  pub read : List Line
  pub line : LineAt t at here
  pub behind : to ≡ at + length here + 1
  pub few : start + n ≤ at
  pub fewer : k ≤ n
  pub place : at ≡ start + spread read
  pub count : n ≡ length read
  pub cards : k ≡ length (cards_of read)
  pub flag : long ≡ any_long (cards_of read)
  pub same : reading (inside first read) (first + n) (lines_of (drop at t))
      ≡ reading (inside first []) first (lines_of (drop start t))

-- at its first line
pub running_first : (t : List ℕ) (first start : ℕ) (here : Line) → LineAt t start here
    → Running t first start (start + length here + 1) here 0 0 false
unfolding spread cards_of any_long
running_first t first start here l =
    let number : first + 0 ≡ first = omega arith in
    record {
      at = start;
      read = [];
      line = l;
      behind = refl;
      few = omega arith;
      fewer = omega arith;
      place = omega arith;
      count = refl;
      cards = refl;
      flag = refl;
      same = rw number;
    }

-- one line more, of which it was found whether it is a comment, 1 if not, and whether it is dotted
module _ {t : List ℕ} {first start to : ℕ} {here : Line} {n k : ℕ} {long : Bool}
    (x : Running t first start to here n k long)
    (comment dots : Bool) (one : ℕ) (is_comment : comment ≡ starred here) (is_one : one ≡ once (not comment))
    (is_dotted : dots ≡ dotted here) where
  -- the lines with it
  abbrev with : List Line
  with = x.read ++ (here ∷ [])

  -- whether a card is long, with this line
  abbrev longer : Bool
  longer = long || (not comment && ltb card_bytes (length here))

  -- where the lines with it end, how many they are and how many of them are cards, and whether one of these is long
  place_with : to ≡ start + spread with
  place_with = omega (arith, x.place, x.behind, spread_snoc x.read here)

  count_with : n + 1 ≡ length with
  count_with = simp length-append (omega (arith, x.count))

  cards_with : k + one ≡ length (cards_of with)
  cards_with = rw (is_one, is_comment, x.cards) (sym (cards_count x.read here))

  long_with : longer ≡ any_long (cards_of with)
  long_with = rw (is_comment, x.flag) (sym (cards_long x.read here))

  -- whether it leaves the statement open
  opens : {b : Bool} → (comment || dots) ≡ b → leaves_open here ≡ b
  opens h = sym (ap₂ ◌||◌ is_comment is_dotted) ∙ h

  number : suc (first + n) ≡ first + (n + 1)
  number = omega arith

  -- what is read from it on
  lines_with : reading (inside first x.read) (first + n) (here ∷ lines_of (drop to t))
      ≡ reading (inside first []) first (lines_of (drop start t))
  lines_with = rw x.behind (rw x.line.lines at x.same)

  -- a line that does goes on
  step : (comment || dots) ≡ true
      → reading (inside first with) (first + (n + 1)) (lines_of (drop to t))
      ≡ reading (inside first []) first (lines_of (drop start t))
  unfolding reading after ended
  step d = rw (opens d, number) at lines_with

  -- at the next line
  pub running_next : (to' : ℕ) (next : Line) → (comment || dots) ≡ true → LineAt t to next
      → to' ≡ to + length next + 1 → Running t first start to' next (n + 1) (k + one) longer
  running_next to' next d l q =
      record {
        at = to;
        read = with;
        line = l;
        behind = q;
        few = omega (arith, x.few, x.behind);
        fewer = omega (arith, count_with, cards_with, cards_few with);
        place = place_with;
        count = count_with;
        cards = cards_with;
        flag = long_with;
        same = step d;
      }

  -- the answer of a statement with these lines
  abbrev answered : Bool → Statement
  answered closed =
      record {
        first = first;
        start = start;
        lines = n + 1;
        cards = k + one;
        closed = closed;
        long = longer;
        next = record { at = to; line = first + (n + 1) };
      }

  answered_so : (closed : Bool) (ss : List Read)
      → record { first = first; lines = with; closed = closed } ∷ ss
      ≡ reading (inside first []) first (lines_of (drop start t))
      → Some (answered closed) ≡ found_at start (reading (inside first []) first (lines_of (drop start t)))
  answered_so closed ss q = rw (count_with, cards_with, long_with, place_with) (ap (found_at start) q)

  -- a line that leaves it not open ends the statement
  pub running_stop : (comment || dots) ≡ false
      → Some (answered true) ≡ found_at start (reading (inside first []) first (lines_of (drop start t)))
  unfolding reading after ended
  running_stop d = answered_so true _ (rw (opens d) at lines_with)

  -- the end of the text leaves it open
  pub running_end : (comment || dots) ≡ true → length t ≤ to
      → Some (answered false) ≡ found_at start (reading (inside first []) first (lines_of (drop start t)))
  unfolding reading left
  running_end d h = answered_so false [] (rw (lines_end t to h) at (step d))

-- ---- from a cursor on: behind the lines `front`, which are passed over, a line is fresh
pub record Seeking (t : List ℕ) (c : Cursor) (at n : ℕ) : Type 0 where
  pub front : List Line
  pub cursor : Lawful c
  pub lawful : n ≤ at + 1
  pub parts : lines_of (drop c.at t) ≡ front ++ lines_of (drop at t)
  pub place : at ≡ c.at + spread front
  pub number : n ≡ c.line + length front
  pub same : statements_from t c ≡ reading fresh n (lines_of (drop at t))

module _ (t : List ℕ) (c : Cursor) where
  -- a lawful cursor finds what its line and the lines behind it say
  pub found_next : Lawful c → found_from t c ≡ found_in c (lines_of (drop c.at t)) (statements_from t c)
  unfolding found_from
  found_next h = rw (le-leb c.line (c.at + 1) h)

  -- at its own line
  pub seeking_first : Lawful c → Seeking t c c.at c.line
  unfolding spread
  seeking_first h =
      record {
        front = [];
        cursor = h;
        lawful = h;
        parts = refl;
        place = omega arith;
        number = omega arith;
        same = refl;
      }

  -- a cursor that is not lawful finds nothing
  pub found_none : c.at + 1 < c.line → None ≡ found_from t c
  unfolding found_from
  found_none h = rw (lt-leb c.line (c.at + 1) h)

  module _ {at n : ℕ} (x : Seeking t c at n) where
    -- a comment or a blank is passed over
    pub seeking_next : (here : Line) → LineAt t at here → passed here ≡ true
        → Seeking t c (at + length here + 1) (n + 1)
    unfolding reading after ended
    seeking_next here l d =
        let next : suc n ≡ n + 1 = omega arith in
        record {
          front = x.front ++ (here ∷ []);
          cursor = x.cursor;
          lawful = omega (arith, x.lawful);
          parts = x.parts ∙ rw l.lines (sym (append_assoc x.front (here ∷ []) _));
          place = omega (arith, x.place, spread_snoc x.front here);
          number = simp length-append (omega (arith, x.number));
          same = x.same ∙ rw (l.lines, d, next);
        }

    -- any other line starts a statement
    pub seeking_run : (here : Line) (r : Option Statement) → LineAt t at here → passed here ≡ false
        → r ≡ found_at at (reading (inside n []) n (lines_of (drop at t))) → r ≡ found_from t c
    seeking_run here r l d q =
        let o = onward n [] n (lines_of (drop at t)) in
        let all : statements_from t c ≡ _ = x.same ∙ rw l.lines (starts n here _ d) ∙ o.reads in
        let before : n - c.line ≡ length x.front = omega (arith, x.number) in
        let front = take_at x.front (lines_of (drop at t)) (length x.front) refl in
        q ∙ ap (found_at at) o.reads ∙ sym
        (found_next x.cursor ∙ ap (found_in c (lines_of (drop c.at t))) all
        ∙ rw (before, x.parts, front, ← x.place))

    -- at the end nothing is found
    pub seeking_end : length t ≤ at → None ≡ found_from t c
    unfolding reading left
    seeking_end b =
        let none : statements_from t c ≡ [] = x.same ∙ rw (lines_end t at b) in
        sym (found_next x.cursor ∙ ap (found_in c (lines_of (drop c.at t))) none)
