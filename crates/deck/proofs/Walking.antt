-- What the code finds is what the reading of the lines says: for a caller that goes from statement to statement.
use Prim.Native.Nat.{ℕ, ◌+◌, ◌-◌, ◌<◌}
use mathlib.Core.Path.{◌≡◌, refl, sym, ap, ◌∙◌}
use mathlib.Core.Bool.{false}
use mathlib.Core.List.{List, [], ◌∷◌, ◌++◌}
use mathlib.Core.Logic.{◌⊎◌, inl, inr}
use native.Mathlib.Omega.{arith}
use lib.ListN.{length, take, drop, length-append}
use lib.Seq.{take_at}
use lib.Dec.{leb}
use Rattle.std.specs.Prelude.{Option, Some, None}
use borrow.Author.Tests.{eq-eqb, leb-true}
use Rattle.laws.proofs.Bools.{or_false}
use Rattle.laws.proofs.Tests.{cond_ind}
use Rattle.deck.specs.Lines.{Line, lines_of, dotted, starred}
use Rattle.deck.specs.Reading.{cards_of, leaves_open}
use Rattle.deck.specs.Joined.{line_part, joined}
use Rattle.deck.specs.Next.{spread, lines_at, statements_from, found_of, found_in, Lawful, found_from}
use Rattle.deck.specs.Next.{Further}
use Rattle.deck.specs.Walks.{BytesFrom, Walk}
use Rattle.deck.specs.declared.Cursor.{Cursor}
use Rattle.deck.specs.declared.Statement.{Statement}
use Rattle.deck.proofs.Cutting.{lines_bytes, line_stands, lines_behind, spread_many}
use Rattle.deck.proofs.First.{Shut, First, first}
use Rattle.deck.proofs.Steps.{found_next}
use Rattle.deck.proofs.Parts.{size_flaw_holds, joined_short}

-- ---- a statement of one line

-- the joined text of the line that closed it is the line
alone_joined : (l : Line) → leaves_open l ≡ false → joined (cards_of (l ∷ [])) ≡ l
unfolding joined line_part cards_of
alone_joined l e = let both = or_false (starred l) (dotted l) e in rw (both.0, both.1)

-- of lines of which the last closed it, where there is one
alone_line : (ls : List Line) → length ls ≡ 1 → Shut ls → (l : Line) × (ls ≡ l ∷ []) × (leaves_open l ≡ false)
alone_line ls n s = go s.before s.whole
  where
    go : (before : List Line) → ls ≡ before ++ (s.last ∷ []) → (l : Line) × (ls ≡ l ∷ []) × (leaves_open l ≡ false)
    go [] q = (s.last, q, s.closing)
    go (m ∷ before) q =
        absurd (omega (arith, n, ap length q, length-append before (s.last ∷ [])))

-- it stands before the next cursor
alone : (t : List ℕ) (s : ℕ) (ls rest : List Line) → lines_of (drop s t) ≡ ls ++ rest → length ls ≡ 1 → Shut ls
    → BytesFrom t s (s + spread ls) (joined (cards_of ls))
unfolding spread
alone t s ls rest q n shut = go (alone_line ls n shut)
  where
    go : (l : Line) × (ls ≡ l ∷ []) × (leaves_open l ≡ false) → BytesFrom t s (s + spread ls) (joined (cards_of ls))
    go (l, e, c) =
        let w = line_stands t s l rest (q ∙ ap (λ (x : List Line). x ++ rest) e) in
        let m : s + (length l + 1 + 0) - 1 - s ≡ length l = omega arith in
        rw e
        (record { from = omega arith; upto = omega (arith, w.1); same = rw m w.0 ∙ sym (alone_joined l c) })

-- ---- an answer of the code: a statement, or none

-- it is a step of a walk, or nothing is left
abbrev Walked : List ℕ → Cursor → Option Statement → Type 0
Walked t c None = statements_from t c ≡ []
Walked t c (Some s) = Walk t c s.first s.start s.lines s.cards s.closed s.long s.next

module _ (t : List ℕ) (c : Cursor) (h : Lawful c) where
  -- the lines from the cursor on
  abbrev ahead : List Line
  ahead = lines_of (drop c.at t)

  -- a first statement is walked over
  walk_first : (x : First c.line ahead)
      → Walked t c
      (Some
      (found_of (c.at + spread x.front)
      (record { first = c.line + length x.front; lines = x.lines; closed = x.closed })))
  walk_first x =
      let s = c.at + spread x.front in
      let from_start : lines_of (drop s t) ≡ x.lines ++ x.rest =
      lines_behind t c.at x.front (x.lines ++ x.rest) x.parts in
      let from_next : lines_of (drop (s + spread x.lines) t) ≡ x.rest =
      lines_behind t s x.lines x.rest from_start in
      let its : lines_at t s (length x.lines) ≡ x.lines =
      ap (take (length x.lines)) from_start ∙ take_at x.lines x.rest (length x.lines) refl in
      let many = ap length from_start ∙ length-append x.lines x.rest in
      let bytes : s < length t = lines_bytes t s (omega (arith, many, x.some)) in
      let front = spread_many x.front in
      let lines = spread_many x.lines in
      let size = size_flaw_holds (cards_of x.lines) x.closed in
      record {
        reads = x.reads ∙ rw (its, from_next);
        size = rw its size;
        short = λ n. rw its (joined_short (cards_of x.lines) x.closed (size ∙ rw (eq-eqb _ 0 n)));
        from = omega arith;
        upto = rw its;
        alone = λ n d. rw its (alone t s x.lines x.rest from_start n (x.shut d));
        near = omega (arith, h, front, bytes);
        bytes = omega (arith, bytes);
        further = omega (arith, lines, x.some);
        lawful = omega (arith, h, front, lines);
      }

  -- what is found is walked over
  in_walked : Walked t c (found_in c ahead (statements_from t c))
  in_walked = go (first c.line ahead)
    where
      go : (statements_from t c ≡ []) ⊎ First c.line ahead → Walked t c (found_in c ahead (statements_from t c))
      go (inl none) = rw none none
      go (inr x) =
          let before : c.line + length x.front - c.line ≡ length x.front = omega arith in
          let front : take (length x.front) ahead ≡ x.front =
          ap (take (length x.front)) x.parts ∙ take_at x.front (x.lines ++ x.rest) _ refl in
          rw (x.reads, before, front) (walk_first x)

  found_walked : Walked t c (found_from t c)
  found_walked = rw (found_next t c h) in_walked

  -- so one step
  pub walk : {s : Statement} → found_from t c ≡ Some s
      → Walk t c s.first s.start s.lines s.cards s.closed s.long s.next
  walk e = rw e at found_walked

  -- where nothing is found there are no statements
  pub walk_end : found_from t c ≡ None → statements_from t c ≡ []
  walk_end e = rw e at found_walked

-- ---- how far it reaches

-- a statement is found only where bytes are left, and the cursor behind it is further on
found_further : (t : List ℕ) (c : Cursor) → Further (length t) c (found_from t c)
unfolding found_from
found_further t c =
    let found = found_in c (lines_of (drop c.at t)) (statements_from t c) in
    cond_ind (Further (length t) c) (leb c.line (c.at + 1)) found None
    (λ b. further found (in_walked t c (leb-true _ _ b))) (λ _. tt)
  where
    further : (r : Option Statement) → Walked t c r → Further (length t) c r
    further None w = tt
    further (Some s) w = (w.bytes, w.further, w.lawful)

-- so what is equal to what is found reaches as far
pub found_both : (t : List ℕ) (c : Cursor) (r : Option Statement) → r ≡ found_from t c
    → (r ≡ found_from t c) × Further (length t) c r
found_both t c r e = (e, rw e (found_further t c))
