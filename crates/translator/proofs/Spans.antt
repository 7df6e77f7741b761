-- How much of a text a statement takes: its joined text has fewer bytes than the lines from its start to the next
-- cursor.
use Prim.Native.Nat.{ℕ, ◌+◌, ◌-◌, ◌≤◌, ◌<◌}
use mathlib.Core.Path.{◌≡◌, refl, ap}
use mathlib.Core.Bool.{Bool, true, false, cond}
use mathlib.Core.List.{List, [], ◌∷◌}
use native.Mathlib.Omega.{arith}
use lib.ListN.{length, drop, length-append, length-drop}
use Rattle.deck.specs.Lines.{Line, lines_of, starred}
use Rattle.deck.specs.Reading.{cards_of}
use Rattle.deck.specs.Joined.{line_part, joined}
use Rattle.deck.specs.Next.{spread, lines_at, cards_at}
use Rattle.deck.specs.Walks.{Walk}
use Rattle.deck.specs.declared.Cursor.{Cursor}
use Rattle.deck.proofs.Cutting.{spread_take, lines_spread}
use Rattle.deck.proofs.Parts.{part_le}

-- the cards among lines have no more bytes than these
cards_spread : (ls : List Line) → spread (cards_of ls) ≤ spread ls
unfolding spread cards_of
cards_spread [] = omega arith
cards_spread (l ∷ ls) = go (starred l) (cards_spread ls)
  where
    go : (b : Bool) → spread (cards_of ls) ≤ spread ls
        → spread (cond b (cards_of ls) (l ∷ cards_of ls)) ≤ length l + 1 + spread ls
    go true h = omega arith
    go false h = omega arith

-- a joined text has fewer bytes than its cards, if there is one
joined_spread : (l : Line) (ls : List Line) → length (joined (l ∷ ls)) < spread (l ∷ ls)
unfolding spread joined
joined_spread l [] = omega (arith, part_le l)
joined_spread l (m ∷ ls) =
    omega (arith, part_le l, length-append (line_part l) (32 ∷ joined (m ∷ ls)), joined_spread m ls)

-- SPAN: the bytes from the start s of a statement to one before the next cursor are no fewer than its joined text has;
-- and both stand behind the cursor, at the place at, and within the text
pub record Span (t : List ℕ) (at s m nx : ℕ) : Type 0 where
  pub from : at ≤ s
  pub joins : s + length (joined (cards_at t s m)) ≤ nx
  pub fewer : length (joined (cards_at t s m)) ≤ nx - 1 - s
  pub within : at + (nx - 1 - s) ≤ length t

pub span : (t : List ℕ) (c : Cursor) {f s m k : ℕ} {d g : Bool} {nx : Cursor} → Walk t c f s m k d g nx
    → Span t c.at s m nx.at
unfolding joined
span t c {f} {s} {m} {k} {d} {g} {nx} w =
    let both = go (cards_at t s m) refl in
    record {
      from = w.from;
      joins = both.0;
      fewer = both.1;
      within = omega (arith, w.from, w.upto, w.bytes, few);
    }
  where
    few : spread (lines_at t s m) ≤ length t - s + 1
    few = omega (arith, spread_take m (lines_of (drop s t)), lines_spread (drop s t), length-drop s t)

    go : (cs : List Line) → cards_at t s m ≡ cs
        → (s + length (joined cs) ≤ nx.at) × (length (joined cs) ≤ nx.at - 1 - s)
    go [] q = (omega (arith, w.upto), omega arith)
    go (l ∷ ls) q =
        let n : spread (cards_at t s m) ≡ spread (l ∷ ls) = ap spread q in
        let all = cards_spread (lines_at t s m) in
        (omega (arith, w.upto, all, joined_spread l ls), omega (arith, w.upto, all, joined_spread l ls))
