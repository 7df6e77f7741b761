-- What a writer of a joined text has left to write, one line at a time.
use Prim.Native.Nat.{ℕ, ◌+◌, ◌-◌, ◌≤◌}
use mathlib.Core.Path.{◌≡◌, refl, sym, ap, ◌∙◌}
use mathlib.Core.Bool.{Bool, true, false, cond}
use mathlib.Core.List.{List, [], ◌∷◌, ◌++◌}
use native.Mathlib.Omega.{arith}
use lib.ListN.{length, drop, length-append, length-drop}
use lib.Seq.{sets, length-sets}
use Rattle.laws.proofs.Sets.{sets_append}
use Rattle.deck.specs.Lines.{Line, lines_of, starred}
use Rattle.deck.specs.Reading.{cards_of}
use Rattle.deck.specs.Joined.{line_part, joined}
use Rattle.deck.specs.Next.{spread, lines_at, cards_at}
use Rattle.deck.specs.Codes.{spaced, part_behind, parts_behind}
use Rattle.deck.proofs.Cutting.{spread_take, lines_spread}
use Rattle.deck.proofs.Parts.{part_le, joined_cons}

-- ---- a joined text has fewer bytes than the lines
joined_few : (cs : List Line) → length (joined cs) ≤ spread cs - 1
unfolding joined spread
joined_few [] = omega arith
joined_few (l ∷ []) = omega (arith, part_le l)
joined_few (l ∷ m ∷ cs) =
    let n = length-append (line_part l) (32 ∷ joined (m ∷ cs)) in omega (arith, n, part_le l, joined_few (m ∷ cs))

-- the cards have no more bytes than all
cards_spread : (ls : List Line) → spread (cards_of ls) ≤ spread ls
unfolding spread cards_of
cards_spread [] = omega arith
cards_spread (l ∷ ls) = go (starred l) (cards_spread ls)
  where
    go : (b : Bool) → spread (cards_of ls) ≤ spread ls
        → spread (cond b (cards_of ls) (l ∷ cards_of ls)) ≤ length l + 1 + spread ls
    go true h = omega arith
    go false h = omega arith

-- so those of a text have no more than the text
pub joined_fits : (t : List ℕ) (start lines : ℕ) → length (joined (cards_at t start lines)) ≤ length t
joined_fits t start lines =
    let here = lines_of (drop start t) in
    omega (
      arith,
      joined_few (cards_at t start lines),
      cards_spread (lines_at t start lines),
      spread_take lines here,
      lines_spread (drop start t),
      length-drop start t,
    )

-- ---- parts of cards
module _ (apart : Bool) where
  -- the first, and the others each behind a space
  parts_cons : (l : Line) (ls : List Line) → parts_behind apart (l ∷ ls) ≡ part_behind apart l ++ spaced ls
  unfolding spaced
  parts_cons l ls = go apart
    where
      go : (b : Bool) → parts_behind b (l ∷ ls) ≡ part_behind b l ++ spaced ls
      go true = refl
      go false = joined_cons l ls

  -- of none nothing
  parts_none : parts_behind apart [] ≡ []
  unfolding spaced joined
  parts_none = go apart
    where
      go : (b : Bool) → parts_behind b [] ≡ []
      go true = refl
      go false = refl

-- ---- before some of the lines: to write these gives what to write all gave at first
pub record Joining (all left : List Line) (old now : List ℕ) (w : ℕ) (apart : Bool) : Type 0 where
  pub long : length now ≡ length old
  pub count : w + length (parts_behind apart (cards_of left)) ≡ length (joined (cards_of all))
  pub same : sets now w (parts_behind apart (cards_of left)) ≡ sets old 0 (joined (cards_of all))

module _ {all left : List Line} {old now : List ℕ} {w : ℕ} {apart : Bool} (j : Joining all left old now w apart) where
  -- ---- before one and the others
  module _ (l : Line) (ls : List Line) (q : left ≡ l ∷ ls) where
    -- a comment is passed over
    pub joining_over : starred l ≡ true → Joining all ls old now w apart
    unfolding cards_of
    joining_over c =
        let cards : cards_of left ≡ cards_of ls = ap cards_of q ∙ rw c in
        record { long = j.long; count = rw (← cards) j.count; same = rw (← cards) j.same }

    -- a card's part is written, and the others behind it
    parts : starred l ≡ false
        → parts_behind apart (cards_of left) ≡ part_behind apart l ++ spaced (cards_of ls)
    unfolding cards_of
    parts c = ap (λ (x : List Line). parts_behind apart (cards_of x)) q ∙ rw c (parts_cons apart l (cards_of ls))

    -- it has room in the joined text
    pub part_fits : starred l ≡ false → w + length (part_behind apart l) ≤ length (joined (cards_of all))
    part_fits c =
        let n = length-append (part_behind apart l) (spaced (cards_of ls)) in
        omega (arith, j.count, ap length (parts c), n)

    pub joining_next : (new : List ℕ) (r : ℕ) → starred l ≡ false
        → r ≡ w + length (part_behind apart l) → new ≡ sets now w (part_behind apart l)
        → Joining all ls old new r true
    joining_next new r c p e =
        let part = part_behind apart l in
        let rest = spaced (cards_of ls) in
        record {
          long = ap length e ∙ length-sets now w part ∙ j.long;
          count = omega (arith, j.count, ap length (parts c), length-append part rest, p);
          same = rw (e, p) (sym (sets_append now w part rest) ∙ rw (← (parts c)) j.same);
        }

  -- before none
  pub joining_last : left ≡ [] → (w ≡ length (joined (cards_of all))) × (now ≡ sets old 0 (joined (cards_of all)))
  unfolding cards_of
  joining_last q =
      let z : parts_behind apart (cards_of left) ≡ [] =
      ap (λ (x : List Line). parts_behind apart (cards_of x)) q ∙ parts_none apart in
      (omega (arith, j.count, ap length z), rw z at j.same)
