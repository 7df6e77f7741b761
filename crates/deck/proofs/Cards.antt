-- Laws of the cards among lines.
use Prim.Native.Nat.{suc, ◌+◌, ◌≤◌}
use mathlib.Core.Path.{◌≡◌, refl, sym}
use mathlib.Core.Bool.{Bool, true, false, not, cond, ◌&&◌, ◌||◌, or-false, or_assoc}
use mathlib.Core.List.{List, [], ◌∷◌, ◌++◌, append-nil}
use native.Mathlib.Omega.{arith}
use lib.Dec.{ltb}
use lib.ListN.{length, length-append}
use Rattle.limits.specs.Limits.{card_bytes}
use Rattle.laws.specs.Counts.{once}
use Rattle.deck.specs.Lines.{Line, starred}
use Rattle.deck.specs.Reading.{cards_of}
use Rattle.deck.specs.Faults.{any_long}

-- those of two parts
pub cards_append : (x y : List Line) → cards_of (x ++ y) ≡ cards_of x ++ cards_of y
unfolding cards_of
cards_append [] y = refl
cards_append (l ∷ x) y = rw (cards_append x y) (go (starred l))
  where
    go : (b : Bool) → cond b (cards_of x ++ cards_of y) (l ∷ (cards_of x ++ cards_of y))
        ≡ cond b (cards_of x) (l ∷ cards_of x) ++ cards_of y
    go true = refl
    go false = refl

-- they are no more than the lines
pub cards_few : (ls : List Line) → length (cards_of ls) ≤ length ls
unfolding cards_of
cards_few [] = omega arith
cards_few (l ∷ ls) = go (starred l) (cards_few ls)
  where
    go : (b : Bool) → length (cards_of ls) ≤ length ls
        → length (cond b (cards_of ls) (l ∷ cards_of ls)) ≤ suc (length ls)
    go true h = omega arith
    go false h = omega arith

-- one card more
any_snoc : (cs : List Line) (l : Line) → any_long (cs ++ (l ∷ [])) ≡ (any_long cs || ltb card_bytes (length l))
unfolding any_long
any_snoc [] l = or-false (ltb card_bytes (length l))
any_snoc (c ∷ cs) l =
    rw (any_snoc cs l) (sym (or_assoc (ltb card_bytes (length c)) (any_long cs) (ltb card_bytes (length l))))

-- ---- one line more
module _ (ls : List Line) (l : Line) where
  -- it is a card, or none
  cards_snoc : cards_of (ls ++ (l ∷ [])) ≡ cards_of ls ++ cond (starred l) [] (l ∷ [])
  unfolding cards_of
  cards_snoc = cards_append ls (l ∷ [])

  -- so many cards there are then
  pub cards_count : length (cards_of (ls ++ (l ∷ []))) ≡ length (cards_of ls) + once (not (starred l))
  cards_count = rw cards_snoc (go (starred l))
    where
      go : (b : Bool) → length (cards_of ls ++ cond b [] (l ∷ [])) ≡ length (cards_of ls) + once (not b)
      go true = simp length-append (omega arith)
      go false = simp length-append (omega arith)

  -- and one of them is long where one was, or where this one is a card and is
  pub cards_long : any_long (cards_of (ls ++ (l ∷ [])))
      ≡ (any_long (cards_of ls) || (not (starred l) && ltb card_bytes (length l)))
  cards_long = rw cards_snoc (go (starred l))
    where
      go : (b : Bool) → any_long (cards_of ls ++ cond b [] (l ∷ []))
          ≡ (any_long (cards_of ls) || (not b && ltb card_bytes (length l)))
      go true = rw append-nil (sym (or-false (any_long (cards_of ls))))
      go false = any_snoc (cards_of ls) l
