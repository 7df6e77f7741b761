-- A statement's fault and where it is, and the faults 11, 12 and 13. A place is the statement's first byte (`AtStart`),
-- the token whose first byte has this place in the joined text (`AtToken`), or the statement's end (`AtEnd`).
use Rattle.std.specs.Prelude.{ℕ, Bool, false, cond, ◌||◌, List, [], ◌∷◌, ltb, length}
use Rattle.limits.specs.Limits.{most_cards, card_bytes}
use Rattle.deck.specs.Lines.{Line}
use Rattle.deck.specs.declared.Place.{Place}
use Rattle.deck.specs.declared.Place.TheVariants.{AtStart, AtEnd}

-- at most one fault per statement: none, or a code and a place
pub data Flaw : Type 0 where
  none : Flaw
  flaw : ℕ → Place → Flaw

-- one of the cards has more than cardBytes bytes, byte 10 aside
unfoldable pub any_long : List Line → Bool
any_long [] = false
any_long (l ∷ ls) = ltb card_bytes (length l) || any_long ls

-- 11, the text ends while the statement continues; 12, more than mostCards cards; 13, a card of more than cardBytes
-- bytes; in this order. Comments among the lines are no cards
unfoldable pub size_flaw : List Line → Bool → Flaw
size_flaw cards closed =
    cond closed (cond (ltb most_cards (length cards)) (flaw 12 AtStart) (cond (any_long cards) (flaw 13 AtStart) none))
    (flaw 11 AtEnd)
