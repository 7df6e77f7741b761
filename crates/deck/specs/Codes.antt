-- The faults 11, 12 and 13 by what the code knows of a statement; its joined text behind the first part, and the room
-- that it needs.
use Rattle.std.specs.Prelude.{ℕ, suc, ◌*◌, ◌-◌, Bool, true, false, cond, List, [], ◌∷◌, ◌++◌, eqb, ltb}
use Rattle.limits.specs.Limits.{most_cards, card_bytes}
use Rattle.deck.specs.Lines.{Line}
use Rattle.deck.specs.Joined.{line_part, joined}
use Rattle.deck.specs.Faults.{Flaw, none, flaw}
use Rattle.deck.specs.declared.Place.TheVariants.{AtStart, AtEnd}

-- the code, or 0: by the count of cards, whether the statement is closed, and whether a card has more than cardBytes
-- bytes
abbrev pub size_code : ℕ → Bool → Bool → ℕ
size_code k closed long = cond closed (cond (ltb most_cards k) 12 (cond long 13 0)) 11

-- the flaw of such a code
abbrev pub flaw_of : Bool → ℕ → Flaw
flaw_of closed code = cond (eqb code 0) none (flaw code (cond closed AtStart AtEnd))

-- the parts of the cards behind a statement's first, each behind a space
unfoldable pub spaced : List Line → List ℕ
spaced [] = []
spaced (l ∷ ls) = 32 ∷ (line_part l ++ spaced ls)

-- a card's part, apart from what stands before it by a space or not
abbrev pub part_behind : Bool → Line → List ℕ
part_behind false l = line_part l
part_behind true l = 32 ∷ line_part l

-- the parts of cards, the first of them likewise
abbrev pub parts_behind : Bool → List Line → List ℕ
parts_behind false ls = joined ls
parts_behind true ls = spaced ls

-- the most bytes of a joined text without such a fault: mostCards parts of cardBytes bytes, with a space between each
-- two
abbrev pub joined_room : ℕ
joined_room = most_cards * suc card_bytes - 1
