-- Where a fault stands in the text: a spot is so many lines below its statement's first, at a column from 1. A place of
-- the statement becomes a spot here, where its lines are known.
use Rattle.std.specs.Prelude.{ℕ, suc, ◌-◌, cond, List, [], ◌∷◌, eqb, ltb, length}
use Rattle.deck.specs.Lines.{Line, starred}
use Rattle.deck.specs.Joined.{line_part}
use Rattle.deck.specs.declared.Place.{Place}
use Rattle.deck.specs.declared.Place.TheVariants.{AtStart, AtToken, AtEnd}
use Rattle.deck.specs.declared.Spot.{Spot}

abbrev pub spot : ℕ → ℕ → Spot
spot d c = record { down = d; column = c }

-- the statement's first byte, space or not
abbrev pub first_byte : Spot
first_byte = spot 0 1

-- byte n of the joined text, of lines that stand d below the statement's first: in the part of a card, each behind the
-- one before and a space; a comment is no card
unfoldable pub byte_spot : ℕ → List Line → ℕ → Spot
byte_spot d [] n = first_byte
byte_spot d (l ∷ ls) n =
    let part = length (line_part l) in
    let here = cond (ltb n part) (spot d (suc n)) (byte_spot (suc d) ls (n - suc part)) in
    cond (starred l) (byte_spot (suc d) ls n) here

-- the column of the last byte of a line of so many bytes, dots and spaces included, or 1 if it is empty
abbrev pub last_column : ℕ → ℕ
last_column size = cond (eqb size 0) 1 size

-- the last byte of the last card, of lines that stand d below the statement's first; z where there is none
unfoldable pub last_spot : Spot → ℕ → List Line → Spot
last_spot z d [] = z
last_spot z d (l ∷ ls) = last_spot (cond (starred l) z (spot d (last_column (length l)))) (suc d) ls

-- THE PLACE: the statement's first byte; the first byte of the token at fault; or the last byte of the last card
abbrev pub spot_of : List Line → Place → Spot
spot_of ls AtStart = first_byte
spot_of ls (AtToken n) = byte_spot 0 ls n
spot_of ls AtEnd = last_spot first_byte 0 ls
