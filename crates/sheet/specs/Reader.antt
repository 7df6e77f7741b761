-- The reader of 01: a statement's fault, at most one, and its place. Order: 11, 12, 13; then the first bad token from
-- the left; then the grammar's.
use Rattle.std.specs.Prelude.{ℕ, ◌≡◌, Bool, cond, List, [], ltb, length, get_or}
use Rattle.deck.specs.Lines.{Line, lines_of}
use Rattle.deck.specs.Reports.{reports}
use Rattle.deck.specs.Joined.{joined}
use Rattle.deck.specs.Reading.{cards_of}
use Rattle.deck.specs.Faults.{Flaw, none, flaw, size_flaw}
use Rattle.deck.specs.Spots.{spot_of}
use Rattle.deck.specs.declared.Place.{Place}
use Rattle.deck.specs.declared.Place.TheVariants.{AtToken, AtEnd}
use Rattle.deck.specs.declared.Spot.{Spot}
use Rattle.tokens.specs.Row.{Placed, Close, all_good, bad, Row, no_token, row_of, symbols}
use Rattle.grammar.specs.Parser.{Read, read, fault, read_row}
use Rattle.sheet.specs.Sheet.{Told, says, faulty, Sheet, Fault, statement_faults}

-- the place of the token i of a row, or the statement's end behind the last
abbrev pub place_of : List Placed → ℕ → Place
place_of ps i = cond (ltb i (length ps)) (AtToken (get_or ps i no_token).at) AtEnd

-- by the grammar
abbrev pub parsed : List Placed → Read → Told Place
parsed ps (read x) = says x
parsed ps (fault c i) = faulty c (place_of ps i)

-- by the tokens
abbrev pub scanned : List Placed → Close → Told Place
scanned ps all_good = parsed ps (read_row (symbols ps))
scanned ps (bad c at) = faulty c (AtToken at)

abbrev pub tokened : Row → Told Place
tokened r = scanned r.tokens r.close

-- by the size
abbrev pub sized : Flaw → List ℕ → Told Place
sized none s = tokened (row_of s)
sized (flaw c p) s = faulty c p

-- what a statement says, or its fault, by its cards and whether it is closed
unfoldable pub cards_told : List Line → Bool → Told Place
cards_told cards closed = sized (size_flaw cards closed) (joined cards)

-- the place as a spot among the lines
abbrev pub spotted : List Line → Told Place → Told Spot
spotted ls (says x) = says x
spotted ls (faulty c p) = faulty c (spot_of ls p)

-- the same with the fault's spot: a function of the statement's lines and of whether it is closed
unfoldable pub told : List Line → Bool → Told Spot
told lines closed = spotted lines (cards_told (cards_of lines) closed)

-- the sheet of a text
unfoldable pub sheet_of : List ℕ → Sheet
sheet_of text = reports told (lines_of text)

-- its statement faults
abbrev pub faults_of : List ℕ → List Fault
faults_of text = statement_faults (sheet_of text)

-- a statement fault stands in the text
abbrev pub Faulted : List ℕ → Type 0
Faulted text = faults_of text ≡ [] → ⊥
