-- The statements of a list of lines, read by a machine that takes a line at a time: it is fresh, or inside a statement.
use Rattle.std.specs.Prelude.{ℕ, suc, Bool, true, false, cond, ◌||◌, List, [], ◌∷◌, ◌++◌}
use Rattle.deck.specs.Lines.{Line, dotted, starred, passed}

-- a statement: its first line's number, the lines that it covers, and whether a line without dots closed it; if none
-- did, the text ended inside it
pub record Statement : Type 0 where
  pub first : ℕ
  pub lines : List Line
  pub closed : Bool

-- its cards: of the lines that it covers a comment is none
unfoldable pub cards_of : List Line → List Line
cards_of [] = []
cards_of (l ∷ ls) = cond (starred l) (cards_of ls) (l ∷ cards_of ls)

-- fresh, or inside a statement with its first line's number and its lines so far
pub data State : Type 0 where
  fresh : State
  inside : ℕ → List Line → State

-- a comment neither ends nor continues the statement: it is passed over. A line with the dots continues on the next
-- card, whatever that is; a line without them ends the statement, and the next line is fresh
abbrev pub leaves_open : Line → Bool
leaves_open l = starred l || dotted l

-- the state behind the lines of a statement, the last of which leaves it open or not
abbrev pub goes_on : Bool → ℕ → List Line → State
goes_on true f ls = inside f ls
goes_on false f ls = fresh

-- the statement that such a line closes, none where it leaves it open
abbrev pub just_closed : Bool → ℕ → List Line → List Statement
just_closed true f ls = []
just_closed false f ls = record { first = f; lines = ls; closed = true } ∷ []

-- the state after line n, which is l: fresh, a comment or a blank is passed over and any other line starts a statement
unfoldable pub after : State → ℕ → Line → State
after fresh n l = cond (passed l) fresh (goes_on (leaves_open l) n (l ∷ []))
after (inside f ls) n l = goes_on (leaves_open l) f (ls ++ (l ∷ []))

-- the statement that line n ends, if it ends one
unfoldable pub ended : State → ℕ → Line → List Statement
ended fresh n l = cond (passed l) [] (just_closed (leaves_open l) n (l ∷ []))
ended (inside f ls) n l = just_closed (leaves_open l) f (ls ++ (l ∷ []))

-- what the end of the text leaves
unfoldable pub left : State → List Statement
left fresh = []
left (inside f ls) = record { first = f; lines = ls; closed = false } ∷ []

-- the statements of the lines, of which the first has number n
unfoldable pub reading : State → ℕ → List Line → List Statement
reading s n [] = left s
reading s n (l ∷ ls) = ended s n l ++ reading (after s n l) (suc n) ls

-- ---- parts of a reading, for demand 3

-- the statements that a line among these ends
unfoldable pub closed_in : State → ℕ → List Line → List Statement
closed_in s n [] = []
closed_in s n (l ∷ ls) = ended s n l ++ closed_in (after s n l) (suc n) ls

-- the state after these lines
unfoldable pub state_after : State → ℕ → List Line → State
state_after s n [] = s
state_after s n (l ∷ ls) = state_after (after s n l) (suc n) ls
