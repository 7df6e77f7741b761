-- A statement's text: of its cards the dots are removed and the parts are joined with a space.
use Rattle.std.specs.Prelude.{ℕ, ◌-◌, cond, List, [], ◌∷◌, ◌++◌, take}
use Rattle.deck.specs.Lines.{Line, dotted, trimmed}

-- a line's part: without the closing dots, and the spaces behind them
unfoldable pub line_part : Line → List ℕ
line_part l = cond (dotted l) (take (trimmed l - 3) l) l

unfoldable pub joined : List Line → List ℕ
joined [] = []
joined (l ∷ []) = line_part l
joined (l ∷ m ∷ ls) = line_part l ++ (32 ∷ joined (m ∷ ls))
