-- The lines of a text from a place on, as code walks over them.
use Rattle.std.specs.Prelude.{ℕ, ◌+◌, ◌≤◌, ◌<◌, ◌≡◌, List, ◌∷◌, length, drop, Option, MatchOption}
use Rattle.std.specs.Borrow.{Bor}
use Rattle.std.specs.Iterator.Adapters.{take_steps}
use Rattle.std.specs.declared.iter.Take.{Take}
use Rattle.std.proofs.lemmas.Iterator.{YieldsList}
use Rattle.deck.specs.Lines.{Line, lines_of}
use Rattle.deck.specs.declared.lines.Lines.{Lines}

-- the line of a text at a place: its bytes are all there, and the lines behind it begin behind its byte 10
pub record LineAt (text : List ℕ) (at : ℕ) (line : Line) : Type 0 where
  pub some : at < length text
  pub upto : at + length line ≤ length text
  pub lines : lines_of (drop at text) ≡ line ∷ lines_of (drop (at + length line + 1) text)

-- the lines that are left
abbrev pub lines_ahead : Lines → List Line
lines_ahead s = lines_of (drop s.at s.text.now)

-- a step from s to t gives the next line, or none at the text's end
abbrev pub Advances : Lines → Option (Bor Line) → Lines → Type 0
Advances s r t =
    (t.text ≡ s.text)
    × MatchOption r ((length s.text.now ≤ s.at) × (t.at ≡ s.at))
    (λ line. LineAt s.text.now s.at line.now × (t.at ≡ s.at + length line.now + 1))

-- a walk gives these lines, one by one
abbrev pub Walks : Take Lines → List Line → Type 0
Walks it ls = YieldsList (take_steps Advances) (λ (line : Bor Line). line.now) it ls
