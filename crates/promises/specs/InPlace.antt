-- The place is in the statement: of every fault that a text has, line and column say a byte of its statement.
use Rattle.std.specs.Prelude.{ℕ, ◌-◌, ◌≤◌, ◌≡◌, length}
use mathlib.Core.List.{List, Memᴰ}
use Rattle.std.proofs.lemmas.List.Edits.{sets}
use Rattle.laws.specs.Every.{Every}
use Rattle.deck.specs.Reading.{Statement}
use Rattle.deck.specs.Spots.{spot}
use Rattle.deck.specs.InPlace.{InCard}
use Rattle.sheet.specs.Sheet.{Fault, fault_list}
use Rattle.sheet.specs.Reader.{faults_of}
use Rattle.sheet.specs.Numbers.{statements_of}
use Rattle.sheet.specs.PlaceMeans.{PlaceMeans}
use Rattle.translator.specs.Contract.{Verdict, Refused, Faulty, Translated}
use Rattle.translator.specs.Rules.{model_faults_of}

-- a fault is one of a statement of the text: its line is the statement's first, and its place, so many lines below
-- that, is a byte of one of the statement's cards, or column 1 of an empty one
pub record InStatement (text : List ℕ) (f : Fault) : Type 0 where
  pub statement : Statement
  pub member : Memᴰ statement (statements_of text)
  pub line : f.line ≡ statement.first
  pub below : f.line ≤ f.place
  pub place : InCard statement.lines (spot (f.place - f.line) f.column)

-- THE PLACE IS IN THE STATEMENT, of a text
pub record InPlace (text : List ℕ) : Type 0 where
  pub statement_faults : Every (InStatement text) (faults_of text)
  pub model_faults : Every (InStatement text) (model_faults_of text)
  -- of a model fault it is the statement's first byte
  pub model_first : Every (λ (f : Fault). (f.place ≡ f.line) × (f.column ≡ 1)) (model_faults_of text)
  -- of 14 to 19 the token that is cut from there is the one at fault, and none before it is
  pub tokens : Every (λ (s : Statement). PlaceMeans s.lines s.closed) (statements_of text)

-- ---- as a caller of the translator meets it, who lent f and finds the answer r, and f' in its place

-- with faults, as many as the answer says stand at the front of the list, each in its statement
abbrev pub PlacedBy : List ℕ → Verdict → List ℕ → List ℕ → Type 0
PlacedBy text (Refused k) f f' = Unit {0}
PlacedBy text (Faulty k m) f f' = (fs : List Fault) × (length fs ≡ m) × (f' ≡ sets f 0 (fault_list fs))
    × Every (InStatement text) fs
PlacedBy text (Translated m) f f' = Unit {0}
