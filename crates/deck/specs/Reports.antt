-- Reports: a statement's number with what its lines and its closedness give, its fault for instance. Its number in
-- every report is its first line.
use Rattle.std.specs.Prelude.{ℕ, Bool, List, map}
use Rattle.deck.specs.Lines.{Line}
use Rattle.deck.specs.Reading.{Statement, fresh, reading}

pub record Report (A : Type 0) : Type 0 where
  pub line : ℕ
  pub what : A

abbrev pub report : {A : Type 0} → (List Line → Bool → A) → Statement → Report A
report f s = record { line = s.first; what = f s.lines s.closed }

-- the reports of a text given by its lines: lines are numbered from 1, and reading begins afresh at line 1
abbrev pub reports : {A : Type 0} → (List Line → Bool → A) → List Line → List (Report A)
reports f ls = map (report f) (reading fresh 1 ls)
