-- What is read of lines: statements, what they say or their faults, statement faults. Each has a number, which can be
-- raised.
use Rattle.std.specs.Prelude.{ℕ, ◌+◌, ◌≡◌, List, map}
use Rattle.deck.specs.Lines.{Line, lines_of}
use Rattle.deck.specs.Reading.{Statement, fresh, reading, closed_in, state_after}
use Rattle.deck.specs.Reports.{Report, report}
use Rattle.deck.specs.declared.Spot.{Spot}
use Rattle.sheet.specs.Sheet.{Told, Sheet, Fault, statement_faults}
use Rattle.sheet.specs.Reader.{told}

-- the statements of lines, what they say or their faults, and the statement faults
abbrev pub statements_in : List Line → List Statement
statements_in ls = reading fresh 1 ls

abbrev pub sheet_from : List Statement → Sheet
sheet_from ss = map (report told) ss

abbrev pub faults_from : List Statement → List Fault
faults_from ss = statement_faults (sheet_from ss)

-- the statements that one of these lines, without closing dots, closed
abbrev pub closed_of : List Line → List Statement
closed_of ls = closed_in fresh 1 ls

-- those of a text
abbrev pub statements_of : List ℕ → List Statement
statements_of text = statements_in (lines_of text)

-- behind these lines reading begins afresh
abbrev pub FreshBehind : List Line → Type 0
FreshBehind ls = state_after fresh 1 ls ≡ fresh

-- each statement, report and fault has its line
abbrev pub statement_line : Statement → ℕ
statement_line s = s.first

abbrev pub report_line : Report (Told Spot) → ℕ
report_line r = r.line

abbrev pub fault_line : Fault → ℕ
fault_line f = f.line

-- a fault with the lines that g gives for its own and for its place's
abbrev pub renumber_fault : (ℕ → ℕ) → Fault → Fault
renumber_fault g f =
    record { line = g f.line; code = f.code; place = g f.place; column = f.column }

-- a fault with both raised by k
abbrev pub later_fault : ℕ → Fault → Fault
later_fault k = renumber_fault (λ (n : ℕ). k + n)
