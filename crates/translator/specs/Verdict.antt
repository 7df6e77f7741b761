-- The verdict: its number, given exactly when, in this order; the count; and what is written.
use Rattle.std.specs.Prelude.{ℕ, ◌/◌, cond, ◌||◌, List, [], ◌∷◌, map, ltb, length}
use Rattle.std.proofs.lemmas.List.Edits.{sets}
use Rattle.limits.specs.Limits.{most_records, record_bytes}
use Rattle.limits.specs.Before.{Sizes, sizes}
use Rattle.deck.specs.Lines.{lines_of}
use Rattle.sheet.specs.Sheet.{Sheet, Numbered, Fault, said, statement_faults, fault_list}
use Rattle.sheet.specs.Reader.{sheet_of}
use Rattle.blocks.specs.Units.{TextUnit}
use Rattle.blocks.specs.Members.{settings, units_of}
use Rattle.model.specs.Definitions.{unit_at}
use Rattle.model.specs.Faults.{order_of}
use Rattle.model.specs.Text.{model_faults_in}
use Rattle.records.specs.Record.{Rec, program_bytes}
use Rattle.program.specs.Program.{program}

-- refused with a number, nothing written; faulty with 5 or 7, the fault list written; translated, 0, the program
-- written. The last also names the first line of each ordered unit
pub data Decision : Type 0 where
  refused : ℕ → Decision
  faulty : ℕ → List Fault → Decision
  translated : List Rec → List ℕ → Decision

-- if some fault stands, this verdict, else the next
abbrev pub if_faults : ℕ → List Fault → Decision → Decision
if_faults n [] next = next
if_faults n (f ∷ fs) next = faulty n (f ∷ fs)

-- 8: records needed exceed mostRecords or the lent bytes divided by recordBytes, rounded down; 0 otherwise
abbrev pub fitted : ℕ → List Rec → List ℕ → Decision
fitted room rs ls =
    cond (ltb most_records (length rs) || ltb (room / record_bytes) (length rs)) (refused 8) (translated rs ls)

-- the program of the units in their order, with their first lines
abbrev pub programmed : ℕ → List TextUnit → Decision
programmed room us = fitted room (program us (order_of us)) (map (λ (i : ℕ). (unit_at us i).line) (order_of us))

-- by the sizes z. 6: over so many definitions, doubles counted, and every setting inside blocks; 7: a model fault
-- stands
abbrev pub modelled_within : Sizes → ℕ → List Numbered → Decision
modelled_within z room ss =
    let next = programmed room (units_of ss) in
    let faults = if_faults 7 (model_faults_in ss) next in
    cond (ltb z.definitions (length (settings ss))) (refused 6) faults

-- 4: over so many statements; 5: a statement fault stands. By the sheet alone, whatever the reader was
unfoldable pub decided_within : Sizes → ℕ → Sheet → Decision
decided_within z room sheet =
    let next = modelled_within z room (said sheet) in
    let faults = if_faults 5 (statement_faults sheet) next in
    cond (ltb z.statements (length sheet)) (refused 4) faults

-- 1: lent fault list under so many bytes; 2: text over so many bytes; 3: over so many lines
unfoldable pub verdict_within : Sizes → List ℕ → ℕ → ℕ → Decision
verdict_within z text faults room =
    let next = decided_within z room (sheet_of text) in
    let long = cond (ltb z.lines (length (lines_of text))) (refused 3) next in
    cond (ltb faults z.faults) (refused 1) (cond (ltb z.bytes (length text)) (refused 2) long)

-- by the sizes that there are: faultRoom, textBytes, textLines, mostStatements, mostDefinitions
abbrev pub modelled : ℕ → List Numbered → Decision
modelled room ss = modelled_within sizes room ss

abbrev pub decided : ℕ → Sheet → Decision
decided room sheet = decided_within sizes room sheet

abbrev pub verdict_of : List ℕ → ℕ → ℕ → Decision
verdict_of text faults room = verdict_within sizes text faults room

-- ---- the number, and with it a count: records for 0, faults for 5 and 7, else 0

abbrev pub number_of : Decision → ℕ
number_of (refused n) = n
number_of (faulty n fs) = n
number_of (translated rs ls) = 0

abbrev pub count_of : Decision → ℕ
count_of (refused n) = 0
count_of (faulty n fs) = length fs
count_of (translated rs ls) = length rs

-- ---- what is written

-- bytes past the written part, and the other buffer, stay as lent
abbrev pub faults_after : Decision → List ℕ → List ℕ
faults_after (refused n) lent = lent
faults_after (faulty n fs) lent = sets lent 0 (fault_list fs)
faults_after (translated rs ls) lent = lent

abbrev pub program_after : Decision → List ℕ → List ℕ
program_after (refused n) lent = lent
program_after (faulty n fs) lent = lent
program_after (translated rs ls) lent = sets lent 0 (program_bytes rs)

-- ---- all that translating gives: number, count, and both lent buffers afterwards
pub record Translation : Type 0 where
  pub number : ℕ
  pub count : ℕ
  pub faults : List ℕ
  pub program : List ℕ

abbrev pub translation_of : Decision → List ℕ → List ℕ → Translation
translation_of v f p =
    record { number = number_of v; count = count_of v; faults = faults_after v f; program = program_after v p }

unfoldable pub translation : List ℕ → List ℕ → List ℕ → Translation
translation text f p = translation_of (verdict_of text (length f) (length p)) f p
