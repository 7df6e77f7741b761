-- Each verdict on a text is fair: no other is 0 than that with a program, and the numbers of faults fit two bytes.
use Prim.Native.Nat.{ℕ, ◌/◌, ◌<◌}
use mathlib.Core.Bool.{cond, ◌||◌}
use mathlib.Core.List.{List, [], ◌∷◌}
use native.Mathlib.Omega.{arith}
use borrow.Author.Tests.{ltb-false}
use lib.Dec.{ltb, lit<}
use lib.ListN.{length}
use Rattle.laws.specs.Every.{Every}
use Rattle.limits.specs.Limits.{fault_room, text_bytes, text_lines, most_statements, most_definitions, most_records}
use Rattle.limits.specs.Limits.{record_bytes}
use Rattle.laws.proofs.Tests.{cond_ind}
use Rattle.deck.specs.Lines.{lines_of}
use Rattle.sheet.specs.Sheet.{Sheet, Numbered, Fault, said, statement_faults}
use Rattle.sheet.specs.Reader.{sheet_of}
use Rattle.blocks.specs.Members.{settings, units_of}
use Rattle.model.specs.Faults.{order_of}
use Rattle.model.specs.Text.{model_faults_in}
use Rattle.records.specs.Record.{Rec}
use Rattle.program.specs.Program.{program}
use Rattle.translator.specs.Verdict.{Decision, refused, faulty, translated, if_faults, fitted, programmed, modelled}
use Rattle.translator.specs.Verdict.{decided, decided_within, verdict_of, verdict_within}
use Rattle.model.proofs.NumbersBelow.{ReportBelow, SaidBelow, FaultBelow, sheet_below, faults_below}
use Rattle.model.proofs.NumbersBelow.{said_below, all_below}

-- a number that is not 0, and small numbers; of a program nothing is asked
abbrev pub Fair : Decision → Type 0
Fair (refused n) = 0 < n
Fair (faulty n fs) = (0 < n) × Every (FaultBelow 65536) fs
Fair (translated rs ls) = Unit {0}

-- if some fault stands, or else the next
fair_faults : (n : ℕ) (fs : List Fault) (v : Decision) → 0 < n → Every (FaultBelow 65536) fs → Fair v
    → Fair (if_faults n fs v)
fair_faults n [] v z p q = q
fair_faults n (f ∷ fs) v z p q = (z, p)

-- by the records
fair_fitted : (room : ℕ) (rs : List Rec) (ls : List ℕ) → Fair (fitted room rs ls)
fair_fitted room rs ls =
    let many = ltb most_records (length rs) || ltb (room / record_bytes) (length rs) in
    cond_ind Fair many (refused 8) (translated rs ls) (λ _. lit< tt) (λ _. tt)

-- by the model
fair_model : (room : ℕ) (ss : List Numbered) → Every (SaidBelow 65536) ss → Fair (modelled room ss)
fair_model room ss p =
    let us = units_of ss in
    let next = programmed room us in
    let faults = model_faults_in ss in
    cond_ind Fair (ltb most_definitions (length (settings ss))) (refused 6) (if_faults 7 faults next) (λ _. lit< tt)
    (λ _. fair_faults 7 faults next (lit< tt) (all_below 65536 (lit< tt) ss p)
    (fair_fitted room (program us (order_of us)) _))

-- by the sheet
fair_sheet : (room : ℕ) (ss : Sheet) → Every (ReportBelow 65536) ss → Fair (decided room ss)
unfolding decided_within
fair_sheet room ss p =
    let next = modelled room (said ss) in
    cond_ind Fair (ltb most_statements (length ss)) (refused 4) (if_faults 5 (statement_faults ss) next) (λ _. lit< tt)
    (λ _. fair_faults 5 (statement_faults ss) next (lit< tt) (faults_below 65536 ss p)
    (fair_model room (said ss) (said_below 65536 ss p)))

-- EACH VERDICT on a text is fair
pub fair : (text : List ℕ) (faults room : ℕ) → Fair (verdict_of text faults room)
unfolding verdict_within
fair text faults room =
    let next = decided room (sheet_of text) in
    let many = ltb text_lines (length (lines_of text)) in
    let long = cond many (refused 3) next in
    cond_ind Fair (ltb faults fault_room) (refused 1) (cond (ltb text_bytes (length text)) (refused 2) long)
    (λ _. lit< tt)
    (λ _. cond_ind Fair (ltb text_bytes (length text)) (refused 2) long (λ _. lit< tt)
    (λ short. cond_ind Fair many (refused 3) next (λ _. lit< tt)
    (λ e. fair_sheet room (sheet_of text)
    (sheet_below 65536 text (omega (arith, ltb-false text_lines (length (lines_of text)) e))
    (omega (arith, ltb-false text_bytes (length text) short))))))
