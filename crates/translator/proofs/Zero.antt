-- What verdict 0 says of a text.
use Prim.Native.Nat.{ℕ, ◌/◌, ◌≤◌, ◌<◌}
use mathlib.Core.Path.{◌≡◌, refl, subst}
use mathlib.Core.Bool.{◌||◌}
use mathlib.Core.List.{List, [], ◌∷◌}
use native.Mathlib.Omega.{arith}
use borrow.Author.Tests.{ltb-false}
use lib.Dec.{ltb, lit<}
use lib.ListN.{length}
use Rattle.limits.specs.Limits.{fault_room, text_bytes, text_lines, most_statements, most_definitions, most_records}
use Rattle.limits.specs.Limits.{record_bytes}
use Rattle.laws.proofs.Tests.{cond_ind}
use Rattle.laws.proofs.Bools.{or_false}
use Rattle.deck.specs.Lines.{lines_of}
use Rattle.sheet.specs.Sheet.{Sheet, Fault, said, statement_faults}
use Rattle.sheet.specs.Reader.{sheet_of}
use Rattle.blocks.specs.Inside.{block_faults}
use Rattle.blocks.specs.Members.{settings}
use Rattle.model.specs.Definitions.{definitions}
use Rattle.model.specs.Faults.{model_faults, order_of}
use Rattle.model.specs.Text.{text_units, model_faults_in}
use Rattle.model.proofs.NoModelFault.{or_else_none}
use Rattle.model.proofs.DefinitionsFew.{definitions_few}
use Rattle.records.specs.Record.{Rec}
use Rattle.program.specs.Program.{program}
use Rattle.translator.specs.Verdict.{Decision, refused, faulty, translated, if_faults, programmed}
use Rattle.translator.specs.Verdict.{modelled, decided, decided_within, verdict_of, verdict_within, number_of}

-- no statement fault, no model fault, not too many definitions; the program is that of the order, and has room
pub record Clear (text : List ℕ) (room : ℕ) (rs : List Rec) : Type 0 where
  pub sound : statement_faults (sheet_of text) ≡ []
  pub few : length (definitions (text_units text)) ≤ most_definitions
  pub unblocked : block_faults (said (sheet_of text)) ≡ []
  pub clean : model_faults (text_units text) ≡ []
  pub written : rs ≡ program (text_units text) (order_of (text_units text))
  pub short : length rs ≤ most_records
  pub fits : length rs ≤ room / record_bytes

-- a verdict is clear, or its number is not 0
abbrev Known : List ℕ → ℕ → Decision → Type 0
Known text room (refused n) = 0 < n
Known text room (faulty n fs) = 0 < n
Known text room (translated rs ls) = Clear text room rs

module _ (text : List ℕ) (room : ℕ) where
  -- its statements
  abbrev sheet : Sheet
  sheet = sheet_of text

  -- where some fault stands the number is not 0
  known_faults : (n : ℕ) (fs : List Fault) (next : Decision) → 0 < n → (fs ≡ [] → Known text room next)
      → Known text room (if_faults n fs next)
  known_faults n [] next h f = f refl
  known_faults n (x ∷ fs) next h f = h

  -- 8
  known_fitted : statement_faults sheet ≡ [] → length (settings (said sheet)) ≤ most_definitions
      → model_faults_in (said sheet) ≡ []
      → Known text room (programmed room (text_units text))
  known_fitted a b c =
      let us = text_units text in
      let rs = program us (order_of us) in
      let none = or_else_none (block_faults (said sheet)) (model_faults us) c in
      cond_ind (Known text room) (ltb most_records (length rs) || ltb (room / record_bytes) (length rs)) (refused 8)
      (translated rs _) (λ _. lit< tt)
      (λ t.
      let p = or_false (ltb most_records (length rs)) (ltb (room / record_bytes) (length rs)) t in
      record {
        sound = a;
        few = omega (arith, b, definitions_few (said sheet));
        unblocked = none.0;
        clean = none.1;
        written = refl;
        short = ltb-false most_records (length rs) p.0;
        fits = ltb-false (room / record_bytes) (length rs) p.1;
      })

  -- 6 and 7
  known_modelled : statement_faults sheet ≡ [] → Known text room (modelled room (said sheet))
  known_modelled a =
      let ss = said sheet in
      cond_ind (Known text room) (ltb most_definitions (length (settings ss))) (refused 6) _ (λ _. lit< tt)
      (λ t. known_faults 7 (model_faults_in ss) (programmed room (text_units text)) (lit< tt)
      (known_fitted a (ltb-false most_definitions (length (settings ss)) t)))

  -- 4 and 5
  known_decided : Known text room (decided room sheet)
  unfolding decided_within
  known_decided =
      cond_ind (Known text room) (ltb most_statements (length sheet)) (refused 4) _ (λ _. lit< tt)
      (λ _. known_faults 5 (statement_faults sheet) (modelled room (said sheet)) (lit< tt) known_modelled)

-- 1, 2 and 3
known : (text : List ℕ) (faults room : ℕ) → Known text room (verdict_of text faults room)
unfolding verdict_within
known text faults room =
    let K = Known text room in
    cond_ind K (ltb faults fault_room) (refused 1) _ (λ _. lit< tt)
    (λ _. cond_ind K (ltb text_bytes (length text)) (refused 2) _ (λ _. lit< tt)
    (λ _. cond_ind K (ltb text_lines (length (lines_of text))) (refused 3) (decided room (sheet_of text)) (λ _. lit< tt)
    (λ _. known_decided text room)))

-- a text that is translated is clear
pub clear : (text : List ℕ) (faults room : ℕ) (rs : List Rec) (ls : List ℕ)
    → verdict_of text faults room ≡ translated rs ls → Clear text room rs
clear text faults room rs ls e = subst (Known text room) e (known text faults room)

-- number 0 is that of a text that is translated, and of no other
pub zero_translated : (text : List ℕ) (faults room : ℕ) → number_of (verdict_of text faults room) ≡ 0
    → (rs : List Rec) × (ls : List ℕ) × (verdict_of text faults room ≡ translated rs ls)
zero_translated text faults room e = go (verdict_of text faults room) (known text faults room) refl e
  where
    go : (v : Decision) → Known text room v → verdict_of text faults room ≡ v → number_of v ≡ 0
        → (rs : List Rec) × (ls : List ℕ) × (verdict_of text faults room ≡ translated rs ls)
    go (refused n) k q z = absurd (omega arith)
    go (faulty n fs) k q z = absurd (omega arith)
    go (translated rs ls) k q z = (rs, ls, q)
