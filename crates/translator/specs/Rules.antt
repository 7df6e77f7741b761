-- Each refusal has its number, is given exactly when its rule says, and writes only the fault list named for it.
use Rattle.std.specs.Prelude.{ℕ, ◌*◌, ◌/◌, ◌≤◌, ◌<◌, ◌≡◌, ◌⊎◌, ◌↔◌, List, [], length}
use Rattle.std.proofs.lemmas.List.Edits.{sets}
use Rattle.limits.specs.Limits.{fault_room, text_bytes, text_lines, most_statements, most_definitions, most_records}
use Rattle.limits.specs.Limits.{record_bytes, program_room, roster_bytes}
use Rattle.deck.specs.Lines.{lines_of}
use Rattle.sheet.specs.Sheet.{Fault, said, fault_list}
use Rattle.sheet.specs.Reader.{sheet_of, faults_of, Faulted}
use Rattle.sheet.specs.Numbers.{statements_of}
use Rattle.blocks.specs.Members.{settings}
use Rattle.model.specs.Definitions.{Def, definitions as definitions_in}
use Rattle.model.specs.Faults.{order_of}
use Rattle.model.specs.Text.{text_units, model_faults_in}
use Rattle.records.specs.Record.{Rec, program_bytes}
use Rattle.program.specs.Program.{program}
use Rattle.program.specs.Roster.{roster}
use Rattle.translator.specs.Verdict.{verdict_of, number_of, count_of, faults_after, translation}
use Rattle.translator.specs.Names.{names_given}

-- the records that a text needs
abbrev pub records_of : List ℕ → List Rec
records_of text = program (text_units text) (order_of (text_units text))

-- its definitions, in the order of their slots
abbrev pub definitions_of : List ℕ → List Def
definitions_of text = definitions_in (text_units text)

-- its model faults
abbrev pub model_faults_of : List ℕ → List Fault
model_faults_of text = model_faults_in (said (sheet_of text))

-- what each number stands for
module _ (text : List ℕ) (f p : ℕ) where
  pub data Reason : ℕ → Type 0 where
    -- 1 the lent fault list is too short; 2 too many bytes; 3 too many lines; 4 too many statements
    room : f < fault_room → Reason 1
    bytes : text_bytes < length text → Reason 2
    lines : text_lines < length (lines_of text) → Reason 3
    statements : most_statements < length (statements_of text) → Reason 4
    -- 5 a statement fault stands; 6 too many definitions, doubles counted; 7 a model fault stands
    statement_fault : Faulted text → Reason 5
    definitions : most_definitions < length (settings (said (sheet_of text))) → Reason 6
    model_fault : (model_faults_of text ≡ [] → ⊥) → Reason 7
    -- 8 more records are needed than there may be, or than fit the lent bytes
    records : (most_records < length (records_of text)) ⊎ (p / record_bytes < length (records_of text)) → Reason 8

  -- EXACTLY WHEN: a number is given if its rule holds and none before it; 0 if none does
  pub record Exactly : Type 0 where
    pub refused : (n : ℕ) → 0 < n
        → (number_of (verdict_of text f p) ≡ n) ↔ (Reason n × ((m : ℕ) → m < n → Reason m → ⊥))
    pub taken : (number_of (verdict_of text f p) ≡ 0) ↔ ((m : ℕ) → Reason m → ⊥)

-- WRITES ONLY what is named: the fault list for 5 and for 7, the program for 0. Else both stay as lent
pub record Writes (text f p : List ℕ) : Type 0 where
  pub zero_program : (translation text f p).number ≡ 0
      → ((translation text f p).program ≡ sets p 0 (program_bytes (records_of text)))
      × ((translation text f p).count ≡ length (records_of text))
  pub five : (translation text f p).number ≡ 5
      → ((translation text f p).faults ≡ sets f 0 (fault_list (faults_of text)))
      × ((translation text f p).count ≡ length (faults_of text))
  pub seven : (translation text f p).number ≡ 7
      → ((translation text f p).faults ≡ sets f 0 (fault_list (model_faults_of text)))
      × ((translation text f p).count ≡ length (model_faults_of text))
  pub no_list : ((translation text f p).number ≡ 5 → ⊥) → ((translation text f p).number ≡ 7 → ⊥)
      → (translation text f p).faults ≡ f
  pub no_program : ((translation text f p).number ≡ 0 → ⊥) → (translation text f p).program ≡ p

-- NAMES: where translating into programRoom bytes has a number above 0, that number, with its count and its fault list,
-- and no entry. Where it has 0: 10 if the lent bytes are too few for an entry for each definition, and nothing is
-- written; else 0, and the entries are
pub record NamesRule (text f o : List ℕ) : Type 0 where
  pub same : let v = verdict_of text (length f) program_room in 0 < number_of v
      → names_given text f o
      ≡ record { number = number_of v; count = count_of v; faults = faults_after v f; roster = o }
  pub short : number_of (verdict_of text (length f) program_room) ≡ 0
      → length o < roster_bytes * length (definitions_of text)
      → names_given text f o ≡ record { number = 10; count = 0; faults = f; roster = o }
  pub named : number_of (verdict_of text (length f) program_room) ≡ 0
      → roster_bytes * length (definitions_of text) ≤ length o
      → names_given text f o
      ≡ record {
        number = 0;
        count = length (definitions_of text);
        faults = f;
        roster = sets o 0 (roster (definitions_of text));
      }
