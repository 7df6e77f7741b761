-- A name for every slot, which goes beyond the paper: the verdict of translating into programRoom bytes, then 10; the
-- count; and what is written.
use Rattle.std.specs.Prelude.{ℕ, ◌*◌, cond, List, ltb, length}
use Rattle.std.proofs.lemmas.List.Edits.{sets}
use Rattle.limits.specs.Limits.{program_room, roster_bytes}
use Rattle.sheet.specs.Sheet.{Fault, fault_list}
use Rattle.model.specs.Definitions.{Def, definitions}
use Rattle.model.specs.Text.{text_units}
use Rattle.program.specs.Roster.{roster}
use Rattle.translator.specs.Verdict.{Decision, refused, faulty, translated, verdict_of}

-- refused with a number, nothing written; faulty with 5 or 7, the fault list written; named, 0, an entry written for
-- each definition
pub data Naming : Type 0 where
  unnamed : ℕ → Naming
  listed : ℕ → List Fault → Naming
  named : List Def → Naming

-- after the verdict of translating, 10: fewer than rosterBytes bytes are lent for each definition
abbrev pub naming_by : Decision → List Def → ℕ → Naming
naming_by (refused n) ds room = unnamed n
naming_by (faulty n fs) ds room = listed n fs
naming_by (translated rs ls) ds room = cond (ltb room (roster_bytes * length ds)) (unnamed 10) (named ds)

abbrev pub naming_of : List ℕ → ℕ → ℕ → Naming
naming_of text faults room = naming_by (verdict_of text faults program_room) (definitions (text_units text)) room

-- ---- the number, and with it a count: definitions for 0, faults for 5 and 7, else 0

abbrev pub number_naming : Naming → ℕ
number_naming (unnamed n) = n
number_naming (listed n fs) = n
number_naming (named ds) = 0

abbrev pub count_naming : Naming → ℕ
count_naming (unnamed n) = 0
count_naming (listed n fs) = length fs
count_naming (named ds) = length ds

-- ---- what is written: bytes past the written part, and the other buffer, stay as lent

abbrev pub faults_naming : Naming → List ℕ → List ℕ
faults_naming (unnamed n) lent = lent
faults_naming (listed n fs) lent = sets lent 0 (fault_list fs)
faults_naming (named ds) lent = lent

abbrev pub roster_naming : Naming → List ℕ → List ℕ
roster_naming (unnamed n) lent = lent
roster_naming (listed n fs) lent = lent
roster_naming (named ds) lent = sets lent 0 (roster ds)

-- ---- all that naming gives: number, count, and both lent buffers afterwards
pub record NamesGiven : Type 0 where
  pub number : ℕ
  pub count : ℕ
  pub faults : List ℕ
  pub roster : List ℕ

abbrev pub names_given_of : Naming → List ℕ → List ℕ → NamesGiven
names_given_of v f o =
    record { number = number_naming v; count = count_naming v; faults = faults_naming v f; roster = roster_naming v o }

unfoldable pub names_given : List ℕ → List ℕ → List ℕ → NamesGiven
names_given text f o = names_given_of (naming_of text (length f) (length o)) f o
