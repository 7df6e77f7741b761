-- What a caller of the translator finds, who lent f and p: the answer r, and f' and p' in their places.
use Rattle.std.specs.Prelude.{ℕ, ◌*◌, ◌≤◌, ◌≡◌, List, ◌⊎◌, Result, Ok, Err, length, take}
use Rattle.std.proofs.lemmas.List.Edits.{sets}
use Rattle.limits.specs.Limits.{fault_bytes, fault_room, record_bytes}
use Rattle.sheet.specs.Sheet.{Fault, fault_list}
use Rattle.sheet.specs.Reader.{faults_of, Faulted}
use Rattle.records.specs.Record.{Rec, program_bytes}
use Rattle.translator.specs.declared.Refusal.{Refusal}
use Rattle.translator.specs.declared.Refusal.TheVariants.{NoRoom}
use Rattle.translator.specs.Verdict.{verdict_of, translation}
use Rattle.translator.specs.Contract.{Faulty, verdict_in}
use Rattle.translator.specs.Refusals.{Admitted}

-- the number n with the count of these faults, their list in full at the front of f', the program as lent
pub record Answered (n : ℕ) (fs : List Fault) (r : Result ℕ Refusal) (f' p p' : List ℕ) : Type 0 where
  pub answer : verdict_in r ≡ Faulty n (length fs)
  pub listed : take (fault_bytes * length fs) f' ≡ fault_list fs
  pub untouched : p' ≡ p

-- the count of these records, and the records in full at the front of p'; or 8 and the program as lent
pub record Programmed (rs : List Rec) (r : Result ℕ Refusal) (p p' : List ℕ) : Type 0 where
  pub answer : ((r ≡ Ok (length rs)) × (take (length rs * record_bytes) p' ≡ program_bytes rs))
      ⊎ ((r ≡ Err NoRoom) × (p' ≡ p))

-- no program: the one lent, and no answer that names one
pub record Unprogrammed (r : Result ℕ Refusal) (p p' : List ℕ) : Type 0 where
  pub untouched : p' ≡ p
  pub not_translated : (k : ℕ) → r ≡ Ok k → ⊥

-- ---- the same of a text, by number and count

-- no program is written, and the verdict is not 0
pub record NoProgram (text f p : List ℕ) : Type 0 where
  pub as_lent : (translation text f p).program ≡ p
  pub not_zero : (translation text f p).number ≡ 0 → ⊥

-- a statement fault means verdict 5 with the list of them all, of a text that is not refused for size and with room
abbrev pub Convicts : List ℕ → Type 0
Convicts text = (f p : List ℕ) → fault_room ≤ length f → Admitted (verdict_of text (length f) (length p)) → Faulted text
    → translation text f p
    ≡ record {
      number = 5;
      count = length (faults_of text);
      faults = sets f 0 (fault_list (faults_of text));
      program = p;
    }
