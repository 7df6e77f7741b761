-- The promises of `translate`, of `translate_in_order` and of `names`.
use Rattle.std.specs.Prelude.{ℕ, ◌≡◌, List, [], Result, Ok, Err, length}
use Rattle.std.proofs.lemmas.List.Edits.{sets}
use Rattle.translator.specs.declared.Refusal.{Refusal}
use Rattle.translator.specs.declared.Refusal.TheVariants.{ShortFaultList, LongText, ManyLines, ManyStatements}
use Rattle.translator.specs.declared.Refusal.TheVariants.{StatementFaults, ManyDefinitions, ModelFaults, NoRoom}
use Rattle.translator.specs.declared.Refusal.TheVariants.{NoRosterRoom}
use Rattle.translator.specs.declared.Ordered.{Ordered}
use Rattle.translator.specs.Verdict.{Decision, refused, faulty, translated, faults_after, program_after}
use Rattle.translator.specs.Verdict.{verdict_of}
use Rattle.translator.specs.Verdict.{Translation, translation}
use Rattle.translator.specs.Names.{Naming, unnamed, listed, named, naming_of, faults_naming, roster_naming}
use Rattle.translator.specs.Names.{NamesGiven, names_given}

-- ---- the answer by the paper's numbers

-- refused with its number; faulty with its number and the count of faults; translated into so many records, or entries
-- where names are asked for
pub data Verdict : Type 0 where
  Refused : ℕ → Verdict
  Faulty : ℕ → ℕ → Verdict
  Translated : ℕ → Verdict

-- the number of each refusal
abbrev pub refusal_in : Refusal → Verdict
refusal_in ShortFaultList = Refused 1
refusal_in LongText = Refused 2
refusal_in ManyLines = Refused 3
refusal_in ManyStatements = Refused 4
refusal_in (StatementFaults k) = Faulty 5 k
refusal_in ManyDefinitions = Refused 6
refusal_in (ModelFaults k) = Faulty 7 k
refusal_in NoRoom = Refused 8
refusal_in NoRosterRoom = Refused 10

-- the verdict that an answer is; no two are the same (law `verdict_whole`)
abbrev pub verdict_in : Result ℕ Refusal → Verdict
verdict_in (Ok k) = Translated k
verdict_in (Err e) = refusal_in e

-- number and count for each case
abbrev pub number_told : Verdict → ℕ
number_told (Refused n) = n
number_told (Faulty n k) = n
number_told (Translated k) = 0

abbrev pub count_told : Verdict → ℕ
count_told (Refused n) = 0
count_told (Faulty n k) = k
count_told (Translated k) = k

abbrev pub number_in : Result ℕ Refusal → ℕ
number_in r = number_told (verdict_in r)

abbrev pub count_in : Result ℕ Refusal → ℕ
count_in r = count_told (verdict_in r)

-- `number`, `count`: the two of a refusal
abbrev pub TellsNumber : Refusal → ℕ → Type 0
TellsNumber a r = r ≡ number_in (Err a)

abbrev pub TellsCount : Refusal → ℕ → Type 0
TellsCount a r = r ≡ count_in (Err a)

-- the answer to a verdict: by its case, with the number, and with the count of faults or of records
abbrev pub answer_of : Decision → Verdict
answer_of (refused n) = Refused n
answer_of (faulty n fs) = Faulty n (length fs)
answer_of (translated rs ls) = Translated (length rs)

-- ---- the answer, and what the lent buffers then hold
pub record Reply : Type 0 where
  pub answer : Verdict
  pub faults : List ℕ
  pub program : List ℕ

abbrev pub reply : Result ℕ Refusal → List ℕ → List ℕ → Reply
reply r f p = record { answer = verdict_in r; faults = f; program = p }

abbrev pub reply_of : Decision → List ℕ → List ℕ → Reply
reply_of v f p = record { answer = answer_of v; faults = faults_after v f; program = program_after v p }

-- `translate`: from a text and the lent buffers f and p the answer r and the buffers f' and p' are those of the text's
-- verdict
abbrev pub Translates : List ℕ → List ℕ → List ℕ → Result ℕ Refusal → List ℕ → List ℕ → Type 0
Translates text f p r f' p' = reply r f' p' ≡ reply_of (verdict_of text (length f) (length p)) f p

-- ---- the same with the order of the units handed out

-- the first lines of the ordered units, which verdict 0 names; no other names any
abbrev pub lines_in : Decision → List ℕ
lines_in (refused n) = []
lines_in (faulty n fs) = []
lines_in (translated rs ls) = ls

-- the answer without its units, and how many these are
abbrev pub records_answered : Result Ordered Refusal → Result ℕ Refusal
records_answered (Ok o) = Ok o.records
records_answered (Err e) = Err e

abbrev pub units_in : Result Ordered Refusal → ℕ
units_in (Ok o) = o.units
units_in (Err e) = 0

-- the answer, and what the three lent buffers then hold
pub record OrderedReply : Type 0 where
  pub answer : Verdict
  pub units : ℕ
  pub faults : List ℕ
  pub program : List ℕ
  pub order : List ℕ

abbrev pub ordered_reply : Result Ordered Refusal → List ℕ → List ℕ → List ℕ → OrderedReply
ordered_reply r f p o =
    record { answer = verdict_in (records_answered r); units = units_in r; faults = f; program = p; order = o }

-- beside the reply to a verdict: how many lines it names, and these, from the front on, as far as there are places
abbrev pub ordered_reply_of : Decision → List ℕ → List ℕ → List ℕ → OrderedReply
ordered_reply_of v f p o =
    record {
      answer = answer_of v;
      units = length (lines_in v);
      faults = faults_after v f;
      program = program_after v p;
      order = sets o 0 (lines_in v);
    }

-- `translate_in_order`: likewise, with o lent for the order, and o' what it then holds
abbrev pub TranslatesInOrder : List ℕ → List ℕ → List ℕ → List ℕ → Result Ordered Refusal
    → List ℕ → List ℕ → List ℕ → Type 0
TranslatesInOrder text f p o r f' p' o' =
    ordered_reply r f' p' o' ≡ ordered_reply_of (verdict_of text (length f) (length p)) f p o

-- ---- the same by number and count: all that the paper names (law `by_number`)
abbrev pub in_numbers : Result ℕ Refusal → List ℕ → List ℕ → Translation
in_numbers r f p = record { number = number_in r; count = count_in r; faults = f; program = p }

abbrev pub Gives : List ℕ → List ℕ → List ℕ → Result ℕ Refusal → List ℕ → List ℕ → Type 0
Gives text f p r f' p' = in_numbers r f' p' ≡ translation text f p

-- ---- a name for every slot

-- the answer: by its case, with the number, and with the count of faults or of entries
abbrev pub answer_naming : Naming → Verdict
answer_naming (unnamed n) = Refused n
answer_naming (listed n fs) = Faulty n (length fs)
answer_naming (named ds) = Translated (length ds)

-- the answer, and what the lent buffers then hold
pub record NamedReply : Type 0 where
  pub answer : Verdict
  pub faults : List ℕ
  pub roster : List ℕ

abbrev pub named_reply : Result ℕ Refusal → List ℕ → List ℕ → NamedReply
named_reply r f o = record { answer = verdict_in r; faults = f; roster = o }

abbrev pub named_reply_of : Naming → List ℕ → List ℕ → NamedReply
named_reply_of v f o = record { answer = answer_naming v; faults = faults_naming v f; roster = roster_naming v o }

-- `names`: from a text and the lent buffers f and o the answer r and the buffers f' and o' are those of its naming
abbrev pub NamesSlots : List ℕ → List ℕ → List ℕ → Result ℕ Refusal → List ℕ → List ℕ → Type 0
NamesSlots text f o r f' o' = named_reply r f' o' ≡ named_reply_of (naming_of text (length f) (length o)) f o

-- the same by number and count (law `names_by_number`)
abbrev pub named_in_numbers : Result ℕ Refusal → List ℕ → List ℕ → NamesGiven
named_in_numbers r f o = record { number = number_in r; count = count_in r; faults = f; roster = o }

abbrev pub GivesNames : List ℕ → List ℕ → List ℕ → Result ℕ Refusal → List ℕ → List ℕ → Type 0
GivesNames text f o r f' o' = named_in_numbers r f' o' ≡ names_given text f o
