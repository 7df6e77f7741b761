-- The first three refusals, and that behind them the sheet's verdict is the text's.
use Prim.Native.Nat.{ℕ, ◌*◌, ◌≤◌, ◌<◌}
use mathlib.Core.Path.{◌≡◌, refl, sym, ap, ap₂, ◌∙◌}
use mathlib.Core.Bool.{Bool, true, false, cond}
use mathlib.Core.List.{List}
use native.Mathlib.Omega.{arith}
use borrow.Author.Tests.{lt-ltb, le-ltb}
use lib.Dec.{eqb, ltb}
use lib.ListN.{length, length-map}
use lib.Seq.{sets}
use Rattle.std.specs.Prelude.{Result, Ok, Err}
use Rattle.limits.specs.Limits.{fault_room, text_bytes, text_lines, program_room, roster_bytes}
use Rattle.deck.specs.Lines.{lines_of}
use Rattle.deck.specs.Reading.{fresh, reading}
use Rattle.deck.specs.Reports.{report}
use Rattle.deck.proofs.Sizing.{lines_le}
use Rattle.sheet.specs.Reader.{told, sheet_of}
use Rattle.model.specs.Definitions.{Def, definitions}
use Rattle.model.specs.Text.{text_units}
use Rattle.program.specs.Roster.{roster}
use Rattle.translator.specs.declared.Refusal.{Refusal}
use Rattle.translator.specs.declared.Refusal.TheVariants.{ShortFaultList, LongText, ManyLines, ManyStatements}
use Rattle.translator.specs.declared.Refusal.TheVariants.{StatementFaults, ManyDefinitions, ModelFaults, NoRoom}
use Rattle.translator.specs.declared.Refusal.TheVariants.{NoRosterRoom}
use Rattle.translator.specs.Contract.{Verdict, Refused, Faulty, Translated, refusal_in, verdict_in, number_in, units_in}
use Rattle.translator.specs.declared.Ordered.{Ordered}
use Rattle.translator.specs.Contract.{Reply, reply_of, number_told, count_told, records_answered, Translates, OrderedReply}
use Rattle.translator.specs.Contract.{ordered_reply, ordered_reply_of, NamedReply, named_reply_of, NamesSlots}
use Rattle.translator.specs.Contract.{GivesNames}
use Rattle.translator.specs.Names.{Naming, unnamed, listed, named, naming_by, naming_of, NamesGiven, names_given_of}
use Rattle.translator.specs.Names.{names_given}
use Rattle.translator.specs.Contract.{TranslatesInOrder, Gives}
use Rattle.translator.specs.Verdict.{Decision, refused, faulty, translated, verdict_of}
use Rattle.translator.specs.Verdict.{verdict_within}
use Rattle.translator.specs.Verdict.{Translation, translation_of, translation}
use Rattle.translator.specs.Working.{ordered_as, reply_for, DecidesFor, Answers}

-- a report for each statement
pub sheet_many : (text : List ℕ) → length (sheet_of text) ≡ length (reading fresh 1 (lines_of text))
unfolding sheet_of
sheet_many text = length-map (reading fresh 1 (lines_of text)) (report told)

-- few bytes have few lines
pub bytes_lines : (text : List ℕ) → length text ≤ text_lines → length (lines_of text) ≤ text_lines
bytes_lines text h = omega (arith, lines_le text)

module _ (b : Bool) (text f p o : List ℕ) where
  pub says_one : length f < fault_room → Answers b text f p o (Err ShortFaultList) f p o
  unfolding verdict_within
  says_one h = rw (lt-ltb (length f) fault_room h)

  module _ (room : fault_room ≤ length f) where
    enough : ltb (length f) fault_room ≡ false
    enough = le-ltb (length f) fault_room room

    pub says_two : text_bytes < length text → Answers b text f p o (Err LongText) f p o
    unfolding verdict_within
    says_two h = rw (enough, lt-ltb text_bytes (length text) h)

    module _ (short : length text ≤ text_bytes) where
      brief : ltb text_bytes (length text) ≡ false
      brief = le-ltb text_bytes (length text) short

      pub says_three : text_lines < length (lines_of text) → Answers b text f p o (Err ManyLines) f p o
      unfolding verdict_within
      says_three h = rw (enough, brief, lt-ltb text_lines (length (lines_of text)) h)

      module _ (lines : length (lines_of text) ≤ text_lines) where
        lined : ltb text_lines (length (lines_of text)) ≡ false
        lined = le-ltb text_lines (length (lines_of text)) lines

        -- behind them the sheet's verdict is the text's
        pub says_decided : (r : Result Ordered Refusal) {f' p' o' : List ℕ} → DecidesFor b text f p o r f' p' o'
            → Answers b text f p o r f' p' o'
        unfolding verdict_within
        says_decided r w = rw (enough, brief, lined) w

-- ---- what is asked for

-- the program with the order of its units
pub reply_program : (v : Decision) (ds : List Def) (f p o : List ℕ)
    → reply_for v false ds f p o ≡ ordered_reply_of v f p o
reply_program (refused n) ds f p o = refl
reply_program (faulty n fs) ds f p o = refl
reply_program (translated rs ls) ds f p o = refl

-- THE PROGRAM: an answer where it is asked for
pub answers_program : (text f p o : List ℕ) (r : Result Ordered Refusal) {f' p' o' : List ℕ}
    → Answers false text f p o r f' p' o'
    → TranslatesInOrder text f p o r f' p' o'
answers_program text f p o r e =
    e ∙ reply_program (verdict_of text (length f) (length p)) (definitions (text_units text)) f p o

-- what it says of names
abbrev names_in : OrderedReply → NamedReply
names_in x = record { answer = x.answer; faults = x.faults; roster = x.program }

reply_names : (v : Decision) (ds : List Def) (f p o : List ℕ)
    → names_in (reply_for v true ds f p o) ≡ named_reply_of (naming_by v ds (length p)) f p
reply_names (refused n) ds f p o = refl
reply_names (faulty n fs) ds f p o = refl
reply_names (translated rs ls) ds f p o = by_room (ltb (length p) (roster_bytes * length ds))
  where
    by_room : (short : Bool)
        → names_in (cond short (ordered_reply (Err NoRosterRoom) f p o)
        (ordered_reply (ordered_as (length ds) 0) f (sets p 0 (roster ds)) o))
        ≡ named_reply_of (cond short (unnamed 10) (named ds)) f p
    by_room true = refl
    by_room false = refl

-- NAMES: an answer where they are asked for
pub answers_names : (text f p o : List ℕ) (r : Result Ordered Refusal) {f' p' o' : List ℕ}
    → Answers true text f p o r f' p' o'
    → NamesSlots text f p (records_answered r) f' p'
answers_names text f p o r e =
    ap names_in e ∙ reply_names (verdict_of text (length f) program_room) (definitions (text_units text)) f p o

-- ---- an answer is known by its verdict

-- the refusal of a number
abbrev refusal_of : ℕ → Refusal
refusal_of n =
    let later = cond (eqb n 6) ManyDefinitions (cond (eqb n 8) NoRoom NoRosterRoom) in
    let sized = cond (eqb n 3) ManyLines (cond (eqb n 4) ManyStatements later) in
    cond (eqb n 1) ShortFaultList (cond (eqb n 2) LongText sized)

-- the answer of a verdict
abbrev answer_with : Verdict → Result ℕ Refusal
answer_with (Refused n) = Err (refusal_of n)
answer_with (Faulty n k) = Err (cond (eqb n 5) (StatementFaults k) (ModelFaults k))
answer_with (Translated k) = Ok k

refusal_back : (e : Refusal) → answer_with (refusal_in e) ≡ Err e
refusal_back ShortFaultList = refl
refusal_back LongText = refl
refusal_back ManyLines = refl
refusal_back ManyStatements = refl
refusal_back (StatementFaults k) = refl
refusal_back ManyDefinitions = refl
refusal_back (ModelFaults k) = refl
refusal_back NoRoom = refl
refusal_back NoRosterRoom = refl

answer_back : (r : Result ℕ Refusal) → answer_with (verdict_in r) ≡ r
answer_back (Ok k) = refl
answer_back (Err e) = refusal_back e

-- WHOLE: answers of the same verdict are the same
pub verdict_whole : {r s : Result ℕ Refusal} → verdict_in r ≡ verdict_in s → r ≡ s
verdict_whole {r} {s} e = sym (answer_back r) ∙ ap answer_with e ∙ answer_back s

-- and so with the units
pub ordered_whole : {r s : Result Ordered Refusal} → verdict_in (records_answered r) ≡ verdict_in (records_answered s)
    → units_in r ≡ units_in s → r ≡ s
ordered_whole {r} {s} e u =
    sym (back r) ∙ ap₂ join (verdict_whole e) u ∙ back s
  where
    join : Result ℕ Refusal → ℕ → Result Ordered Refusal
    join (Ok k) n = ordered_as k n
    join (Err x) n = Err x

    back : (r : Result Ordered Refusal) → join (records_answered r) (units_in r) ≡ r
    back (Ok o) = refl
    back (Err x) = refl

-- the number of a refusal is not 0
pub number_above : (e : Refusal) → 0 < number_in (Err e)
number_above ShortFaultList = omega arith
number_above LongText = omega arith
number_above ManyLines = omega arith
number_above ManyStatements = omega arith
number_above (StatementFaults k) = omega arith
number_above ManyDefinitions = omega arith
number_above (ModelFaults k) = omega arith
number_above NoRoom = omega arith
number_above NoRosterRoom = omega arith

-- THE VERDICT ALONE: an answer with the order is the answer without it
pub without_order : (text f p o : List ℕ) (r : Result Ordered Refusal) {f' p' o' : List ℕ}
    → TranslatesInOrder text f p o r f' p' o'
    → Translates text f p (records_answered r) f' p'
without_order text f p o r e =
    ap (λ (x : OrderedReply). record { answer = x.answer; faults = x.faults; program = x.program }) e

-- a reply by number and count
abbrev numbers_in : Reply → Translation
numbers_in x =
    record { number = number_told x.answer; count = count_told x.answer; faults = x.faults; program = x.program }

-- the reply to a verdict has its number and count
by_case : (v : Decision) (f p : List ℕ) → numbers_in (reply_of v f p) ≡ translation_of v f p
by_case (refused n) f p = refl
by_case (faulty n fs) f p = refl
by_case (translated rs ls) f p = refl

-- BY NUMBER: an answer as promised has the number, the count and the buffers that the paper names
pub by_number : (text f p : List ℕ) (r : Result ℕ Refusal) {f' p' : List ℕ} → Translates text f p r f' p'
    → Gives text f p r f' p'
unfolding translation
by_number text f p r e =
    ap numbers_in e
    ∙ by_case (verdict_of text (length f) (length p)) f p

abbrev named_numbers : NamedReply → NamesGiven
named_numbers x =
    record { number = number_told x.answer; count = count_told x.answer; faults = x.faults; roster = x.roster }

naming_case : (v : Naming) (f o : List ℕ) → named_numbers (named_reply_of v f o) ≡ names_given_of v f o
naming_case (unnamed n) f o = refl
naming_case (listed n fs) f o = refl
naming_case (named ds) f o = refl

-- and one with names
pub names_by_number : (text f o : List ℕ) (r : Result ℕ Refusal) {f' o' : List ℕ} → NamesSlots text f o r f' o'
    → GivesNames text f o r f' o'
unfolding names_given
names_by_number text f o r e =
    ap named_numbers e
    ∙ naming_case (naming_of text (length f) (length o)) f o
