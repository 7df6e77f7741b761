-- Where names are asked for: what the rows that are lent for them hold, and the answer.
use Prim.Native.Nat.{ℕ, ◌*◌, ◌/◌, ◌≤◌}
use mathlib.Core.Path.{◌≡◌, refl, sym, ap, ◌∙◌}
use mathlib.Core.Bool.{Bool, true, false, cond, ◌||◌}
use mathlib.Core.List.{List, [], map}
use native.Mathlib.Omega.{arith}
use borrow.Author.Tests.{leb-true}
use lib.Dec.{ltb}
use lib.ListN.{length, take, length-map}
use lib.Seq.{sets, length-sets, take_all}
use Rattle.std.specs.Prelude.{Option, None, Some, Result, Ok, Err}
use Rattle.limits.specs.Limits.{most_definitions, most_records, record_bytes, program_room, roster_bytes}
use Rattle.laws.proofs.Sets.{sets_back}
use Rattle.records.specs.Record.{Rec}
use Rattle.sheet.specs.Sheet.{Numbered}
use Rattle.sheet.specs.Reader.{sheet_of}
use Rattle.blocks.specs.Units.{TextUnit}
use Rattle.blocks.specs.Members.{units_of}
use Rattle.model.specs.Definitions.{Def, definitions}
use Rattle.model.specs.Faults.{model_faults, order_of}
use Rattle.model.specs.Text.{text_units}
use Rattle.model.specs.Plan.{lent as arrays}
use Rattle.model.specs.Contract.{Plans}
use Rattle.model.specs.declared.answer.Counts.{Counts}
use Rattle.blocks.specs.declared.answer.Refusal.{Refusal as Unready}
use Rattle.program.specs.Program.{program}
use Rattle.program.specs.Roster.{Entry, entry_for, entries_from, roster}
use Rattle.program.specs.Written.{record_count, entries_in}
use Rattle.program.specs.Contract.{PutsRoster}
use Rattle.program.proofs.WrittenMeans.{count_meant}
use Rattle.program.proofs.RosterFilled.{length_entries}
use Rattle.program.proofs.RosterMeans.{entries_meant}
use Rattle.translator.specs.declared.Refusal.{Refusal}
use Rattle.translator.specs.declared.Refusal.TheVariants.{NoRoom, NoRosterRoom}
use Rattle.translator.specs.declared.Ordered.{Ordered}
use Rattle.translator.specs.Contract.{OrderedReply, ordered_reply}
use Rattle.translator.specs.Verdict.{refused, translated, if_faults, programmed, modelled, decided}
use Rattle.translator.specs.Working.{ordered_as, asks_names, unfilled, UnitsReady, reply_for, UnitsConclude, NamesWritten}
use Rattle.translator.specs.Working.{UnitsConcludeFor, Concludes, ConcludesFor, Decides, DecidesFor, Tries, TriesFor}
use Rattle.translator.proofs.Verdicts.{reply_program}
use Rattle.translator.proofs.Writing.{clean_plan}

-- where the program is asked for
pub concludes_program : (us : List TextUnit) (f p o : List ℕ) (r : Result Ordered Refusal) {f' p' o' : List ℕ}
    → UnitsConclude us f p o r f' p' o'
    → UnitsConcludeFor false us f p o r f' p' o'
concludes_program us f p o r e =
    e ∙ sym (reply_program (if_faults 7 (model_faults us) (programmed (length p) us)) (definitions us) f p o)

-- and there these say what those without `For` say
pub plain_units : (us : List TextUnit) (f p o : List ℕ) (r : Result Ordered Refusal) {f' p' o' : List ℕ}
    → UnitsConcludeFor false us f p o r f' p' o'
    → UnitsConclude us f p o r f' p' o'
plain_units us f p o r e =
    e ∙ reply_program (if_faults 7 (model_faults us) (programmed (length p) us)) (definitions us) f p o

pub plain_statements : (ss : List Numbered) (f p o : List ℕ) (r : Result Ordered Refusal) {f' p' o' : List ℕ}
    → ConcludesFor false ss f p o r f' p' o'
    → Concludes ss f p o r f' p' o'
plain_statements ss f p o r e = e ∙ reply_program (modelled (length p) ss) (definitions (units_of ss)) f p o

pub plain_text : (text f p o : List ℕ) (r : Result Ordered Refusal) {f' p' o' : List ℕ}
    → DecidesFor false text f p o r f' p' o'
    → Decides text f p o r f' p' o'
plain_text text f p o r e =
    e ∙ reply_program (decided (length p) (sheet_of text)) (definitions (text_units text)) f p o

pub plain_tries : (text f p o : List ℕ) (k : ℕ) (r : Option (Result Ordered Refusal)) (f' p' o' : List ℕ)
    → TriesFor false text k f p o r f' p' o'
    → Tries text k f p o r f' p' o'
plain_tries text f p o k (Some r) f' p' o' t = plain_text text f p o r t
plain_tries text f p o k None f' p' o' t = t

-- ---- where names are asked for, and entered in the rows that are lent
module _ {lines bounds ulines ubounds firsts kinds args used faults : List ℕ}
    (ready : UnitsReady lines bounds ulines ubounds firsts kinds args used faults)
    (rows₀ : List ℕ) (asked : asks_names (length rows₀) ≡ true)
    {n : ℕ} {rows : List ℕ} (puts : PutsRoster lines bounds kinds args rows₀ n rows) where
  abbrev of : List TextUnit
  of = ready.units

  abbrev ds : List Def
  ds = definitions of

  -- there is room for as many as there may be
  room : roster_bytes * most_definitions ≤ length rows₀
  room = leb-true (roster_bytes * most_definitions) (length rows₀) asked

  -- so every definition is entered
  all_entered : take (length rows₀ / roster_bytes) (entries_in lines bounds kinds args) ≡ map entry_for ds
  all_entered =
      rw (entries_meant of ready.laid)
      (take_all (length rows₀ / roster_bytes) (map entry_for ds)
      (omega (arith, room, length-map ds entry_for, ready.few)))

  entered_many : n ≡ length ds
  entered_many = puts.0 ∙ ap length all_entered ∙ length-map ds entry_for

  pub entered_few : n ≤ most_definitions
  entered_few = omega (arith, entered_many, ready.few)

  -- so many bytes are written
  roster_long : length (roster ds) ≡ roster_bytes * n
  unfolding roster
  roster_long = omega (arith, length_entries 1 (map entry_for ds), length-map ds entry_for, entered_many)

  rows_are : rows ≡ sets rows₀ 0 (roster ds)
  unfolding roster
  rows_are = puts.1 ∙ ap (λ (es : List Entry). sets rows₀ 0 (entries_from 1 es)) all_entered

  pub rows_room : roster_bytes * n ≤ length rows
  rows_room =
      let long = ap length rows_are ∙ length-sets rows₀ 0 (roster ds) in
      omega (arith, long, room, entered_few)

  -- these are the roster
  rows_front : take (roster_bytes * n) rows ≡ roster ds
  rows_front =
      rw (rows_are, ← roster_long)
      (sets_back rows₀ 0 (roster ds) (omega (arith, roster_long, room, entered_few)))

  -- ---- the model is sound: what is written is what is asked for
  module _ (answer : Result Counts Unready) {args' used' faults' places equated order : List ℕ}
      (plans : Plans lines bounds ulines ubounds kinds args used faults unfilled answer args' used' faults'
      (arrays places equated order)) (out lent : List ℕ) {p : Counts} (done : answer ≡ Ok p) where
    clean : model_faults of ≡ []
    clean = (clean_plan ready answer plans out lent done).0

    kept : faults' ≡ faults
    kept = (clean_plan ready answer plans out lent done).1

    abbrev recs : List Rec
    recs = program of (order_of of)

    -- whether the records are too many, by their count
    over : Bool
    over = ltb most_records (record_count kinds) || ltb most_records (record_count kinds)

    over_so : (ltb most_records (length recs) || ltb (program_room / record_bytes) (length recs)) ≡ over
    unfolding over
    over_so =
        let count = count_meant of kinds args lines bounds ulines ubounds firsts ready.laid clean in
        ap (λ (k : ℕ). (ltb most_records k || ltb most_records k)) (sym count)

    -- with the fault list and the order as lent
    abbrev lift : OrderedReply → OrderedReply
    lift x = record { answer = x.answer; units = x.units; faults = faults; program = x.program; order = lent }

    -- by the room, and by the records
    by_room : (b : Bool)
        → lift (cond b (ordered_reply (Err NoRosterRoom) [] out [])
        (ordered_reply (ordered_as (length ds) 0) [] (sets out 0 (roster ds)) []))
        ≡ cond b (ordered_reply (Err NoRosterRoom) faults out lent)
        (ordered_reply (ordered_as (length ds) 0) faults (sets out 0 (roster ds)) lent)
    by_room true = refl
    by_room false = refl

    by_records : (a : Bool) (ls : List ℕ)
        → lift (cond a (ordered_reply (Err NoRoom) [] out [])
        (cond (ltb (length out) (roster_bytes * length ds)) (ordered_reply (Err NoRosterRoom) [] out [])
        (ordered_reply (ordered_as (length ds) 0) [] (sets out 0 (roster ds)) [])))
        ≡ reply_for (cond a (refused 8) (translated recs ls)) true ds faults out lent
    by_records true ls = refl
    by_records false ls = by_room (ltb (length out) (roster_bytes * length ds))

    pub says_names : (r : Result Ordered Refusal) {out' : List ℕ} → NamesWritten rows n kinds out r out'
        → UnitsConcludeFor true of faults out lent r faults' out' lent
    unfolding over
    says_names r w =
        rw (clean, kept, over_so) (ap lift (rw (rows_front, entered_many) at w) ∙ by_records over _)
