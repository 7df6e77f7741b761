-- What the parts of `translate` meet.
use Rattle.std.specs.Prelude.{ℕ, suc, ◌+◌, ◌-◌, ◌*◌, ◌/◌, ◌≤◌, ◌<◌, ◌≡◌, Bool, true, false, cond, ◌||◌, List, [], ◌∷◌}
use Rattle.std.specs.Prelude.{Option, None, Some, Result, Ok, Err, ◌++◌, map, leb, ltb, length, get_or, take, set}
use Rattle.std.specs.Prelude.{replicate}
use Rattle.std.proofs.lemmas.List.Edits.{sets}
use Rattle.limits.specs.Limits.{most_statements, most_definitions, text_bytes, fault_room, fault_bytes, program_room}
use Rattle.limits.specs.Limits.{most_records, roster_bytes}
use Rattle.deck.specs.declared.Cursor.{Cursor}
use Rattle.deck.specs.declared.Statement.{Statement}
use Rattle.deck.specs.declared.Place.{Place}
use Rattle.deck.specs.declared.Spot.{Spot}
use Rattle.deck.specs.Lines.{Line}
use Rattle.deck.specs.Joined.{joined}
use Rattle.deck.specs.Faults.{size_flaw}
use Rattle.deck.specs.Codes.{size_code, flaw_of, joined_room}
use Rattle.deck.specs.Reports.{report}
use Rattle.deck.specs.Next.{statements_from, cards_at}
use Rattle.deck.specs.Walks.{BytesFrom}
use Rattle.drafts.specs.Drafts.{drafts_of}
use Rattle.sheet.specs.Sheet.{Told, says, faulty as faulty_told, Sheet, Numbered, said, statement_faults, fault_at_spot}
use Rattle.sheet.specs.Sheet.{entry_of}
use Rattle.sheet.specs.Sheet.{fault_list}
use Rattle.sheet.specs.Reader.{told, sheet_of}
use Rattle.sheet.specs.Layout.{drafts_in, draft_kinds, draft_args, bounds_from, Laid}
use Rattle.blocks.specs.Units.{TextUnit}
use Rattle.blocks.specs.Pairing.{Headed}
use Rattle.blocks.specs.Grouped.{UnitArrays, unit_arrays, group_fit}
use Rattle.blocks.specs.Sound.{UnitsSound}
use Rattle.blocks.specs.Layout.{UnitsLaid}
use Rattle.blocks.specs.Members.{units_of}
use Rattle.records.specs.Record.{Rec}
use Rattle.model.specs.Definitions.{Def, definitions}
use Rattle.model.specs.Text.{text_units}
use Rattle.program.specs.Roster.{roster}
use Rattle.program.specs.Written.{record_count}
use Rattle.model.specs.Faults.{model_faults, order_of}
use Rattle.model.specs.Places.{keys_in, places_in, resolved, ordered_in}
use Rattle.model.specs.Plan.{Lent, lent, fit}
use Rattle.model.specs.declared.answer.Counts.{Counts}
use Rattle.translator.specs.declared.Ordered.{Ordered}
use Rattle.translator.specs.declared.Refusal.{Refusal}
use Rattle.translator.specs.declared.Refusal.TheVariants.{ManyDefinitions, ModelFaults, NoRoom, NoRosterRoom}
use Rattle.blocks.specs.declared.answer.Refusal.{Refusal as Unready}
use Rattle.blocks.specs.declared.answer.Refusal.TheVariants.{ManyDefinitions as OverMany, Faults, Unfit}
use Rattle.translator.specs.declared.Short.{Short}
use Rattle.translator.specs.declared.Short.TheVariants.{NoRoom as Roomless, TooMany}
use Rattle.translator.specs.Contract.{OrderedReply, ordered_reply, ordered_reply_of}
use Rattle.translator.specs.Verdict.{Decision, refused, faulty, translated, if_faults, programmed, modelled}
use Rattle.translator.specs.Verdict.{decided, verdict_of}
use Rattle.faults.specs.Codes.{code_of}
use Rattle.translator.specs.declared.Flawed.{Flawed}
use Rattle.translator.specs.declared.SoFar.{SoFar}

-- ---- one statement

-- the place behind its drafts; or a fault's code, and where it is
pub data Saying : Type 0 where
  behind : ℕ → Saying
  flawed : ℕ → Place → Saying

-- the answer says it so
abbrev pub saying_in : Result ℕ Flawed → Saying
saying_in (Ok n) = behind n
saying_in (Err x) = flawed (code_of x.fault) x.place

-- what is told of it: where it says something, the answer is the place behind its drafts, which stand from the place p
-- on; where it has a fault, the answer is the code and where it is, and what stands before the place is kept
abbrev pub TellsOf : Told Place → ℕ → List ℕ → List ℕ → Saying → List ℕ → List ℕ → Type 0
TellsOf (says x) p l u r l' u' = (r ≡ behind (p + length (drafts_of x))) × (l' ≡ sets l p (draft_kinds (drafts_of x)))
    × (u' ≡ sets u p (draft_args (drafts_of x)))
TellsOf (faulty_told c q) p l u r l' u' = (r ≡ flawed c q) × (take p l' ≡ take p l) × (take p u' ≡ take p u)

-- of what was told, by reading, and by what stands in the buffers before and after
pub record Tells (t : Told Place) (p : ℕ) (l u : List ℕ) (r : Result ℕ Flawed) (l' u' : List ℕ) : Type 0 where
  pub long_kinds : length l' ≡ length l
  pub long_args : length u' ≡ length u
  pub by_told : TellsOf t p l u (saying_in r) l' u'

-- what reading a row asks: as many arguments as kinds, and room for a draft for each token
pub record RowRoom (ks us : List ℕ) (p : ℕ) (l u : List ℕ) : Type 0 where
  pub even : length us ≡ length ks
  pub room_kinds : p + length ks ≤ length l
  pub room_args : p + length ks ≤ length u

-- its fault for size has this code, 0 where there is none
abbrev pub Size : List Line → Bool → ℕ → Type 0
Size cards closed code = size_flaw cards closed ≡ flaw_of closed code

-- what reading a joined text asks: a place in the row for each byte, and so many for drafts
pub record JoinedRoom (body : List ℕ) (p : ℕ) (l u : List ℕ) : Type 0 where
  pub short : length body ≤ joined_room
  pub room_kinds : p + length body ≤ length l
  pub room_args : p + length body ≤ length u

-- the code of a statement's fault for size, 0 where there is none
abbrev pub code_at : Statement → ℕ
code_at s = size_code s.cards s.closed s.long

-- its joined text
abbrev pub joined_at : List ℕ → Statement → List ℕ
joined_at text s = joined (cards_at text s.start s.lines)

-- what reading a statement asks: its joined text has room, and so have its drafts; of one line it is what stands there
pub record Before (text : List ℕ) (s : Statement) (p : ℕ) (l u : List ℕ) : Type 0 where
  pub size : Size (cards_at text s.start s.lines) s.closed (code_at s)
  pub short : code_at s ≡ 0 → length (joined_at text s) ≤ joined_room
  pub alone : code_at s ≡ 0 → s.lines ≡ 1 → BytesFrom text s.start s.next.at (joined_at text s)
  pub room_kinds : p + length (joined_at text s) ≤ length l
  pub room_args : p + length (joined_at text s) ≤ length u

-- ---- one statement more

-- what it asks of the arrays besides
pub record Able (text : List ℕ) (s : Statement) (n : SoFar) (kinds args lines bounds : List ℕ) : Type 0 where
  pub before : Before text s n.drafts kinds args
  pub first_fits : s.first ≤ text_bytes
  pub brief : length text ≤ text_bytes
  pub drafts_fit : n.drafts + length (joined_at text s) ≤ text_bytes
  pub lines_room : n.statements < length lines
  pub bounds_room : n.statements + 1 < length bounds
  pub faults_fit : n.faults < most_statements

-- what it gives: where the statement says x, its drafts, its number and their end are noted; where it has a fault, that
-- is listed
abbrev pub AddsOf : Told Spot → ℕ → SoFar → List ℕ → List ℕ → List ℕ → List ℕ → List ℕ
    → SoFar → List ℕ → List ℕ → List ℕ → List ℕ → List ℕ → Type 0
AddsOf (says x) first n l u ls bs fs r l' u' ls' bs' fs' =
    (r ≡ record { statements = n.statements + 1; drafts = n.drafts + length (drafts_of x); faults = n.faults })
    × (l' ≡ sets l n.drafts (draft_kinds (drafts_of x)))
    × (u' ≡ sets u n.drafts (draft_args (drafts_of x)))
    × (ls' ≡ set ls n.statements first)
    × (bs' ≡ set bs (n.statements + 1) (n.drafts + length (drafts_of x)))
    × (fs' ≡ fs)
AddsOf (faulty_told c q) first n l u ls bs fs r l' u' ls' bs' fs' =
    (r ≡ record { statements = n.statements; drafts = n.drafts; faults = n.faults + 1 })
    × (take n.drafts l' ≡ take n.drafts l)
    × (take n.drafts u' ≡ take n.drafts u)
    × (ls' ≡ ls)
    × (bs' ≡ bs)
    × (fs' ≡ sets fs (fault_bytes * n.faults) (entry_of (fault_at_spot first c q)))

-- by what was told, and by what stands in the buffers before and after
pub record Adds (t : Told Spot) (first : ℕ) (n : SoFar) (l u ls bs fs : List ℕ) (r : SoFar)
    (l' u' ls' bs' fs' : List ℕ) : Type 0 where
  pub long_kinds : length l' ≡ length l
  pub long_args : length u' ≡ length u
  pub by_told : AddsOf t first n l u ls bs fs r l' u' ls' bs' fs'

-- ---- all statements

-- Reading stands at the cursor c. The reports behind it are `done`; they are held in the arrays, and their faults in
-- the list
pub record Progress (text list₀ : List ℕ) (c : Cursor) (n : SoFar)
    (kinds args lines bounds list : List ℕ) : Type 0 where
  pub done : Sheet
  pub split : sheet_of text ≡ done ++ map (report told) (statements_from text c)
  pub lawful : c.line ≤ c.at + 1
  pub statements : n.statements ≡ length (said done)
  pub drafts : n.drafts ≡ length (drafts_in (said done))
  pub faults : n.faults ≡ length (statement_faults done)
  pub kinds_held : take n.drafts kinds ≡ draft_kinds (drafts_in (said done))
  pub args_held : take n.drafts args ≡ draft_args (drafts_in (said done))
  pub lines_held : take n.statements lines ≡ map (λ (s : Numbered). s.line) (said done)
  pub bounds_held : take (suc n.statements) bounds ≡ bounds_from 0 (said done)
  pub listed : list ≡ sets list₀ 0 (fault_list (statement_faults done))
  pub short : n.drafts ≤ c.at
  pub within : n.drafts ≤ length text

-- a text that is not too long, and a list that has room for the faults of as many statements as there may be
pub record Taken (text list : List ℕ) : Type 0 where
  pub brief : length text ≤ text_bytes
  pub list_room : fault_room ≤ length list

-- the room in which it is read: as many arguments as kinds, and a place for each statement
pub record Room (text list kinds args lines bounds : List ℕ) : Type 0 where
  pub taken : Taken text list
  pub args_room : length kinds ≤ length args
  pub lines_room : most_statements ≤ length lines
  pub bounds_room : most_statements < length bounds
  pub bounds_first : take 1 bounds ≡ 0 ∷ []

-- what reading all gives: the whole sheet is done
pub record ReadThrough (text list₀ : List ℕ) (n : SoFar) (kinds args lines bounds list : List ℕ) : Type 0 where
  pub statements : n.statements ≡ length (said (sheet_of text))
  pub drafts : n.drafts ≡ length (drafts_in (said (sheet_of text)))
  pub faults : n.faults ≡ length (statement_faults (sheet_of text))
  pub laid : Laid (said (sheet_of text)) (take n.drafts kinds) (take n.drafts args) (take n.statements lines)
      (take (suc n.statements) bounds)
  pub listed : list ≡ sets list₀ 0 (fault_list (statement_faults (sheet_of text)))
  pub within : n.drafts ≤ length text

-- among so many places, of which d are taken, there are none for the drafts of a statement that stands from a start to
-- one byte before the next: it has no more drafts than bytes
pub record LacksRoom (places d start next : ℕ) (r : Bool) : Type 0 where
  pub lacks : r ≡ true → places < d + (next - 1 - start)
  pub has : r ≡ false → d + (next - 1 - start) ≤ places

-- why it came short: so many places are fewer than the text has bytes, or statements are too many
abbrev pub CameShort : Short → List ℕ → ℕ → Type 0
CameShort Roomless text places = places < length text
CameShort TooMany text places = most_statements < length (sheet_of text)

-- how far it came: through, with statements that are not too many; or it came short
abbrev pub ReadFar : List ℕ → List ℕ → Result SoFar Short → List ℕ → List ℕ → List ℕ → List ℕ → List ℕ → Type 0
ReadFar text list₀ (Ok n) kinds args lines bounds list =
    ReadThrough text list₀ n kinds args lines bounds list × (length (sheet_of text) ≤ most_statements)
ReadFar text list₀ (Err e) kinds args lines bounds list = CameShort e text (length kinds)

-- a text is read through: its faults are listed in a list that was list₀, its statements, which are not too many, stand
-- in the arrays, and there is room for what they use
pub record AllRead (n : SoFar) (list kinds args used lines bounds : List ℕ) : Type 0 where
  pub text : List ℕ
  pub list₀ : List ℕ
  pub taken : Taken text list₀
  pub few : length (sheet_of text) ≤ most_statements
  pub read : ReadThrough text list₀ n kinds args lines bounds list
  pub uses_room : n.drafts ≤ length used

-- ---- from the sheet to the verdict

-- a row at the front of an array of n zeros
abbrev pub padded : ℕ → List ℕ → List ℕ
padded n l = sets (replicate n 0) 0 l

-- the three arrays that are lent to the plan: a place for each definition, for each unit, and for the order of these
abbrev pub unfilled : Lent
unfilled = lent (replicate most_definitions 0) (replicate most_statements 0) (replicate most_statements 0)

-- the three arrays that are lent for the units: a place for each statement, and one more
abbrev pub unitless : UnitArrays
unitless =
    unit_arrays (replicate (most_statements + 1) 0) (replicate (most_statements + 1) 0)
    (replicate (most_statements + 1) 0)

-- the refusal for that of units; arrays that do not fit one another are never here
abbrev pub refusal_from : Unready → Refusal
refusal_from OverMany = ManyDefinitions
refusal_from (Faults k) = ModelFaults k
refusal_from Unfit = NoRoom

-- the arrays hold some statements, whose headers name outputs, and fit
pub record ArraysReady (lines bounds kinds args used faults : List ℕ) : Type 0 where
  pub statements : List Numbered
  pub laid : Laid statements kinds args lines bounds
  pub headed : Headed statements
  pub fits : group_fit lines bounds kinds (length args) (length faults) (most_statements + 1) (most_statements + 1)
      (most_statements + 1) ≡ true
  pub uses_room : length kinds ≤ length used

-- the arrays hold some units whose blocks are sound and which are not too many, and fit
pub record UnitsReady (lines bounds ulines ubounds firsts kinds args used faults : List ℕ) : Type 0 where
  pub units : List TextUnit
  pub laid : UnitsLaid units kinds args lines bounds ulines ubounds firsts
  pub sound : UnitsSound units
  pub few : length (definitions units) ≤ most_definitions
  pub fits : fit lines bounds ulines ubounds kinds (length args) (length used)
      (length faults) most_definitions most_statements most_statements ≡ true

-- the arrays held some units whose model is sound; the names of their arguments are resolved, and the plan is theirs
pub record Planned (p : Counts) (places equated order lines bounds ulines firsts kinds args : List ℕ) : Type 0 where
  pub units : List TextUnit
  pub unresolved : List ℕ
  pub ubounds : List ℕ
  pub laid : UnitsLaid units kinds unresolved lines bounds ulines ubounds firsts
  pub few : length (definitions units) ≤ most_definitions
  pub clean : model_faults units ≡ []
  pub args_resolved : args ≡ resolved (keys_in kinds unresolved) kinds unresolved
  pub definitions_counted : p.definitions ≡ length (places_in kinds)
  pub units_counted : p.units ≡ length (ordered_in (length ulines) ubounds kinds)
  pub short : length ulines ≤ most_statements
  pub places_held : places ≡ padded most_definitions (places_in kinds)
  pub equated_held : equated ≡ padded most_statements (ordered_in (length ulines) ubounds kinds)
  pub order_held : order ≡ padded most_statements (order_of units)

-- the first lines of the ordered units: order gives places in equated, and these the units
abbrev pub ordered_lines : List ℕ → List ℕ → List ℕ → List ℕ
ordered_lines equated lines order = map (λ (r : ℕ). get_or lines (get_or equated r 0) 0) order

-- ---- what is asked for: the program with the order of its units; or names, where rows are lent for as many as there
-- may be
abbrev pub asks_names : ℕ → Bool
asks_names rows = leb (roster_bytes * most_definitions) rows

-- the bytes by which the verdict goes, where so many are lent
abbrev pub room_for : Bool → ℕ → ℕ
room_for false room = room
room_for true room = program_room

-- the answer with so many records, or entries, and so many units ordered
abbrev pub ordered_as : ℕ → ℕ → Result Ordered Refusal
ordered_as k u = Ok (record { records = k; units = u })

-- of a translated text with the definitions ds: the program and the order; or 10, or the roster
abbrev pub reply_zero : Bool → List Def → List Rec → List ℕ → List ℕ → List ℕ → List ℕ → OrderedReply
reply_zero false ds rs ls f p o = ordered_reply_of (translated rs ls) f p o
reply_zero true ds rs ls f p o =
    cond (ltb (length p) (roster_bytes * length ds)) (ordered_reply (Err NoRosterRoom) f p o)
    (ordered_reply (ordered_as (length ds) 0) f (sets p 0 (roster ds)) o)

-- the reply to a verdict, with what is asked for
abbrev pub reply_for : Decision → Bool → List Def → List ℕ → List ℕ → List ℕ → OrderedReply
reply_for (refused n) b ds f p o = ordered_reply_of (refused n) f p o
reply_for (faulty n fs) b ds f p o = ordered_reply_of (faulty n fs) f p o
reply_for (translated rs ls) b ds f p o = reply_zero b ds rs ls f p o

-- the answer r and the buffers f', p' and o' are what the verdict on the model of units gives for the buffers f, p and
-- o
abbrev pub UnitsConclude : List TextUnit → List ℕ → List ℕ → List ℕ → Result Ordered Refusal
    → List ℕ → List ℕ → List ℕ → Type 0
UnitsConclude us f p o r f' p' o' =
    ordered_reply r f' p' o' ≡ ordered_reply_of (if_faults 7 (model_faults us) (programmed (length p) us)) f p o

-- and on that of statements
abbrev pub Concludes : List Numbered → List ℕ → List ℕ → List ℕ → Result Ordered Refusal
    → List ℕ → List ℕ → List ℕ → Type 0
Concludes ss f p o r f' p' o' = ordered_reply r f' p' o' ≡ ordered_reply_of (modelled (length p) ss) f p o

-- the answer r and the buffers f', p' and o' are what the sheet's verdict gives for the buffers f, p and o
abbrev pub Decides : List ℕ → List ℕ → List ℕ → List ℕ → Result Ordered Refusal
    → List ℕ → List ℕ → List ℕ → Type 0
Decides text f p o r f' p' o' = ordered_reply r f' p' o' ≡ ordered_reply_of (decided (length p) (sheet_of text)) f p o

-- the same with so many places for drafts, unless these were too few: then the text has more bytes, and nothing is
-- written
abbrev pub Tries : List ℕ → ℕ → List ℕ → List ℕ → List ℕ → Option (Result Ordered Refusal)
    → List ℕ → List ℕ → List ℕ → Type 0
Tries text places f p o (Some r) f' p' o' = Decides text f p o r f' p' o'
Tries text places f p o None f' p' o' = (places < length text) × (f' ≡ f) × (p' ≡ p) × (o' ≡ o)

-- ---- the same with what is asked for (law `plain_tries`: without names they are those above)

-- what the writing of n names that stand in rows gives: 8, 10, or their entries
abbrev pub NamesWritten : List ℕ → ℕ → List ℕ → List ℕ → Result Ordered Refusal → List ℕ → Type 0
NamesWritten rows n kinds p r p' =
    let over = ltb most_records (record_count kinds) || ltb most_records (record_count kinds) in
    let written = ordered_reply (ordered_as n 0) [] (sets p 0 (take (roster_bytes * n) rows)) [] in
    let roomed = cond (ltb (length p) (roster_bytes * n)) (ordered_reply (Err NoRosterRoom) [] p []) written in
    ordered_reply r [] p' [] ≡ cond over (ordered_reply (Err NoRoom) [] p []) roomed

-- what the verdict on the model of units gives
abbrev pub UnitsConcludeFor : Bool → List TextUnit → List ℕ → List ℕ → List ℕ → Result Ordered Refusal
    → List ℕ → List ℕ → List ℕ → Type 0
UnitsConcludeFor b us f p o r f' p' o' =
    ordered_reply r f' p' o'
    ≡ reply_for (if_faults 7 (model_faults us) (programmed (room_for b (length p)) us)) b (definitions us) f p o

-- and on that of statements
abbrev pub ConcludesFor : Bool → List Numbered → List ℕ → List ℕ → List ℕ → Result Ordered Refusal
    → List ℕ → List ℕ → List ℕ → Type 0
ConcludesFor b ss f p o r f' p' o' =
    ordered_reply r f' p' o'
    ≡ reply_for (modelled (room_for b (length p)) ss) b (definitions (units_of ss)) f p o

-- what the sheet's verdict gives
abbrev pub DecidesFor : Bool → List ℕ → List ℕ → List ℕ → List ℕ → Result Ordered Refusal
    → List ℕ → List ℕ → List ℕ → Type 0
DecidesFor b text f p o r f' p' o' =
    ordered_reply r f' p' o'
    ≡ reply_for (decided (room_for b (length p)) (sheet_of text)) b (definitions (text_units text)) f p o

-- the same with so many places for drafts, unless these were too few
abbrev pub TriesFor : Bool → List ℕ → ℕ → List ℕ → List ℕ → List ℕ → Option (Result Ordered Refusal)
    → List ℕ → List ℕ → List ℕ → Type 0
TriesFor b text places f p o (Some r) f' p' o' = DecidesFor b text f p o r f' p' o'
TriesFor b text places f p o None f' p' o' = (places < length text) × (f' ≡ f) × (p' ≡ p) × (o' ≡ o)

-- what the text's verdict gives
abbrev pub Answers : Bool → List ℕ → List ℕ → List ℕ → List ℕ → Result Ordered Refusal
    → List ℕ → List ℕ → List ℕ → Type 0
Answers b text f p o r f' p' o' =
    ordered_reply r f' p' o'
    ≡ reply_for (verdict_of text (length f) (room_for b (length p))) b (definitions (text_units text)) f p o

-- the places for drafts in the smallest room, and in the next
abbrev pub small : ℕ
small = most_statements / 2

abbrev pub quarter : ℕ
quarter = text_bytes / 4
