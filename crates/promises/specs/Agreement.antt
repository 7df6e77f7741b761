-- Agreement: any two outcomes that a contract allows are equal, answer and each lent buffer. A row for each open entry
-- cites its contract by the name that the code cites too.
use Rattle.std.specs.Prelude.{ℕ, Bool, List, Float, Option}
use Rattle.laws.specs.Agree.{Agree, Agree2, Agree3, Agree4, Agree5}
use Rattle.bits.specs.Contract.{Widens, Indexes, ReadsByte, ReadsShort, ReadsWord, TakesLeast, LeavesRoom, GetsLow}
use Rattle.bits.specs.Contract.{PutsBytes, PutsLow, PutsEight, PutsAt, GivesFloat, GivesBits}
use Rattle.deck.specs.declared.Cursor.{Cursor}
use Rattle.deck.specs.declared.Place.{Place}
use Rattle.deck.specs.Contract.{FindsNext, CountsLines, FaultsSize, Joins, FindsSpot}
use Rattle.tokens.specs.Contract.{TakesCut, WritesRow, PlacesToken}
use Rattle.drafts.specs.Contract.{WhetherDefining, WhetherUse, WhetherAsking, WhetherNamed, WhetherClosing}
use Rattle.drafts.specs.Contract.{CountsDraft, FindsHome, FindsLast}
use Rattle.grammar.specs.Contract.{ParsesRow}
use Rattle.order.specs.Contract.{Sorts}
use Rattle.records.specs.Contract.{ReadsRecord, Decodes}
use Rattle.sheet.specs.Contract.{PutsFault}
use Rattle.blocks.specs.Grouped.{UnitArrays}
use Rattle.faults.specs.declared.Fault.{Fault}
use Rattle.blocks.specs.Contract.{Groups, AddsFault, WhetherInTurn}
use Rattle.model.specs.Plan.{Lent}
use Rattle.model.specs.Contract.{Plans}
use Rattle.program.specs.Contract.{CountsRecords, PutsProgram, PutsRoster}
use Rattle.evaluator.specs.declared.Refusal.{Refusal as Refused}
use Rattle.evaluator.specs.Contract.{AnswersNumber, AnswersPlace, Evaluated, Started, Stepped}
use Rattle.translator.specs.declared.Refusal.{Refusal}
use Rattle.translator.specs.Contract.{TellsNumber, TellsCount, Translates, TranslatesInOrder, NamesSlots}
use Rattle.listing_text.specs.Contract.{Lists}
use Rattle.floesedge.specs.Contract.{TranslatesFixed, NamesFixed, EvaluatesFixed, StartsFixed, StepsFixed}
use Rattle.tally.specs.declared.Tally.{Tally}
use Rattle.tally.specs.Contract.{CountsNone, CountsOne, CountsNumber, Finishes}

-- numbers as bytes, and reads
pub record Bits : Type 1 where
  pub wide : (byte : ℕ) → Agree (Widens byte)
  pub index : (x : ℕ) → Agree (Indexes x)
  pub byte_at : (s : List ℕ) (i : ℕ) → Agree (ReadsByte s i)
  pub short_at : (s : List ℕ) (i : ℕ) → Agree (ReadsShort s i)
  pub word_at : (s : List ℕ) (i : ℕ) → Agree (ReadsWord s i)
  pub least : (x y : ℕ) → Agree (TakesLeast x y)
  pub room : (end at n : ℕ) → Agree (LeavesRoom end at n)
  pub get_low : (part : List ℕ) (n : ℕ) → Agree (GetsLow part n)
  pub put_bytes : (buf : List ℕ) (at : ℕ) (from : List ℕ) → Agree (PutsBytes buf at from)
  pub put_low : (buf : List ℕ) (at n v : ℕ) → Agree (PutsLow buf at n v)
  pub put : {A : Type 0} (s : List A) (i : ℕ) (v : A) → Agree (PutsAt s i v)
  pub put_eight : (buf : List ℕ) (at v : ℕ) → Agree (PutsEight buf at v)
  pub float_of : (bits : ℕ) → Agree (GivesFloat bits)
  pub bits_of : (x : Float) → Agree (GivesBits x)

-- lines and statements
pub record Deck : Type 0 where
  pub next_statement : (text : List ℕ) (c : Cursor) → Agree (FindsNext text c)
  pub line_count : (text : List ℕ) → Agree (CountsLines text)
  pub size_fault : (cards : ℕ) (closed long : Bool) → Agree (FaultsSize cards closed long)
  pub join : (text : List ℕ) (start cards : ℕ) (out : List ℕ) → Agree2 (Joins text start cards out)
  pub find_spot : (text : List ℕ) (start lines : ℕ) (place : Place) → Agree (FindsSpot text start lines place)

-- tokens
pub record Tokens : Type 0 where
  pub take_cut : (body : List ℕ) (from : ℕ) → Agree (TakesCut body from)
  pub row : (body kinds args : List ℕ) → Agree3 (WritesRow body kinds args)
  pub token_place : (body : List ℕ) (i : ℕ) → Agree (PlacesToken body i)

-- what the kind of a draft is for, and where a slot is defined
pub record Drafts : Type 0 where
  pub is_defining : (kind : ℕ) → Agree (WhetherDefining kind)
  pub is_asking : (kind : ℕ) → Agree (WhetherAsking kind)
  pub is_use : (kind : ℕ) → Agree (WhetherUse kind)
  pub is_named : (kind : ℕ) → Agree (WhetherNamed kind)
  pub is_closing : (kind : ℕ) → Agree (WhetherClosing kind)
  pub records_of : (kind : ℕ) → Agree (CountsDraft kind)
  pub last_of : (bounds : List ℕ) (j : ℕ) → Agree (FindsLast bounds j)
  pub home_of : (places : List ℕ) (slot : ℕ) → Agree (FindsHome places slot)

-- a row of tokens parsed
pub record Grammar : Type 0 where
  pub parse_row : (kinds args out_kinds out_args : List ℕ) (place : ℕ)
      → Agree3 (ParsesRow kinds args out_kinds out_args place)

-- the order of a table of uses
pub record Order : Type 0 where
  pub sort : (n : ℕ) (starts used out : List ℕ) → Agree2 (Sorts n starts used out)

-- a record read and decoded
pub record Records : Type 0 where
  pub read : (program : List ℕ) (n : ℕ) → Agree (ReadsRecord program n)
  pub decode : (program : List ℕ) (n : ℕ) → Agree (Decodes program n)

-- a fault listed
pub record Sheets : Type 0 where
  pub put_fault : (list : List ℕ) (count line code place column : ℕ)
      → Agree (PutsFault list count line code place column)

-- statements grouped
pub record Blocks : Type 0 where
  pub group : (lines bounds kinds args faults : List ℕ) (a : UnitArrays)
      → Agree4 (Groups lines bounds kinds args faults a)
  pub is_in_turn : (bounds : List ℕ) (n size : ℕ) → Agree (WhetherInTurn bounds n size)
  pub add_fault : (fault : Option Fault) (line : ℕ) (list : List ℕ) (c : ℕ) → Agree2 (AddsFault fault line list c)

-- units planned
pub record Model : Type 0 where
  pub plan : (lines bounds ulines ubounds kinds args used faults : List ℕ) (l : Lent)
      → Agree5 (Plans lines bounds ulines ubounds kinds args used faults l)

-- a program counted and written
pub record Program : Type 0 where
  pub count_records : (kinds : List ℕ) → Agree (CountsRecords kinds)
  pub put_program : (places equated firsts lines bounds kinds slots order out : List ℕ)
      → Agree2 (PutsProgram places equated firsts lines bounds kinds slots order out)
  pub put_roster : (lines bounds kinds args out : List ℕ) → Agree2 (PutsRoster lines bounds kinds args out)

-- a program run
pub record Evaluator : Type 0 where
  pub number : (a : Refused) → Agree (AnswersNumber a)
  pub place : (a : Refused) → Agree (AnswersPlace a)
  pub evaluate : (p : List ℕ) (v d : List Float) → Agree3 (Evaluated p v d)
  pub start : (p : List ℕ) (v d : List Float) → Agree3 (Started p v d)
  pub step : (p : List ℕ) (h : Float) (v d : List Float) → Agree3 (Stepped p h v d)

-- a text translated
pub record Translator : Type 0 where
  pub number : (a : Refusal) → Agree (TellsNumber a)
  pub count : (a : Refusal) → Agree (TellsCount a)
  pub translate : (text f p : List ℕ) → Agree3 (Translates text f p)
  pub translate_in_order : (text f p o : List ℕ) → Agree4 (TranslatesInOrder text f p o)
  pub names : (text f o : List ℕ) → Agree3 (NamesSlots text f o)

-- a verdict as text
pub record Listing : Type 0 where
  pub list : (text out : List ℕ) → Agree2 (Lists text out)

-- what other languages link
pub record Library : Type 0 where
  pub floesedge_translate : (text f p : List ℕ) → Agree3 (TranslatesFixed text f p)
  pub floesedge_names : (text f o : List ℕ) → Agree3 (NamesFixed text f o)
  pub floesedge_evaluate : (p : List ℕ) (v d : List Float) → Agree3 (EvaluatesFixed p v d)
  pub floesedge_start : (p : List ℕ) (v d : List Float) → Agree3 (StartsFixed p v d)
  pub floesedge_step : (p : List ℕ) (h : Float) (v d : List Float) → Agree3 (StepsFixed p h v d)

-- comparisons counted
pub record Counting : Type 0 where
  pub none : Agree CountsNone
  pub right : (t : Tally) (same : Bool) → Agree (CountsOne t same)
  pub number : (t : Tally) (got wanted : ℕ) → Agree (CountsNumber t got wanted)
  pub finish : (t : Tally) → Agree (Finishes t)
