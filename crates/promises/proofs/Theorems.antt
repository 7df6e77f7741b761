-- Every headline, by one citation, in the order of docs/THEOREMS.md. What each states is written out in the definitions
-- that its type names.
use Prim.Native.Nat.{ℕ, suc, ◌+◌, ◌-◌, ◌*◌, ◌^◌, ◌≤◌, ◌<◌}
use mathlib.Core.Path.{◌≡◌}
use mathlib.Core.Bool.{Bool, true, false}
use mathlib.Core.Logic.{◌↔◌}
use mathlib.Core.List.{List, [], ◌∷◌, ◌++◌, map, Memᴰ}
use lib.ListN.{length}
use lib.Ieee.{Float, nan, lt, le}
use Rattle.std.specs.Prelude.{Result, Ok}
use Rattle.limits.specs.Limits.{levels, stack_places, fault_room, program_room, name_bytes, slots as slot_count}
use Rattle.limits.specs.Before.{sizes_before, slots_before}
use Rattle.laws.specs.Every.{Every}
use Rattle.laws.specs.Text.{bytes}
use Rattle.deck.specs.Lines.{Line, lines_of}
use Rattle.tokens.specs.Number.{in_range}
use Rattle.tokens.specs.Symbol.{Symbol, number, name, key_of, symbol_named}
use Rattle.tokens.specs.Row.{row_of}
use Rattle.tokens.specs.Values.{RoundedOnce, NumberAt, Name}
use Rattle.drafts.specs.Tree.{Tree}
use Rattle.drafts.specs.Items.{postfix, peak}
use Rattle.grammar.specs.Grammar.{expr, Der}
use Rattle.grammar.specs.Meaning.{Front, Means, deepest}
use Rattle.sheet.specs.Sheet.{said}
use Rattle.sheet.specs.Reader.{sheet_of, faults_of, Faulted}
use Rattle.sheet.specs.Numbers.{faults_from, closed_of}
use Rattle.sheet.specs.StatementMeans.{StatementMeans}
use Rattle.blocks.specs.Units.{Inner, block, TextUnit}
use Rattle.blocks.specs.Said.{GroupedIn}
use Rattle.blocks.specs.Sound.{free_names}
use Rattle.order.specs.Order.{Permutation}
use Rattle.model.specs.Faults.{GoodOrder}
use Rattle.model.specs.Text.{text_units}
use Rattle.records.specs.Record.{Rec, program_bytes, decoded}
use Rattle.program.specs.Program.{instr_item}
use Rattle.translator.specs.declared.Refusal.{Refusal}
use Rattle.translator.specs.Verdict.{translated, verdict_within, verdict_of, number_of, translation}
use Rattle.translator.specs.Larger.{NotForSize}
use Rattle.translator.specs.Refusals.{Admitted, Unrefused}
use Rattle.translator.specs.Rules.{records_of, Exactly, Writes, NamesRule}
use Rattle.translator.specs.Contract.{reply, reply_of, verdict_in, Translates, NamesSlots}
use Rattle.translator.specs.Replies.{Answered, Unprogrammed, NoProgram, Convicts}
use Rattle.translator.proofs.Given as goal
use Rattle.translator.proofs.Replies as replies
use Rattle.evaluator.specs.Judge.{answer, judge}
use Rattle.evaluator.specs.Evaluate.{refusal, run_outcome, evaluated, started, stepped, RefusedUnwritten}
use Rattle.floesedge.specs.declared.CVerdict.{CVerdict}
use Rattle.floesedge.specs.Contract.{TranslatesFixed, NamesFixed}
use Rattle.meaning.specs.Statements.{slot_of, Solution}
use Rattle.meaning.specs.BlockFunction.{BlockFunction}
use Rattle.meaning.specs.Faithful.{handed_on, HasSlots, Accepted, Faithful}
use Rattle.meaning.specs.EverySlot.{EverySlot, RosterOf}
use Rattle.meaning.specs.AnyOrder.{AnyOrder}
use Rattle.meaning.specs.ReSorted.{cut_statements, re_sorted, NoAgain, ReSorts}
use Rattle.meaning.specs.MoreSlots.{LentAlike, MoreSlots}
use Rattle.meaning.specs.ReadSlots.{shapes, SameRead, SameWritten, ReadsStates}
use Rattle.meaning.specs.Depth.{highest, height_of}
use Rattle.meaning.proofs.Acceptance as acceptance
use Rattle.laws.proofs.Compares as compares
use Rattle.meaning.proofs.ReadSlots as slots
use Rattle.promises.specs.Table.{Trial, trials, shown, wanted, tank, deck as full_deck, loop, Plain}
use Rattle.promises.specs.Table.{number_for}
use Rattle.promises.specs.Demand2.{Decided, DecidedFor}
use Rattle.promises.specs.Demand3.{Change, Local, LocalFor}
use Rattle.promises.specs.Comments.{Commented, Unchanged, UnchangedFor}
use Rattle.promises.specs.InPlace.{InPlace, PlacedBy}
use Rattle.promises.specs.AnyOrder.{tank_sorted, tank_early, tank_judged, SortingNeeded, BlockWhole}
use Rattle.promises.specs.Before.{AsBefore, LinkedAsBefore}
use Rattle.promises.specs.Agreement as agree
use Rattle.promises.proofs.Table as table
use Rattle.promises.proofs.Demand1 as demand_one
use Rattle.promises.proofs.Demand2 as demand_two
use Rattle.promises.proofs.Demand3 as demand_three
use Rattle.promises.proofs.Comments as comments
use Rattle.promises.proofs.InPlace as places
use Rattle.promises.proofs.Grammar as rows
use Rattle.promises.proofs.Words as words
use Rattle.promises.proofs.WallLoss as wall
use Rattle.promises.proofs.EverySlot as named
use Rattle.promises.proofs.AnyOrder as any
use Rattle.promises.proofs.Before as before
use Rattle.promises.proofs.Stack as stack
use Rattle.promises.proofs.Agreement as agreement

-- ---- the table of tried texts

pub tried : map shown trials ≡ map wanted trials
tried = table.tried

pub each_trial : (t : Trial) → Memᴰ t trials → shown t ≡ wanted t
each_trial = table.each_trial

pub computed : (height_of (verdict_of full_deck fault_room program_room) ≡ stack_places)
    × (number_for (bytes tank) ≡ 0) × Plain (bytes tank) × (number_for loop ≡ 7) × Plain loop
    × (tank_judged tank_sorted ≡ answer 0 0) × (tank_judged tank_early ≡ answer 3 6)
computed = table.computed

-- ---- demand 1: refusals

pub exactly : (text : List ℕ) (f p : ℕ) → Exactly text f p
exactly = demand_one.exactly

pub writes : (text f p : List ℕ) → Writes text f p
writes = demand_one.writes

pub names_rule : (text f o : List ℕ) → NamesRule text f o
names_rule = demand_one.names_rule

pub unwritten : (p : List ℕ) (h : Float) (v d : List Float)
    → RefusedUnwritten v d (evaluated p v d) × RefusedUnwritten v d (started p v d)
    × RefusedUnwritten v d (stepped p h v d)
unwritten = demand_one.unwritten

-- ---- demand 2: sorting

pub decided : (text : List ℕ) (f p : ℕ) → Unrefused text f p → Decided text f p
decided = demand_two.decided

pub decided_for : (text f p f' p' : List ℕ) (r : Result ℕ Refusal) → Translates text f p r f' p'
    → Unrefused text (length f) (length p) → DecidedFor (text_units text) r f' p p'
decided_for = demand_two.decided_for

pub tank_unrefused : Unrefused (bytes tank) fault_room program_room
tank_unrefused = demand_two.tank_unrefused

pub loop_unrefused : Unrefused loop fault_room program_room
loop_unrefused = demand_two.loop_unrefused

-- ---- demand 3: a change stays local

pub local : (pre old new post : List Line) (a b : List ℕ) → Change pre old new post a b → Local pre old new post a b
local = demand_three.local

pub local_for : (pre old new post : List Line) (a b : List ℕ) → Change pre old new post a b
    → (f p g s : List ℕ) → fault_room ≤ length f → fault_room ≤ length g
    → Admitted (verdict_of a (length f) (length p)) → Admitted (verdict_of b (length g) (length s))
    → Faulted a → Faulted b
    → (r t : Result ℕ Refusal) (f' p' g' s' : List ℕ) → Translates a f p r f' p' → Translates b g s t g' s'
    → LocalFor pre old new post a b r f' p p' t g' s s'
local_for = demand_three.local_for

pub no_program : (text f p : List ℕ) → Faulted text → NoProgram text f p
no_program = replies.no_program

pub convicts : (text : List ℕ) → Convicts text
convicts = replies.convicts

pub five_exactly : (text : List ℕ) (f p : ℕ) → fault_room ≤ f → Admitted (verdict_of text f p)
    → (number_of (verdict_of text f p) ≡ 5) ↔ Faulted text
five_exactly = goal.five_exactly

pub unprogrammed : (text f p f' p' : List ℕ) (r : Result ℕ Refusal) → Faulted text → Translates text f p r f' p'
    → Unprogrammed r p p'
unprogrammed = replies.unprogrammed

pub answered : (text f p f' p' : List ℕ) (r : Result ℕ Refusal) → fault_room ≤ length f
    → Admitted (verdict_of text (length f) (length p)) → Faulted text → Translates text f p r f' p'
    → Answered 5 (faults_of text) r f' p p'
answered = replies.answered

pub both_faulted : (pre old new post : List Line) (a b : List ℕ) → Change pre old new post a b
    → (faults_from (closed_of pre) ≡ [] → ⊥) → Faulted a × Faulted b
both_faulted = demand_three.both_faulted

pub both_convicted : (pre old new post : List Line) (a b : List ℕ) → Change pre old new post a b
    → (faults_from (closed_of pre) ≡ [] → ⊥) → (f p : List ℕ) → fault_room ≤ length f
    → Admitted (verdict_of a (length f) (length p)) → Admitted (verdict_of b (length f) (length p))
    → ((translation a f p).number ≡ 5) × ((translation b f p).number ≡ 5)
both_convicted = demand_three.both_convicted

pub whole_lines : (pre old new post : List ℕ)
    → Change (lines_of (pre ++ (10 ∷ []))) (lines_of (old ++ (10 ∷ []))) (lines_of (new ++ (10 ∷ []))) (lines_of post)
    (pre ++ (10 ∷ (old ++ (10 ∷ post)))) (pre ++ (10 ∷ (new ++ (10 ∷ post))))
whole_lines = demand_three.whole_lines

pub append_a_card : (x : List ℕ) (last : ℕ) (cards : List ℕ) → (last ≡ 10 → ⊥)
    → Change (lines_of (x ++ (last ∷ []))) [] (lines_of cards) [] (x ++ (last ∷ []))
    ((x ++ (last ∷ [])) ++ (10 ∷ cards))
append_a_card = demand_three.append_a_card

pub a_card_appended : Change (bytes "A=1" ∷ bytes "B=2" ∷ []) [] (bytes "C=3" ∷ []) [] (bytes "A=1\nB=2")
    (bytes "A=1\nB=2\nC=3")
a_card_appended = demand_three.a_card_appended

-- ---- comments change nothing

pub unchanged : (pre : List Line) (c : Line) (post : List Line) (a b : List ℕ) → Commented pre c post a b
    → (f p : ℕ) → Admitted (verdict_of a f p) → Admitted (verdict_of b f p)
    → Unchanged (length pre) a b f p
unchanged = comments.unchanged

pub unchanged_for : (pre : List Line) (c : Line) (post : List Line) (a b : List ℕ) → Commented pre c post a b
    → (f p g s : List ℕ) → length g ≡ length f → length s ≡ length p
    → Admitted (verdict_of a (length f) (length p)) → Admitted (verdict_of b (length f) (length p))
    → (r t : Result ℕ Refusal) (f' p' g' s' : List ℕ) → Translates a f p r f' p' → Translates b g s t g' s'
    → UnchangedFor (length pre) r f p f' p' t g s g' s'
unchanged_for = comments.unchanged_for

pub comment_first : (c : List ℕ) → Every (λ (x : ℕ). x ≡ 10 → ⊥) c → (post : List ℕ)
    → Commented [] (42 ∷ c) (lines_of post) post ((42 ∷ c) ++ (10 ∷ post))
comment_first = comments.comment_first

pub comment_between : (c : List ℕ) → Every (λ (x : ℕ). x ≡ 10 → ⊥) c → (pre post : List ℕ)
    → Commented (lines_of (pre ++ (10 ∷ []))) (42 ∷ c) (lines_of post) (pre ++ (10 ∷ post))
    (pre ++ (10 ∷ ((42 ∷ c) ++ (10 ∷ post))))
comment_between = comments.comment_between

pub comment_last : (c : List ℕ) → Every (λ (x : ℕ). x ≡ 10 → ⊥) c → (x : List ℕ) (last : ℕ) → (last ≡ 10 → ⊥)
    → Commented (lines_of (x ++ (last ∷ []))) (42 ∷ c) [] (x ++ (last ∷ []))
    ((x ++ (last ∷ [])) ++ (10 ∷ ((42 ∷ c) ++ (10 ∷ []))))
comment_last = comments.comment_last

-- ---- the place is in the statement

pub in_place : (text : List ℕ) → InPlace text
in_place = places.in_place

pub in_place_for : (text f p f' p' : List ℕ) (r : Result ℕ Refusal) → Translates text f p r f' p'
    → PlacedBy text (verdict_in r) f f'
in_place_for = places.in_place_for

-- ---- the grammar

pub means : (row : List Symbol) → Means row
means = rows.means

pub statement_means : (lines : List Line) (closed : Bool) → StatementMeans lines closed
statement_means = rows.statement_means

pub exception : Front (suc levels) (deepest levels) × (Front levels (deepest levels) → ⊥)
exception = rows.exception

-- ---- numbers and names

pub rounded_once : (m up down : ℕ) → in_range m up down ≡ true → RoundedOnce m up down
rounded_once = words.rounded_once

pub row_values : (s : List ℕ) (at : ℕ) (x : Float) → Memᴰ (record { symbol = number x; at = at }) (row_of s).tokens
    → NumberAt s at x
row_values = words.row_values

pub key_iff : (x y : List ℕ) → Name x → Name y → (key_of x ≡ key_of y) ↔ (x ≡ y)
key_iff = words.key_iff

pub name_iff : (x y : List ℕ) (j k : ℕ) → Name x → Name y → symbol_named x ≡ name j → symbol_named y ≡ name k
    → (j ≡ k) ↔ (x ≡ y)
name_iff = words.name_iff

pub key_small : (x : List ℕ) → Name x → key_of x < 256 ^ name_bytes
key_small = words.key_small

-- ---- the wall loss

pub wall_loss : (text : List ℕ) (faults room : ℕ) (rs : List Rec) (ls : List ℕ)
    → verdict_of text faults room ≡ translated rs ls → Faithful text (program_bytes rs)
wall_loss = wall.wall_loss

pub translated_text : (text f p : List ℕ) (k : ℕ) (f' p' : List ℕ) → Translates text f p (Ok k) f' p'
    → Faithful text (handed_on k p')
translated_text = wall.translated_text

pub linked_text : (text f p : List ℕ) (r : CVerdict) (f' p' : List ℕ) → TranslatesFixed text f p r f' p' → r.number ≡ 0
    → Faithful text (handed_on r.count p')
linked_text = wall.linked_text

pub statements_kept : (text : List ℕ) (faults room : ℕ) (rs : List Rec) (ls : List ℕ)
    → verdict_of text faults room ≡ translated rs ls → GroupedIn (text_units text) (said (sheet_of text))
statements_kept = wall.statements_kept

pub block_is_function : (text : List ℕ) (faults room : ℕ) (rs : List Rec) (ls : List ℕ)
    → verdict_of text faults room ≡ translated rs ls
    → (u : TextUnit) → Memᴰ u (text_units text) → (os is : List ℕ) (ns : List Inner) (z : ℕ)
    → u.body ≡ block os is ns z
    → BlockFunction (slot_of (text_units text)) (free_names (text_units text)) is ns
block_is_function = wall.block_is_function

pub solutions_alike : (text program : List ℕ) → Faithful text program
    → (v d w e : List Float) → HasSlots v d → HasSlots w e → SameRead (shapes program) v w
    → (v₁ d₁ w₁ e₁ : List Float) → Solution (text_units text) v d v₁ d₁ → Solution (text_units text) w e w₁ e₁
    → SameWritten (shapes program) (run_outcome (answer 0 0) v₁ d₁) (run_outcome (answer 0 0) w₁ e₁)
solutions_alike = wall.solutions_alike

pub reads_states : (p : List ℕ) (v d w e : List Float) → refusal p v d ≡ answer 0 0 → refusal p w e ≡ answer 0 0
    → SameRead (shapes p) v w → ReadsStates p v d w e
reads_states = slots.reads_states

pub nan_compares : (x : Float) → (lt nan x ≡ false) × (lt x nan ≡ false) × (le nan x ≡ false) × (le x nan ≡ false)
nan_compares = compares.nan_compares

-- ---- every slot has its name

pub every_slot : (text : List ℕ) (faults room : ℕ) (rs : List Rec) (ls : List ℕ)
    → verdict_of text faults room ≡ translated rs ls → EverySlot text rs
every_slot = named.every_slot

pub named_slots : (text f o : List ℕ) (k : ℕ) (f' o' : List ℕ) → NamesSlots text f o (Ok k) f' o'
    → RosterOf text k o' × EverySlot text (records_of text)
named_slots = named.named_slots

pub linked_names : (text f o : List ℕ) (r : CVerdict) (f' o' : List ℕ) → NamesFixed text f o r f' o' → r.number ≡ 0
    → RosterOf text r.count o' × EverySlot text (records_of text)
linked_names = named.linked_names

-- ---- any good order

pub any_order : (text : List ℕ) (faults room : ℕ) (rs : List Rec) (ls : List ℕ)
    → verdict_of text faults room ≡ translated rs ls → (q : List ℕ) → GoodOrder (text_units text) q
    → AnyOrder text (program_bytes rs) q
any_order = any.any_order

pub any_order_for : (text f p : List ℕ) (k : ℕ) (f' p' : List ℕ) → Translates text f p (Ok k) f' p'
    → (q : List ℕ) → GoodOrder (text_units text) q → AnyOrder text (handed_on k p') q
any_order_for = any.any_order_for

pub any_order_linked : (text f p : List ℕ) (r : CVerdict) (f' p' : List ℕ) → TranslatesFixed text f p r f' p'
    → r.number ≡ 0 → (q : List ℕ) → GoodOrder (text_units text) q → AnyOrder text (handed_on r.count p') q
any_order_linked = any.any_order_linked

pub re_sorted_holds : (p q : List ℕ) → Accepted p → NoAgain p → Permutation (length (cut_statements p)) q
    → judge (decoded (re_sorted q p)) ≡ answer 0 0 → ReSorts p q
re_sorted_holds = any.re_sorted_holds

pub sorting_needed : SortingNeeded
sorting_needed = any.sorting_needed

pub block_whole : BlockWhole
block_whole = any.block_whole

-- ---- programs and texts from before

pub old_programs : (p : List ℕ) → MoreSlots slots_before slot_count p
old_programs = before.old_programs

pub old_programs_for : (p : List ℕ) (v d w e : List Float) → LentAlike slots_before slot_count p v d w e
    → AsBefore p v d w e
old_programs_for = before.old_programs_for

pub old_programs_linked : (p : List ℕ) (v d w e : List Float) → LentAlike slots_before slot_count p v d w e
    → LinkedAsBefore p v d w e
old_programs_linked = before.old_programs_linked

pub old_texts : (text : List ℕ) (f g room : ℕ) → NotForSize (verdict_within sizes_before text f room) → fault_room ≤ g
    → verdict_of text g room ≡ verdict_within sizes_before text f room
old_texts = before.old_texts

pub old_program_kept : (text : List ℕ) (f g room : ℕ) (rs : List Rec) (ls : List ℕ)
    → verdict_within sizes_before text f room ≡ translated rs ls → fault_room ≤ g
    → verdict_of text g room ≡ translated rs ls
old_program_kept = before.old_program_kept

pub old_texts_for : (text g p : List ℕ) (f : ℕ) (r : Result ℕ Refusal) (g' p' : List ℕ)
    → NotForSize (verdict_within sizes_before text f (length p)) → fault_room ≤ length g → Translates text g p r g' p'
    → reply r g' p' ≡ reply_of (verdict_within sizes_before text f (length p)) g p
old_texts_for = before.old_texts_for

-- ---- acceptance

pub accepted : (text : List ℕ) (faults room : ℕ) (rs : List Rec) (ls : List ℕ)
    → verdict_of text faults room ≡ translated rs ls → judge (decoded (program_bytes rs)) ≡ answer 0 0
accepted = acceptance.accepted

-- ---- the stack

pub depth : (d : ℕ) (w : List Symbol) (e : Tree) → Der expr (levels - d) w e → peak e ≤ 3 + 4 * (levels - d)
depth = stack.depth

pub depth_height : (d : ℕ) (w : List Symbol) (e : Tree) (slot : ℕ → ℕ) → Der expr (levels - d) w e
    → highest 0 (map (instr_item slot) (postfix e)) ≤ 3 + 4 * (levels - d)
depth_height = stack.depth_height

pub enough : (text : List ℕ) (f p : ℕ) → height_of (verdict_of text f p) ≤ stack_places
enough = stack.enough

pub filled : height_of (verdict_of full_deck fault_room program_room) ≡ stack_places
filled = stack.filled

-- ---- agreement, crate by crate

pub bits : agree.Bits
bits = agreement.bits

pub deck : agree.Deck
deck = agreement.deck

pub tokens : agree.Tokens
tokens = agreement.tokens

pub drafts : agree.Drafts
drafts = agreement.drafts

pub grammar : agree.Grammar
grammar = agreement.grammar

pub order : agree.Order
order = agreement.order

pub records : agree.Records
records = agreement.records

pub sheet : agree.Sheets
sheet = agreement.sheet

pub blocks : agree.Blocks
blocks = agreement.blocks

pub model : agree.Model
model = agreement.model

pub programs : agree.Program
programs = agreement.programs

pub evaluator : agree.Evaluator
evaluator = agreement.evaluator

pub translator : agree.Translator
translator = agreement.translator

pub listing : agree.Listing
listing = agreement.listing

pub library : agree.Library
library = agreement.library

pub counting : agree.Counting
counting = agreement.counting
