-- The wall loss: no statement is lost between the text and what a night run works out.
use Prim.Native.Nat.{ℕ}
use mathlib.Core.Path.{◌≡◌, refl}
use mathlib.Core.List.{List, Memᴰ}
use lib.Ieee.{Float}
use Rattle.std.specs.Prelude.{Ok}
use Rattle.records.specs.Record.{Rec, program_bytes}
use Rattle.translator.specs.Verdict.{translated, verdict_of}
use Rattle.translator.specs.Contract.{Translates, in_numbers}
use Rattle.translator.proofs.Verdicts.{by_number}
use Rattle.evaluator.specs.Judge.{answer}
use Rattle.evaluator.specs.Contract.{answer_in}
use Rattle.evaluator.specs.Evaluate.{refusal, evaluated, evaluated_within, run_outcome}
use Rattle.floesedge.specs.declared.CVerdict.{CVerdict}
use Rattle.floesedge.specs.Contract.{TranslatesFixed}
use Rattle.meaning.specs.Statements.{slot_of, Solution}
use Rattle.meaning.specs.BlockFunction.{BlockFunction}
use Rattle.meaning.specs.ReadSlots.{shapes, SameRead, SameWritten}
use Rattle.sheet.specs.Sheet.{said}
use Rattle.sheet.specs.Reader.{sheet_of}
use Rattle.blocks.specs.Units.{Inner, block, TextUnit}
use Rattle.blocks.specs.Said.{GroupedIn}
use Rattle.blocks.specs.Sound.{free_names}
use Rattle.blocks.proofs.BlocksShaped.{shaped_text}
use Rattle.blocks.proofs.UnitsStated.{stated_back}
use Rattle.model.specs.Text.{text_units}
use Rattle.meaning.specs.Faithful.{handed_on, HasSlots, Faithful}
use Rattle.translator.proofs.Zero.{clear}
use Rattle.meaning.proofs.Acceptance.{block_functions}
use Rattle.meaning.proofs.Faithful.{faithful, by_answer}
use Rattle.meaning.proofs.ReadSlots as slots

-- THE WALL LOSS THEOREM. For verdict 0 the program is accepted; evaluating it leaves in each constant's slot its value,
-- in each assigned slot the value of its expression over the final values and TIME, in each state's derivative the
-- value of its expression over them, in a block's slots what its assignments leave when carried out one after the other
-- over the final values, and no other place changes; starting and stepping go by the statements likewise; there is one
-- solution; and each statement of the reading has its records
pub wall_loss : (text : List ℕ) (faults room : ℕ) (rs : List Rec) (ls : List ℕ)
    → verdict_of text faults room ≡ translated rs ls → Faithful text (program_bytes rs)
wall_loss text faults room rs ls e = faithful (clear text faults room rs ls e)

-- FROM ENTRY TO ENTRY: of a text that `translate` translated, the lent program buffer cut to the count of records
pub translated_text : (text f p : List ℕ) (k : ℕ) (f' p' : List ℕ) → Translates text f p (Ok k) f' p'
    → Faithful text (handed_on k p')
translated_text text f p k f' p' t =
    by_answer text f p (in_numbers (Ok k) f' p') (by_number text f p (Ok k) t) refl

-- the same at the boundary to other languages
pub linked_text : (text f p : List ℕ) (r : CVerdict) (f' p' : List ℕ) → TranslatesFixed text f p r f' p' → r.number ≡ 0
    → Faithful text (handed_on r.count p')
linked_text text f p r f' p' t z =
    by_answer text f p (record { number = r.number; count = r.count; faults = f'; program = p' }) t z

-- EACH STATEMENT of a text that is translated stands in one unit, in the order of the text, and no other does
pub statements_kept : (text : List ℕ) (faults room : ℕ) (rs : List Rec) (ls : List ℕ)
    → verdict_of text faults room ≡ translated rs ls → GroupedIn (text_units text) (said (sheet_of text))
statements_kept text faults room rs ls e =
    let ss = said (sheet_of text) in
    stated_back ss (shaped_text ss (clear text faults room rs ls e).unblocked)

-- A BLOCK IS A FUNCTION: what it leaves in its names hangs on its inputs, on the constants and states that it names,
-- and
-- on TIME alone
pub block_is_function : (text : List ℕ) (faults room : ℕ) (rs : List Rec) (ls : List ℕ)
    → verdict_of text faults room ≡ translated rs ls
    → (u : TextUnit) → Memᴰ u (text_units text) → (os is : List ℕ) (ns : List Inner) (z : ℕ)
    → u.body ≡ block os is ns z
    → BlockFunction (slot_of (text_units text)) (free_names (text_units text)) is ns
block_is_function = block_functions

-- what evaluating an accepted program leaves is without refusal
accepted_run : (p : List ℕ) (v d : List Float) → refusal p v d ≡ answer 0 0
    → run_outcome (answer_in (Ok tt)) (evaluated p v d).values (evaluated p v d).derivs ≡ evaluated p v d
unfolding evaluated_within
accepted_run p v d e = rw e

-- A SOLUTION HANGS ON TIME AND THE STATES ALONE: evaluating leaves a solution, there is no other from the same start,
-- and what evaluating leaves hangs on no more of the start than that (`reads_states`). So solutions from two starts
-- that agree there agree in each constant, each assigned slot and each derivative of a state
pub solutions_alike : (text program : List ℕ) → Faithful text program
    → (v d w e : List Float) → HasSlots v d → HasSlots w e → SameRead (shapes program) v w
    → (v₁ d₁ w₁ e₁ : List Float) → Solution (text_units text) v d v₁ d₁ → Solution (text_units text) w e w₁ e₁
    → SameWritten (shapes program) (run_outcome (answer 0 0) v₁ d₁) (run_outcome (answer 0 0) w₁ e₁)
solutions_alike text program t v d w e hv hw r v₁ d₁ w₁ e₁ y z =
    let a = t.evaluates v d hv (Ok tt) _ _ (record { meets = accepted_run program v d (t.accepted v d hv) }) in
    let b = t.evaluates w e hw (Ok tt) _ _ (record { meets = accepted_run program w e (t.accepted w e hw) }) in
    let first = t.one_solution v d v₁ d₁ _ _ y a.solved in
    let second = t.one_solution w e w₁ e₁ _ _ z b.solved in
    let both = slots.reads_states program v d w e (t.accepted v d hv) (t.accepted w e hw) r in
    rw (first.0, first.1, second.0, second.1)
    (record { values = both.alike.values; derivs = both.alike.derivs })
