-- Any good order will do; and why the order must be good and a block whole.
use Prim.Native.Nat.{ℕ}
use mathlib.Core.Path.{◌≡◌, refl}
use mathlib.Core.List.{List}
use lib.ListN.{length}
use lib.Ieee.{of_bits, to_bits, add, round, units, size, climb, span, odd}
use Rattle.std.specs.Prelude.{Ok}
use Rattle.laws.specs.Lists.{concat_map, numbers}
use Rattle.laws.specs.Runs.{front_run}
use Rattle.bits.specs.Low.{low_bytes, low_word}
use Rattle.model.specs.Faults.{GoodOrder}
use Rattle.model.specs.Text.{text_units}
use Rattle.order.specs.Order.{Permutation}
use Rattle.records.specs.Fields.{by_kind, instr_within}
use Rattle.records.specs.Record.{Rec, rec_bytes, program_bytes, decode_at_within, decode_from_within, decoded}
use Rattle.records.specs.Record.{decoded_within}
use Rattle.translator.specs.Verdict.{translated, verdict_of}
use Rattle.translator.specs.Contract.{Translates, in_numbers}
use Rattle.translator.proofs.Verdicts.{by_number}
use Rattle.translator.proofs.Zero.{clear}
use Rattle.evaluator.specs.Judge.{good, any_open, answer, judge_from, judge}
use Rattle.evaluator.specs.Machine.{step, run}
use Rattle.floesedge.specs.declared.CVerdict.{CVerdict}
use Rattle.floesedge.specs.Contract.{TranslatesFixed}
use Rattle.meaning.specs.Faithful.{handed_on, Accepted}
use Rattle.meaning.specs.AnyOrder.{AnyOrder}
use Rattle.meaning.specs.ReSorted.{cut_behind, cut_statements, re_sorted, NoAgain, ReSorts}
use Rattle.meaning.proofs.AnyOrder as orders
use Rattle.meaning.proofs.ReSortedBytes as bytes
use Rattle.promises.specs.AnyOrder.{SortingNeeded, BlockWhole}
use Rattle.promises.proofs.Table.{computed}

-- ANY GOOD ORDER WILL DO. For verdict 0 and every permutation of the text's units, single statements and whole blocks,
-- with each after all it uses: the records by the same rules are a program that is accepted, and from every lent values
-- and derivatives evaluating, starting, stepping, and any number of steps leave the same answer, values and derivatives
-- as the text's own program, in every place
pub any_order : (text : List ℕ) (faults room : ℕ) (rs : List Rec) (ls : List ℕ)
    → verdict_of text faults room ≡ translated rs ls → (q : List ℕ) → GoodOrder (text_units text) q
    → AnyOrder text (program_bytes rs) q
any_order text faults room rs ls e = orders.any_order (clear text faults room rs ls e)

-- FROM THE ENTRY: of a text that `translate` translated, the lent program buffer cut to the count of records
pub any_order_for : (text f p : List ℕ) (k : ℕ) (f' p' : List ℕ) → Translates text f p (Ok k) f' p'
    → (q : List ℕ) → GoodOrder (text_units text) q → AnyOrder text (handed_on k p') q
any_order_for text f p k f' p' t =
    orders.any_by_answer text f p (in_numbers (Ok k) f' p') (by_number text f p (Ok k) t) refl

-- the same at the boundary to other languages
pub any_order_linked : (text f p : List ℕ) (r : CVerdict) (f' p' : List ℕ) → TranslatesFixed text f p r f' p'
    → r.number ≡ 0 → (q : List ℕ) → GoodOrder (text_units text) q → AnyOrder text (handed_on r.count p') q
any_order_linked text f p r f' p' t =
    orders.any_by_answer text f p (record { number = r.number; count = r.count; faults = f'; program = p' }) t

-- RE-SORTED. Of all bytes as a program: it is accepted and has no record of kind 15; its statements, each up to and
-- including its 13 or 14, are put into another order behind its constants and initials. If the judge takes the result,
-- it runs as before
pub re_sorted_holds : (p q : List ℕ) → Accepted p → NoAgain p → Permutation (length (cut_statements p)) q
    → judge (decoded (re_sorted q p)) ≡ answer 0 0 → ReSorts p q
re_sorted_holds = bytes.re_sorted_holds

-- THE ORDER MUST BE GOOD: with a statement before one that it uses the tank is refused
pub sorting_needed : SortingNeeded
sorting_needed = record { sorted = computed.5; early = computed.6 }

-- A BLOCK MUST BE WHOLE: the judge takes one that sets a name again also when it is taken apart, and yet it leaves
-- another value
pub block_whole : BlockWhole
unfolding program_bytes rec_bytes low_bytes low_word concat_map numbers front_run cut_behind re_sorted decode_at_within
    decode_from_within decoded_within instr_within by_kind judge_from good any_open run step of_bits to_bits add round
    units size climb span odd
block_whole = record { taken = refl; taken_apart = refl; whole = refl; apart = refl }
