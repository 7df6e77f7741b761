-- The table of tried texts, by computation.
use mathlib.Core.Path.{◌≡◌, refl}
use mathlib.Core.List.{map, Memᴰ}
use lib.Ieee.{of_bits, of_int, mul, div, neg, round, units, size, climb, span, odd}
use Rattle.laws.specs.Text.{bytes}
use Rattle.laws.specs.Lists.{concat_map, same_bytes, numbers}
use Rattle.laws.specs.Runs.{front_run}
use Rattle.laws.specs.Counts.{count}
use Rattle.laws.proofs.EachMember.{at_mem}
use Rattle.limits.specs.Limits.{fault_room, program_room, stack_places}
use Rattle.bits.specs.Low.{low_word}
use Rattle.deck.specs.Lines.{lines_of, trimmed, dotted, passed}
use Rattle.deck.specs.Reading.{cards_of, after, ended, left, reading}
use Rattle.deck.specs.Joined.{line_part, joined}
use Rattle.deck.specs.Faults.{any_long, size_flaw}
use Rattle.deck.specs.Spots.{byte_spot, last_spot}
use Rattle.tokens.specs.Number.{decimal, digits_from, exponent_from, ten_to, scaled, ranged_number as token_of}
use Rattle.tokens.specs.Token.{number_cut, name_at, token_at, cut_at}
use Rattle.tokens.specs.Symbol.{look_up, symbol_named}
use Rattle.tokens.specs.Row.{row_from, row_of}
use Rattle.drafts.specs.Tree.{names}
use Rattle.drafts.specs.Items.{postfix}
use Rattle.grammar.specs.Look.{next, rest, byte_of, give_to, factor_start, start_of}
use Rattle.grammar.specs.Parser.{bind, parse, by_signed_number, many, initially, assigned, integrated, many_names}
use Rattle.grammar.specs.Parser.{headed}
use Rattle.grammar.specs.Parser.{statement, entire, read_row}
use Rattle.sheet.specs.Reader.{cards_told, told, sheet_of}
use Rattle.order.specs.Order.{any, chained}
use Rattle.order.specs.Greedy.{all, first, ready, least_ready, place, order}
use Rattle.model.specs.Definitions.{place_in}
use Rattle.blocks.specs.Tests.{again, within}
use Rattle.blocks.specs.Pairing.{pairs_from, nested, faults25_from}
use Rattle.blocks.specs.Inside.{set_inside, faults26_from, block_faults}
use Rattle.blocks.specs.Members.{units_from}
use Rattle.model.specs.Faults.{faults21, meets, model_faults}
use Rattle.program.specs.Program.{value_in, program}
use Rattle.translator.specs.Verdict.{decided_within, verdict_of, verdict_within}
use Rattle.listing_text.specs.Listing.{figures_in, listing_of, listing}
use Rattle.evaluator.specs.Judge.{good, any_open, answer, judge_from}
use Rattle.meaning.specs.Depth.{highest, height_of}
use Rattle.promises.specs.AnyOrder.{tank_sorted, tank_early, tank_judged}
use Rattle.promises.specs.Table.{Trial, trials, shown, wanted, tank, deck, loop, Plain, number_for}

-- THE TABLE. Each text has the verdict and the listing that stand beside it
pub tried : map shown trials ≡ map wanted trials
unfolding trials listing listing_of figures_in verdict_within decided_within lines_of trimmed dotted passed cards_of
    after ended left reading line_part joined any_long size_flaw byte_spot last_spot cards_told told sheet_of
    concat_map same_bytes numbers front_run count low_word decimal digits_from exponent_from ten_to scaled token_of
    number_cut name_at token_at cut_at
    look_up symbol_named row_from row_of
    names postfix next rest byte_of give_to factor_start start_of bind parse by_signed_number many initially assigned
    integrated many_names headed statement entire read_row
    any chained all first ready least_ready place order place_in again faults21 within meets model_faults value_in
    program pairs_from nested faults25_from set_inside faults26_from block_faults units_from of_bits
    of_int mul div neg round
    units size climb span odd
tried = refl

-- trial by trial
pub each_trial : (r : Trial) → Memᴰ r trials → shown r ≡ wanted r
each_trial = at_mem shown wanted trials tried

-- FURTHER TEXTS, in one computation: the deck fills the stack, the tank is sorted, the loop is not; and of the tank one
-- more order is good, and one is not
pub computed : (height_of (verdict_of deck fault_room program_room) ≡ stack_places)
    × (number_for (bytes tank) ≡ 0) × Plain (bytes tank)
    × (number_for loop ≡ 7) × Plain loop
    × (tank_judged tank_sorted ≡ answer 0 0) × (tank_judged tank_early ≡ answer 3 6)
unfolding highest judge_from good any_open verdict_within decided_within lines_of trimmed dotted passed cards_of after
    ended left reading line_part joined
    any_long size_flaw cards_told told sheet_of concat_map
    same_bytes numbers front_run count low_word decimal digits_from exponent_from ten_to scaled token_of number_cut
    name_at token_at cut_at
    look_up symbol_named row_from row_of names
    postfix next rest byte_of give_to factor_start start_of bind parse by_signed_number many initially assigned
    integrated many_names headed statement entire read_row any chained
    all first ready least_ready place order place_in again faults21 within meets model_faults value_in program
    pairs_from nested faults25_from set_inside faults26_from block_faults units_from of_bits of_int mul
    div neg round units size climb
    span odd
computed = (refl, refl, (refl, refl, refl), refl, (refl, refl, refl), refl, refl)
