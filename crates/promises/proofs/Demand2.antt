-- Demand 2: a text without an earlier refusal is unsortable exactly if no order has every value set before use;
-- otherwise the order is the first of all such orders.
use Prim.Native.Nat.{ℕ}
use mathlib.Core.Path.{sym, ap, ◌∙◌}
use mathlib.Core.Logic.{inl, inr}
use mathlib.Core.List.{List, map}
use native.Mathlib.Omega.{arith}
use lib.ListN.{length}
use Rattle.std.specs.Prelude.{Result, Err}
use Rattle.laws.specs.Text.{bytes}
use Rattle.limits.specs.Limits.{fault_room, program_room}
use Rattle.sheet.specs.Sheet.{Fault}
use Rattle.model.specs.Faults.{faults24, order_of}
use Rattle.model.specs.Text.{text_units, line_at}
use Rattle.model.specs.Orders.{NoOrder, NamesLoops}
use Rattle.model.proofs.Orders.{names_loops, one_order, text_first}
use Rattle.program.specs.Program.{program}
use Rattle.translator.specs.declared.Refusal.{Refusal}
use Rattle.translator.specs.declared.Refusal.TheVariants.{ModelFaults}
use Rattle.translator.specs.Verdict.{number_of, Translation, translation}
use Rattle.translator.specs.Contract.{number_in, Translates}
use Rattle.translator.specs.Refusals.{Unrefused}
use Rattle.translator.specs.Replies.{Answered}
use Rattle.translator.proofs.Verdicts.{by_number, verdict_whole}
use Rattle.translator.proofs.Given.{fitted_number, unordered, in_order_holds, unrefused}
use Rattle.translator.proofs.Replies.{faults_answered, records_written}
use Rattle.promises.specs.Table.{tank, loop}
use Rattle.promises.specs.Demand2.{Decided, DecidedFor}
use Rattle.promises.proofs.Table.{computed}

module _ (text : List ℕ) (f p : ℕ) (w : Unrefused text f p) where
  -- DEMAND 2
  pub decided : Decided text f p
  decided =
      let us = text_units text in
      record {
        exactly = (
          λ e q g. fitted_number p (program us (order_of us)) (map (line_at us) (order_of us))
              (sym (ap number_of (in_order_holds text f p w q g)) ∙ e),
          λ none. ap number_of (unordered text f p w none),
        );
        loops_named = λ none. (faults24 us, unordered text f p w none, names_loops us);
        ordered = λ r g. (
          order_of us,
          text_first text r g,
          in_order_holds text f p w r g,
        );
        one = one_order text;
      }

-- DEMAND 2, FROM THE ENTRY
pub decided_for : (text f p f' p' : List ℕ) (r : Result ℕ Refusal) → Translates text f p r f' p'
    → Unrefused text (length f) (length p) → DecidedFor (text_units text) r f' p p'
unfolding translation
decided_for text f p f' p' r t w =
    let d = decided text (length f) (length p) w in
    let us = text_units text in
    let named : NoOrder us → (fs : List Fault) × NamesLoops us fs × Answered 7 fs r f' p p' =
    λ none.
    let l = d.loops_named none in
    (l.0, l.2, faults_answered text f p f' p' r t 7 l.0 w.room l.1) in
    record {
      exactly = (
        λ e. d.exactly.0 (sym (ap (λ (z : Translation). z.number) (by_number text f p r t)) ∙ ap number_in e.1),
        λ none. let l = named none in (length l.0, verdict_whole {s = Err (ModelFaults (length l.0))} l.2.answer),
      );
      loops_named = named;
      ordered = λ q g.
          let o = d.ordered q g in
          (o.0, o.1, records_written text f p f' p' r t (program us o.0) (map (line_at us) o.0) o.2);
    }

-- DEMAND 2 SPEAKS of the tank, which is sorted
pub tank_unrefused : Unrefused (bytes tank) fault_room program_room
tank_unrefused =
    unrefused (bytes tank) fault_room program_room (omega arith) (inl computed.1) computed.2.0 computed.2.1
    computed.2.2

-- and of a loop, which is not
pub loop_unrefused : Unrefused loop fault_room program_room
loop_unrefused =
    unrefused loop fault_room program_room (omega arith) (inr computed.3) computed.4.0 computed.4.1
    computed.4.2
