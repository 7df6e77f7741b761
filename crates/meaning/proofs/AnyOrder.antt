-- Any good order will do: of a text with verdict 0, programs with its units in good orders run alike.
use Prim.Native.Nat.{ℕ}
use mathlib.Core.Path.{◌≡◌, refl, sym, subst, ◌∙◌}
use mathlib.Core.List.{List}
use lib.ListN.{length}
use lib.Ieee.{Float}
use Rattle.blocks.specs.Units.{TextUnit}
use Rattle.model.specs.Faults.{GoodOrder, order_of}
use Rattle.model.specs.Text.{text_units}
use Rattle.records.specs.Record.{Rec, program_bytes}
use Rattle.evaluator.specs.Evaluate.{ran}
use Rattle.translator.specs.Verdict.{Translation, translation}
use Rattle.translator.proofs.Zero.{Clear, clear, zero_translated}
use Rattle.meaning.specs.Faithful.{handed_on, HasSlots}
use Rattle.meaning.specs.RunsAlike.{RunsAlike}
use Rattle.meaning.specs.AnyOrder.{program_in, AnyOrder}
use Rattle.meaning.proofs.Acceptance.{once, ordered, read_back, not_refused, cut_back}
use Rattle.meaning.proofs.States.{all_program}
use Rattle.meaning.proofs.Faithful.{one, ran_solves, faithful_in}
use Rattle.meaning.proofs.RunsAlike.{SameEnds, SameStates, runs_alike}

module _ {text : List ℕ} {room : ℕ} {rs : List Rec} (c : Clear text room rs) where
  abbrev us : List TextUnit
  us = text_units text

  -- ---- two good orders
  module _ (q r : List ℕ) (g : GoodOrder us q) (h : GoodOrder us r) where
    -- both runs leave the one solution
    run_same : (v d : List Float) → HasSlots v d → SameEnds (ran (program_in text q) v d) (ran (program_in text r) v d)
    run_same v d roomy =
        let e = one c v d _ _ _ _ (ran_solves c q g v d roomy) (ran_solves c r h v d roomy) in
        record { values = e.0; derivs = e.1 }

    -- the initials are the same
    states_same : SameStates (program_in text q) (program_in text r)
    states_same to v lv =
        rw (read_back c q g, read_back c r h)
        (all_program to us (once c) c.few q v lv ∙ sym (all_program to us (once c) c.few r v lv))

    -- so they run alike
    orders_alike : RunsAlike (program_in text q) (program_in text r)
    orders_alike =
        runs_alike (program_in text q) (program_in text r) (not_refused c q g) (not_refused c r h) run_same states_same

  -- ANY GOOD ORDER
  pub any_order : (q : List ℕ) → GoodOrder us q → AnyOrder text (program_bytes rs) q
  any_order q g =
      record {
        accepted = not_refused c q g;
        alike =
            subst (λ (x : List Rec). RunsAlike (program_bytes x) (program_in text q)) (sym c.written)
            (orders_alike (order_of us) q (ordered c) g);
        faithful = faithful_in c q g;
      }

-- ---- from a translation

-- the same of an answer by number and count
pub any_by_answer : (text f p : List ℕ) (t : Translation) → t ≡ translation text f p → t.number ≡ 0 → (q : List ℕ)
    → GoodOrder (text_units text) q → AnyOrder text (handed_on t.count t.program) q
unfolding translation
any_by_answer text f p t e z q g =
    let r = zero_translated text (length f) (length p) (rw e at z) in
    let c = clear text (length f) (length p) r.0 r.1 r.2 in
    rw (e, r.2, cut_back c p refl) (any_order c q g)
