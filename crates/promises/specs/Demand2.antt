-- Demand 2: a text without an earlier refusal is unsortable exactly if no order has every value set before use;
-- otherwise the order is the first of all such orders.
use Rattle.std.specs.Prelude.{ℕ, ◌≡◌, List, Result, Err, map, ◌↔◌}
use Rattle.sheet.specs.Sheet.{Fault}
use Rattle.blocks.specs.Units.{TextUnit}
use Rattle.model.specs.Faults.{GoodOrder}
use Rattle.model.specs.Text.{text_units, line_at}
use Rattle.model.specs.Orders.{NoOrder, NamesLoops, FirstOrder}
use Rattle.program.specs.Program.{program}
use Rattle.translator.specs.declared.Refusal.{Refusal}
use Rattle.translator.specs.declared.Refusal.TheVariants.{ModelFaults}
use Rattle.translator.specs.Verdict.{faulty, fitted, verdict_of, number_of}
use Rattle.translator.specs.Replies.{Answered, Programmed}

-- DEMAND 2, of a text with f and p bytes lent
pub record Decided (text : List ℕ) (f p : ℕ) : Type 0 where
  -- 7 exactly if there is no such order
  pub exactly : (number_of (verdict_of text f p) ≡ 7) ↔ NoOrder (text_units text)
  -- and then with these faults
  pub loops_named : NoOrder (text_units text)
      → (fs : List Fault) × (verdict_of text f p ≡ faulty 7 fs) × NamesLoops (text_units text) fs
  -- otherwise the program has its units in the first such order, unless it is too long
  pub ordered : (r : List ℕ) → GoodOrder (text_units text) r
      → (q : List ℕ) × FirstOrder (text_units text) q
      × (verdict_of text f p ≡ fitted p (program (text_units text) q) (map (line_at (text_units text)) q))
  -- there is only one such order
  pub one : (q r : List ℕ) → FirstOrder (text_units text) q → FirstOrder (text_units text) r → q ≡ r

-- DEMAND 2, FROM THE ENTRY: as a caller of the translator meets it, who lent f and p and finds the answer r, f' and p'
pub record DecidedFor (us : List TextUnit) (r : Result ℕ Refusal) (f' p p' : List ℕ) : Type 0 where
  pub exactly : ((k : ℕ) × (r ≡ Err (ModelFaults k))) ↔ NoOrder us
  pub loops_named : NoOrder us → (fs : List Fault) × NamesLoops us fs × Answered 7 fs r f' p p'
  pub ordered : (q : List ℕ) → GoodOrder us q
      → (first : List ℕ) × FirstOrder us first × Programmed (program us first) r p p'
