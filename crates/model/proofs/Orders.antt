-- Orders of a text's units: the faults 24 name exactly those from which a chain of n + 1 starts, none where some
-- order is good; and the first order is one.
use Prim.Native.Nat.{ℕ, ◌<◌}
use mathlib.Core.Path.{◌≡◌, refl, sym, ap₂, ◌∙◌}
use mathlib.Core.Bool.{Bool, true, false}
use mathlib.Core.Logic.{⊎_elim}
use mathlib.Core.List.{List, [], ◌∷◌, map}
use native.Mathlib.Omega.{arith}
use Rattle.laws.specs.Counts.{count}
use Rattle.laws.specs.Places.{only_if}
use Rattle.laws.proofs.Tests.{lt_or_ge}
use Rattle.laws.proofs.Counts.{once_same}
use Rattle.laws.proofs.Gathers.{gather_none, gather_same}
use Rattle.laws.proofs.Along.{gather_numbers, map_gather}
use Rattle.laws.proofs.Members.{Below}
use Rattle.laws.proofs.Chosen.{chosen, chosen_rises, chosen_passes, chosen_all}
use Rattle.blocks.specs.Units.{TextUnit}
use Rattle.order.specs.Order.{Unsortable, unsortable}
use Rattle.order.proofs.Sorting.{perm_below}
use Rattle.order.proofs.Dictionary.{≼_antisym}
use Rattle.order.proofs.Chains.{unsortable_iff}
use Rattle.order.proofs.FirstOrder.{sortable_iff}
use Rattle.model.specs.Definitions.{unit_count}
use Rattle.blocks.specs.Tests.{fault_if}
use Rattle.model.specs.Faults.{uses_in, fault24, faults24, GoodOrder, order_of}
use Rattle.model.specs.Text.{text_units, line_at}
use Rattle.model.specs.Orders.{loop_fault, NamesLoops, FirstOrder}
use Rattle.model.proofs.Lines.{unit_lines_rise, text_order_first}
use Rattle.model.proofs.NoModelFault.{order_good}

-- ---- the faults 24
module _ (us : List TextUnit) where
  -- unit i is unsortable
  loops : ℕ → Bool
  loops i = unsortable (unit_count us) (uses_in us) i

  -- one fault for each that is
  fault_only : (b : Bool) (i : ℕ) → fault_if b (line_at us i) 24 ≡ map (loop_fault us) (only_if b i)
  fault_only true i = refl
  fault_only false i = refl

  -- so the faults are those of the units chosen
  faults_chosen : faults24 us ≡ map (loop_fault us) (chosen loops (unit_count us) 0)
  unfolding loops
  faults_chosen =
      let n = unit_count us in
      sym (gather_numbers (fault24 us) n 0)
      ∙ gather_same (fault24 us) (λ j. map (loop_fault us) (only_if (loops j) j)) n 0 (λ j _ _. fault_only (loops j) j)
      ∙ sym (map_gather (loop_fault us) (λ j. only_if (loops j) j) n 0)

  -- they name exactly the units from which a chain of n + 1 starts
  pub names_loops : NamesLoops us (faults24 us)
  unfolding loops
  names_loops =
      let n = unit_count us in
      record {
        which = chosen loops n 0;
        rising = chosen_rises loops n 0;
        chains = λ i. (
          λ m. (unsortable_iff n (uses_in us) i).0 (chosen_passes loops n 0 i m).0,
          λ u. chosen_all loops n 0 i ((unsortable_iff n (uses_in us) i).1 u) (omega arith)
              (omega (arith, chain_below i u)),
        );
        faults = faults_chosen;
      }
    where
      chain_below : (i : ℕ) → Unsortable (unit_count us) (uses_in us) i → i < unit_count us
      chain_below i ([], e, c) = c
      chain_below i (j ∷ l, e, c) = c.0

  -- none, where some order is good
  pub no_loops : (q : List ℕ) → GoodOrder us q → faults24 us ≡ []
  unfolding loops
  no_loops q g =
      let s = (sortable_iff (unit_count us) (uses_in us)).1 (q, g) in
      sym (gather_numbers (fault24 us) (unit_count us) 0)
      ∙ gather_none (fault24 us) (unit_count us) 0 (λ j _ l. rw (s j (omega arith)))

-- ---- one order
module _ (n : ℕ) (line : ℕ → ℕ) (up : (a b : ℕ) → b < n → a < b → line a < line b) where
  -- units with one first line are one
  same_line : (a b : ℕ) → a < n → b < n → line a ≡ line b → a ≡ b
  same_line a b h k e =
      ⊎_elim (λ l. absurd (let z : ⊥ = omega (arith, up a b k l) in z))
      (λ g. ⊎_elim (λ l. absurd (let z : ⊥ = omega (arith, up b a h l) in z)) (λ g'. omega arith) (lt_or_ge b a))
      (lt_or_ge a b)

  -- so orders with one list of first lines are one
  same_lines : (q r : List ℕ) → Below n q → Below n r → map line q ≡ map line r → q ≡ r
  unfolding count
  same_lines [] [] h k e = refl
  same_lines [] (b ∷ r) h k e = absurd (let z : ◌≡◌ {A = ℕ} 0 1 = cc in omega arith)
  same_lines (a ∷ q) [] h k e = absurd (let z : ◌≡◌ {A = ℕ} 0 1 = cc in omega arith)
  same_lines (a ∷ q) (b ∷ r) h k e =
      let s : a ≡ b = same_line a b (h a (omega (arith, once_same a))) (k b (omega (arith, once_same b))) (cc) in
      let t : map line q ≡ map line r = cc in
      ap₂ ◌∷◌ s (same_lines q r (λ j m. h j (omega arith)) (λ j m. k j (omega arith)) t)

-- two first orders of a text are one
pub one_order : (text : List ℕ) (q r : List ℕ) → FirstOrder (text_units text) q
    → FirstOrder (text_units text) r
    → q ≡ r
one_order text q r f g =
    let us = text_units text in
    let n = unit_count us in
    same_lines n (line_at us) (unit_lines_rise text) q r (perm_below n (uses_in us) q f.good.perm)
    (perm_below n (uses_in us) r g.good.perm)
    (≼_antisym (map (line_at us) q) (map (line_at us) r) (f.first r g.good) (g.first q f.good))

-- THE ORDER of a text that has a good one is the first
pub text_first : (text r : List ℕ) → GoodOrder (text_units text) r
    → FirstOrder (text_units text) (order_of (text_units text))
text_first text r g =
    let us = text_units text in
    record { good = order_good us (no_loops us r g); first = text_order_first text }
