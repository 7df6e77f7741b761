-- The arrays of units that are laid out fit.
use Prim.Native.Nat.{ℕ, zero, suc, ◌+◌, ◌*◌, ◌≤◌, ◌<◌}
use mathlib.Core.Path.{◌≡◌, refl, ap, ◌∙◌}
use mathlib.Core.Bool.{true, false, not}
use mathlib.Core.List.{List, [], ◌∷◌}
use native.Mathlib.Omega.{arith}
use native.Mathlib.Numerals.{add-one}
use native.Mathlib.Nat.{add-zero}
use borrow.Author.Tests.{le-leb, eq-eqb, le-ltb}
use lib.Dec.{eqb, leb}
use lib.ListN.{length, get_or, length-append, length-map}
use Rattle.limits.specs.Limits.{most_statements, most_definitions, text_bytes, fault_bytes}
use Rattle.laws.specs.Lists.{concat_map}
use Rattle.laws.specs.Places.{any_in}
use Rattle.laws.proofs.Along.{starts_at}
use Rattle.laws.proofs.Gathers.{none_any}
use Rattle.laws.proofs.Tests.{and_both}
use Rattle.drafts.specs.Drafts.{Draft}
use Rattle.blocks.specs.Units.{UnitBody, single, block, TextUnit, Stated, stated_by, stated_in}
use Rattle.blocks.specs.Layout.{UnitsLaid, stated_bounds, unit_bounds}
use Rattle.blocks.specs.Grouped.{falls, in_turn}
use Rattle.model.specs.Plan.{roomy, fit}
use Rattle.model.proofs.SheetWalk.{Parted, by_statement, by_unit, sheet_drafts}

-- ---- bounds: one more than there are parts, from the first draft to the last, none before the one in front of it
module _ {S : Type 0} (part : S → List Draft) where
  starts_many : (o : ℕ) (ss : List S) → length (starts_at part o ss) ≡ length ss + 1
  unfolding starts_at
  starts_many o [] = refl
  starts_many o (s ∷ ss) = omega (arith, starts_many (o + length (part s)) ss)

  starts_begin : (o : ℕ) (ss : List S) → get_or (starts_at part o ss) 0 0 ≡ o
  unfolding starts_at
  starts_begin o [] = refl
  starts_begin o (s ∷ ss) = refl

  starts_end : (o : ℕ) (ss : List S) → get_or (starts_at part o ss) (length ss) 0 ≡ o + length (concat_map part ss)
  unfolding starts_at concat_map
  starts_end o [] = rw add-zero
  starts_end o (s ∷ ss) =
      omega (arith, starts_end (o + length (part s)) ss, length-append (part s) (concat_map part ss))

  starts_rise : (o : ℕ) (ss : List S) (j : ℕ) → j < length ss
      → get_or (starts_at part o ss) j 0 ≤ get_or (starts_at part o ss) (suc j) 0
  unfolding starts_at
  starts_rise o [] j h = absurd (omega arith)
  starts_rise o (s ∷ ss) zero h = omega (arith, starts_begin (o + length (part s)) ss)
  starts_rise o (s ∷ ss) (suc j) h = starts_rise (o + length (part s)) ss j (omega arith)

module _ {S : Type 0} {part : S → List Draft} {ss : List S} {ds : List Draft} {bounds : List ℕ}
    (w : Parted part ss ds bounds) where
  parts_many : length bounds ≡ length ss + 1
  parts_many = rw w.bounds_are (starts_many part 0 ss)

  -- parts follow each other
  parts_turn : in_turn bounds (length ss) (length ds) ≡ true
  unfolding in_turn
  parts_turn =
      let first : eqb (get_or bounds 0 0) 0 ≡ true =
      eq-eqb (get_or bounds 0 0) 0 (rw w.bounds_are (starts_begin part 0 ss)) in
      let last : eqb (get_or bounds (length ss) 0) (length ds) ≡ true =
      eq-eqb (get_or bounds (length ss) 0) (length ds)
      (rw w.bounds_are (omega (arith, starts_end part 0 ss, ap length w.drafts_are))) in
      let rises : (j : ℕ) → 0 ≤ j → j < 0 + length ss → falls bounds j ≡ false = λ j _ h.
      rw (w.bounds_are, add-one)
      (le-ltb (get_or (starts_at part 0 ss) (suc j) 0) (get_or (starts_at part 0 ss) j 0)
      (starts_rise part 0 ss j (omega arith))) in
      let turn : not (any_in (falls bounds) (length ss) 0) ≡ true =
      rw (none_any (falls bounds) (length ss) 0 rises) in
      and_both _ _ first (and_both _ _ last turn)

-- of statements, and of units
pub stated_many : (us : List TextUnit) → length (stated_bounds 0 (stated_in us)) ≡ length (stated_in us) + 1
stated_many us = parts_many (by_statement us)

pub units_many : (us : List TextUnit) → length (unit_bounds 0 us) ≡ length us + 1
units_many us = parts_many (by_unit us)

-- units are no more than their statements
pub units_few : (us : List TextUnit) → length us ≤ length (stated_in us)
unfolding concat_map
units_few [] = omega arith
units_few (u ∷ us) =
    omega (
      arith,
      one u.line u.body,
      length-append (stated_by u.line u.body) (stated_in us),
      units_few us,
    )
  where
    one : (l : ℕ) (x : UnitBody) → 1 ≤ length (stated_by l x)
    one l (single x) = omega arith
    one l (block os is ns z) = omega arith

-- FIT: with room for all
pub laid_fits : (us : List TextUnit) (kinds args lines bounds ulines ubounds firsts : List ℕ)
    → UnitsLaid us kinds args lines bounds ulines ubounds firsts → (a u f : ℕ)
    → length (stated_in us) ≤ most_statements → length kinds ≤ text_bytes → length kinds ≤ a → length kinds ≤ u
    → fault_bytes * length (stated_in us) ≤ f
    → fit lines bounds ulines ubounds kinds a u f most_definitions most_statements most_statements ≡ true
unfolding fit roomy
laid_fits us kinds args lines bounds ulines ubounds firsts laid a u f few short ha hu hf =
    let n : length lines ≡ length (stated_in us) =
    ap length laid.lines_held ∙ length-map (stated_in us) (λ (t : Stated). t.line) in
    let nu : length ulines ≡ length us =
    ap length laid.unit_lines_held ∙ length-map us (λ (u : TextUnit). u.line) in
    let m : length kinds ≡ length (sheet_drafts us) =
    ap length laid.kinds_held ∙ length-map (sheet_drafts us) (λ (d : Draft). d.kind) in
    let turn : in_turn bounds (length lines) (length kinds) ≡ true =
    rw (n, m, laid.bounds_held) (parts_turn (by_statement us)) in
    let uturn : in_turn ubounds (length ulines) (length kinds) ≡ true =
    rw (nu, m, laid.unit_bounds_held) (parts_turn (by_unit us)) in
    let most : leb most_statements most_statements ≡ true = le-leb most_statements most_statements (omega arith) in
    let room : roomy most_definitions most_statements most_statements ≡ true =
    and_both _ _ (le-leb most_definitions most_definitions (omega arith)) (and_both _ _ most most) in
    and_both _ _ (le-leb (length lines) most_statements (omega arith))
    (and_both _ _
    (eq-eqb (length bounds) (length lines + 1) (rw laid.bounds_held (omega (arith, stated_many us, n))))
    (and_both _ _ (le-leb (length ulines) (length lines) (omega (arith, units_few us)))
    (and_both _ _
    (eq-eqb (length ubounds) (length ulines + 1) (rw laid.unit_bounds_held (omega (arith, units_many us, nu))))
    (and_both _ _ (le-leb _ _ short)
    (and_both _ _ (le-leb _ _ ha)
    (and_both _ _ (le-leb _ _ hu)
    (and_both _ _ (le-leb (fault_bytes * length lines) f (rw n hf)) (and_both _ _ room (and_both _ _ turn uturn)))))))))
