-- The arrays of a sheet that is laid out fit a grouping.
use Prim.Native.Nat.{ℕ, zero, suc, ◌+◌, ◌*◌, ◌≤◌, ◌<◌}
use mathlib.Core.Path.{◌≡◌, refl, ap, ◌∙◌}
use mathlib.Core.Bool.{true, false, not}
use mathlib.Core.List.{List, [], ◌∷◌}
use native.Mathlib.Omega.{arith}
use native.Mathlib.Numerals.{add-one}
use native.Mathlib.Nat.{add-zero}
use borrow.Author.Tests.{le-leb, eq-eqb, le-ltb}
use lib.Dec.{eqb}
use lib.ListN.{length, get_or, length-append, length-map}
use Rattle.limits.specs.Limits.{most_statements, text_bytes, fault_bytes}
use Rattle.laws.specs.Lists.{concat_map}
use Rattle.laws.specs.Places.{any_in}
use Rattle.laws.proofs.Gathers.{none_any}
use Rattle.laws.proofs.Tests.{and_both}
use Rattle.drafts.specs.Drafts.{Draft, drafts_of}
use Rattle.sheet.specs.Sheet.{Numbered}
use Rattle.sheet.specs.Layout.{drafts_in, bounds_from, Laid}
use Rattle.blocks.specs.Grouped.{falls, in_turn, group_roomy, group_fit}

-- ---- the bounds: one more than there are statements, from the first draft to the last, none before the one in front
-- of it
pub bounds_many : (o : ℕ) (ss : List Numbered) → length (bounds_from o ss) ≡ length ss + 1
unfolding bounds_from
bounds_many o [] = refl
bounds_many o (s ∷ ss) = omega (arith, bounds_many (o + length (drafts_of s.says)) ss)

bounds_begin : (o : ℕ) (ss : List Numbered) → get_or (bounds_from o ss) 0 0 ≡ o
unfolding bounds_from
bounds_begin o [] = refl
bounds_begin o (s ∷ ss) = refl

bounds_end : (o : ℕ) (ss : List Numbered) → get_or (bounds_from o ss) (length ss) 0 ≡ o + length (drafts_in ss)
unfolding bounds_from concat_map
bounds_end o [] = rw add-zero
bounds_end o (s ∷ ss) =
    omega (arith, bounds_end (o + length (drafts_of s.says)) ss, length-append (drafts_of s.says) (drafts_in ss))

bounds_rise : (o : ℕ) (ss : List Numbered) (j : ℕ) → j < length ss
    → get_or (bounds_from o ss) j 0 ≤ get_or (bounds_from o ss) (suc j) 0
unfolding bounds_from
bounds_rise o [] j h = absurd (omega arith)
bounds_rise o (s ∷ ss) zero h = omega (arith, bounds_begin (o + length (drafts_of s.says)) ss)
bounds_rise o (s ∷ ss) (suc j) h = bounds_rise (o + length (drafts_of s.says)) ss j (omega arith)

-- FIT: with room for all
pub laid_groups : (ss : List Numbered) (kinds args lines bounds : List ℕ) → Laid ss kinds args lines bounds
    → (a f ul ub fi : ℕ) → length ss ≤ most_statements → length kinds ≤ text_bytes → length kinds ≤ a
    → fault_bytes * length ss ≤ f → length ss + 1 ≤ ul → length ss + 1 ≤ ub → length ss + 1 ≤ fi
    → group_fit lines bounds kinds a f ul ub fi ≡ true
unfolding group_fit group_roomy in_turn
laid_groups ss kinds args lines bounds laid a f ul ub fi few short ha hf hl hb hi =
    let n : length lines ≡ length ss = ap length laid.lines_held ∙ length-map ss (λ (s : Numbered). s.line) in
    let m : length kinds ≡ length (drafts_in ss) =
    ap length laid.kinds_held ∙ length-map (drafts_in ss) (λ (d : Draft). d.kind) in
    let rises : (j : ℕ) → 0 ≤ j → j < 0 + length ss → falls bounds j ≡ false = λ j _ h.
    rw (laid.bounds_held, add-one)
    (le-ltb (get_or (bounds_from 0 ss) (suc j) 0) (get_or (bounds_from 0 ss) j 0) (bounds_rise 0 ss j (omega arith))) in
    let first : eqb (get_or bounds 0 0) 0 ≡ true =
    eq-eqb (get_or bounds 0 0) 0 (rw laid.bounds_held (bounds_begin 0 ss)) in
    let last : eqb (get_or bounds (length lines) 0) (length kinds) ≡ true =
    eq-eqb (get_or bounds (length lines) 0) (length kinds)
    (rw (n, laid.bounds_held) (omega (arith, bounds_end 0 ss, m))) in
    let turn : not (any_in (falls bounds) (length lines) 0) ≡ true =
    rw (n, none_any (falls bounds) (length ss) 0 rises) in
    let room : group_roomy (length lines) ul ub fi ≡ true =
    and_both _ _ (le-leb (length lines + 1) ul (rw n hl))
    (and_both _ _ (le-leb (length lines + 1) ub (rw n hb)) (le-leb (length lines + 1) fi (rw n hi))) in
    and_both _ _ (le-leb (length lines) most_statements (omega arith))
    (and_both _ _
    (eq-eqb (length bounds) (length lines + 1) (rw laid.bounds_held (omega (arith, bounds_many 0 ss, n))))
    (and_both _ _ (le-leb _ _ short)
    (and_both _ _ (le-leb _ _ ha)
    (and_both _ _ (le-leb (fault_bytes * length lines) f (rw n hf))
    (and_both _ _ room (and_both _ _ first (and_both _ _ last turn)))))))
