-- Laws of the tests of a table.
use mathlib.Core.Path.{◌≡◌, sym, ◌∙◌}
use mathlib.Core.Bool.{true}
use mathlib.Core.Logic.{◌↔◌}
use mathlib.Core.List.{List}
use Prim.Native.Nat.{ℕ, ◌+◌, ◌-◌, ◌≤◌, ◌<◌}
use native.Mathlib.Omega.{arith}
use borrow.Author.Tests.{ltb-true, leb-true, lt-ltb, le-leb}
use lib.Dec.{ltb, leb}
use lib.ListN.{length, get_or, take, drop}
use lib.Seq.{slice, length-slice, take-length, get_or-drop, get_or-take}
use Rattle.std.specs.Prelude.{slice_range, All}
use Rattle.std.proofs.lemmas.List.{get_or_default}
use Rattle.std.proofs.lemmas.List.Elements.{All-get_or, All-from_get_or}
use Rattle.std.proofs.lemmas.Grind.{common_steps}
use Rattle.limits.specs.Limits.{most_statements}
use Rattle.laws.specs.Counts.{◌∈◌}
use Rattle.laws.proofs.Tests.{and_true, and_both}
use Rattle.laws.proofs.Counts.{place_of}
use Rattle.laws.proofs.Members.{at_in}
use Rattle.order.specs.Greedy.{all}
use Rattle.order.specs.Table.{Fit, ends_in, below_at, fits}
use Rattle.order.proofs.Sorting.{all_true, all_intro}

-- ---- the ends of the n are the starts from place 1 on
module _ (n size : ℕ) (starts : List ℕ) (h : n < length starts) where
  -- those places
  abbrev ends : List ℕ
  ends = slice_range starts 1 (n + 1)

  end_at : (i d : ℕ) → i < n → get_or ends i d ≡ get_or starts (i + 1) 0
  end_at i d l =
      let e : 1 + i ≡ i + 1 = omega arith in
      get_or-take (n + 1 - 1) (drop 1 starts) i d (omega arith)
      ∙ get_or-drop 1 starts i d
      ∙ rw e (get_or_default starts (i + 1) d 0 (omega arith))

  ends_size : length ends ≡ n
  ends_size = grind (arith, common_steps)

  pub ends_within : All (λ e. e ≤ size) ends ↔ ((i : ℕ) → i < n → get_or starts (i + 1) 0 ≤ size)
  ends_within = (
    λ a i l. rw (end_at i 0 l) at (All-get_or (λ e. e ≤ size) ends i 0 (omega (arith, ends_size)) a),
    λ f.
        All-from_get_or (λ e. e ≤ size) ends 0
        (λ i l. let k : i < n = omega (arith, ends_size) in rw (end_at i 0 k) (f i k)),
  )

-- ---- the test of a table
module _ (n : ℕ) (starts used : List ℕ) (room : ℕ) where
  -- a table passes exactly if it fits and there is room
  pub fits_iff : (fits n starts used room ≡ true) ↔ (Fit n starts used × (n ≤ room))
  unfolding fits
  fits_iff = (there, λ p. back p.0 p.1)
    where
      -- each part of the test
      there : fits n starts used room ≡ true → Fit n starts used × (n ≤ room)
      there e =
          let a = and_true _ (all (length used) (below_at n used)) e in
          let b = and_true _ (all n (ends_in starts (length used))) a.0 in
          let c = and_true _ (leb n room) b.0 in
          let d = and_true _ (ltb n (length starts)) c.0 in (
            record {
              few = leb-true n most_statements d.0;
              begun = ltb-true n (length starts) d.1;
              ends = λ i h. leb-true _ _ (all_true n _ b.1 i h);
              below = λ k h. ltb-true _ _ (all_true (length used) _ a.1 k h);
            },
            leb-true n room c.1,
          )

      -- and all of it
      back : Fit n starts used → n ≤ room → fits n starts used room ≡ true
      back t h =
          and_both _ _
          (and_both _ _
          (and_both _ _ (and_both _ _ (le-leb _ _ t.few) (lt-ltb _ _ t.begun)) (le-leb _ _ h))
          (all_intro n _ (λ i l. le-leb _ _ (t.ends i l))))
          (all_intro (length used) _ (λ k l. lt-ltb _ _ (t.below k l)))

-- ---- what stands in a part of a list
module _ (a b : ℕ) (l : List ℕ) (h : b ≤ length l) where
  -- what stands at a place of a part
  part_at : (d : ℕ) → d < b - a → get_or (slice a b l) d 0 ≡ get_or l (a + d) 0
  part_at d k = get_or-drop a (take b l) d 0 ∙ get_or-take b l (a + d) 0 (omega arith)

  -- what stands at one of its places stands in it
  pub in_part : (p : ℕ) → a ≤ p → p < b → get_or l p 0 ∈ slice a b l
  in_part p lo hi =
      let e : a + (p - a) ≡ p = omega arith in
      rw (rw e at (part_at (p - a) (omega arith))) at
      (at_in (slice a b l) (p - a) (omega (arith, length-slice a b l h)))

  -- what stands in it stands at one of its places
  pub part_place : (j : ℕ) → j ∈ slice a b l → (p : ℕ) × (a ≤ p) × (p < b) × (get_or l p 0 ≡ j)
  part_place j m =
      let r = place_of j (length (slice a b l)) (slice a b l) (rw (take-length (slice a b l)) m) in
      let k : r.0 < b - a = omega (arith, r.2, length-slice a b l h) in
      (a + r.0, omega arith, omega arith, sym (part_at r.0 k) ∙ r.3)
