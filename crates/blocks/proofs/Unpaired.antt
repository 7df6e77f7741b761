-- 25 by the mates, statement by statement, is 25 by the pairs.
use Prim.Native.Nat.{ℕ, zero, suc, max, ◌+◌, ◌≤◌, ◌<◌}
use mathlib.Core.Path.{◌≡◌, refl, ap, ap₂, ◌∙◌}
use mathlib.Core.Bool.{Bool}
use mathlib.Core.List.{List}
use native.Mathlib.Numerals.{add-one}
use native.Mathlib.Omega.{arith}
use lib.ListN.{length, get_or}
use Rattle.limits.specs.Limits.{most_statements}
use Rattle.laws.specs.Places.{gather}
use Rattle.laws.proofs.Gathers.{gather_same}
use Rattle.blocks.specs.Tests.{fault_if}
use Rattle.blocks.specs.Pairing.{neither}
use Rattle.blocks.specs.Places.{leading_kind, bracket_kind, bracket_at, brackets_from, brackets_in, fault25_at}
use Rattle.blocks.specs.Places.{faults25_in}
use Rattle.blocks.specs.Working.{Reported, mates_in, furthest, unmated, unmated_at, unmated_in}
use Rattle.blocks.proofs.FaultsListed.{if_length}
use Rattle.blocks.proofs.PairsMated.{unmated_unpaired}

-- a statement has one at most
pub unmated_single : (lines bounds kinds mates : List ℕ) (j : ℕ) → length (unmated_at lines bounds kinds mates j) ≤ 1
unmated_single lines bounds kinds mates j =
    if_length (unmated (bracket_at bounds kinds j) j (get_or mates j 0) (furthest mates j)) (get_or lines j 0) 25

-- what is found at statement j, by what was read
pub unmated_found : (lines bounds kinds mates : List ℕ) (j : ℕ) {kind mate reach line : ℕ} {stands : Bool}
    → kind ≡ leading_kind bounds kinds j → mate ≡ get_or mates j 0 → reach ≡ furthest mates j
    → stands ≡ unmated (bracket_kind kind) j mate reach → line ≡ get_or lines j 0
    → fault_if stands line 25 ≡ unmated_at lines bounds kinds mates j
unmated_found lines bounds kinds mates j k m r s l = rw (s, l, k, m, r) refl

-- the furthest mate, one statement further
pub furthest_next : (mates : List ℕ) (j : ℕ) {mate reach r : ℕ} → reach ≡ furthest mates j → mate ≡ get_or mates j 0
    → r ≡ max reach mate → r ≡ furthest mates (j + 1)
unfolding furthest
furthest_next mates j f m e = rw (add-one j) (e ∙ ap₂ max f m)

-- how many brackets there are, and which stands at a place
module _ (bounds kinds : List ℕ) where
  pub brackets_length : (k i : ℕ) → length (brackets_from bounds kinds k i) ≡ k
  unfolding gather
  brackets_length zero i = refl
  brackets_length (suc k) i = omega (arith, brackets_length k (suc i))

  bracket_at_holds : (k i j : ℕ) → j < k
      → get_or (brackets_from bounds kinds k i) j neither ≡ bracket_at bounds kinds (i + j)
  unfolding gather
  bracket_at_holds zero i j h = absurd (omega arith)
  bracket_at_holds (suc k) i zero h = let z : i ≡ i + 0 = omega arith in ap (bracket_at bounds kinds) z
  bracket_at_holds (suc k) i (suc j) h =
      let z : suc i + j ≡ i + suc j = omega arith in
      bracket_at_holds k (suc i) j (omega arith) ∙ ap (bracket_at bounds kinds) z

-- THE FAULTS 25 by the mates of all statements
pub unmated_faults : (lines bounds kinds : List ℕ) → length lines ≤ most_statements
    → unmated_in lines bounds kinds (mates_in (length lines) bounds kinds) ≡ faults25_in lines bounds kinds
unfolding faults25_in
unmated_faults lines bounds kinds few =
    gather_same (unmated_at lines bounds kinds (mates_in (length lines) bounds kinds)) (fault25_at lines bounds kinds)
    (length lines) 0 one
  where
    one : (j : ℕ) → 0 ≤ j → j < 0 + length lines
        → unmated_at lines bounds kinds (mates_in (length lines) bounds kinds) j ≡ fault25_at lines bounds kinds j
    one j a h =
        let bs = brackets_in (length lines) bounds kinds in
        let z : 0 + j ≡ j = omega arith in
        let at : get_or bs j neither ≡ bracket_at bounds kinds j =
        rw z at (bracket_at_holds bounds kinds (length lines) 0 j (omega arith)) in
        ap (λ (b : Bool). fault_if b (get_or lines j 0) 25)
        (unmated_unpaired bs (omega (arith, brackets_length bounds kinds (length lines) 0)) j
        (bracket_at bounds kinds j) at)

-- so what is written is
pub unmated_reported : (lines bounds kinds : List ℕ) {mates list list' : List ℕ} {r : ℕ}
    → length lines ≤ most_statements
    → mates ≡ mates_in (length lines) bounds kinds → Reported (unmated_in lines bounds kinds mates) 0 r list list'
    → Reported (faults25_in lines bounds kinds) 0 r list list'
unmated_reported lines bounds kinds few e p = rw (e, unmated_faults lines bounds kinds few) at p
