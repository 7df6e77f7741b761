-- Fault 24 by marks.
use Prim.Native.Nat.{ℕ, ◌+◌, ◌≤◌, ◌<◌}
use mathlib.Core.Path.{◌≡◌, ap, ap₂, ◌∙◌}
use mathlib.Core.Bool.{Bool, true, not}
use mathlib.Core.Logic.{⊎_elim}
use mathlib.Core.List.{List, [], ◌∷◌, ◌++◌}
use native.Mathlib.Numerals.{add-one}
use native.Mathlib.Omega.{arith}
use borrow.Author.Tests.{eq-eqb, lt-ltb}
use lib.Dec.{eqb}
use lib.ListN.{length, get_or, set, take, replicate, length-set, length-replicate, get_or-replicate}
use lib.Seq.{take-suc, take_all, get_or-set_same, get_or-set_other}
use Rattle.limits.specs.Limits.{most_statements}
use Rattle.laws.specs.Counts.{count, has}
use Rattle.laws.proofs.Tests.{eq_or_ne}
use Rattle.laws.proofs.Counts.{count_snoc_same, count_snoc_other}
use Rattle.laws.proofs.Gathers.{gather_same}
use Rattle.blocks.specs.Tests.{fault_if}
use Rattle.model.specs.Places.{loops}
use Rattle.blocks.specs.Working.{Reported}
use Rattle.model.specs.Working.{Marked, unmarked_at, unmarked}
use Rattle.blocks.proofs.FaultsListed.{if_length}

-- the first k that are placed are marked
pub record Marking (placed : List ℕ) (k : ℕ) (marks : List ℕ) : Type 0 where
  pub within : k ≤ length placed
  pub long : length marks ≡ most_statements
  pub mark : (r : ℕ) → r < length marks → eqb (get_or marks r 0) 0 ≡ not (has r (take k placed))

pub marking_first : (placed : List ℕ) {marks : List ℕ} → marks ≡ replicate most_statements 0 → Marking placed 0 marks
unfolding count
marking_first placed {marks} e =
    let long : length marks ≡ most_statements = ap length e ∙ length-replicate {A = ℕ} most_statements 0 in
    record {
      within = omega arith;
      long = long;
      mark =
          λ r h. eq-eqb (get_or marks r 0) 0
          (ap (λ (l : List ℕ). get_or l r 0) e ∙ get_or-replicate {A = ℕ} most_statements r 0 0 (omega arith));
    }

module _ {placed marks : List ℕ} {k : ℕ} (v : Marking placed k marks) where
  pub marking_next : {r : ℕ} {marks' : List ℕ} → k < length placed → r ≡ get_or placed k 0 → marks' ≡ set marks r 1
      → Marking placed (k + 1) marks'
  marking_next {r} {marks'} h p e =
      record { within = omega arith; long = ap length e ∙ length-set marks r 1 ∙ v.long; mark = at }
    where
      more : take (k + 1) placed ≡ take k placed ++ (r ∷ [])
      more = rw (add-one k, p) (take-suc placed k 0 h)

      at : (q : ℕ) → q < length marks' → eqb (get_or marks' q 0) 0 ≡ not (has q (take (k + 1) placed))
      at q l = rw more (⊎_elim (λ z. same z) (λ z. other z) (eq_or_ne q r))
        where
          inside : q < length marks
          inside = omega (arith, ap length e, length-set marks r 1)

          same : q ≡ r → eqb (get_or marks' q 0) 0 ≡ not (has q (take k placed ++ (r ∷ [])))
          same z =
              let one : get_or marks' q 0 ≡ 1 = rw (e, z) (get_or-set_same marks r 1 0 (omega (arith, inside))) in
              let more : 0 < count r (take k placed ++ (r ∷ [])) = omega (arith, count_snoc_same r (take k placed)) in
              let there : has q (take k placed ++ (r ∷ [])) ≡ true =
              rw z (lt-ltb 0 (count r (take k placed ++ (r ∷ []))) more) in
              rw (one, there)

          other : (q ≡ r → ⊥) → eqb (get_or marks' q 0) 0 ≡ not (has q (take k placed ++ (r ∷ [])))
          other z = rw (e, get_or-set_other marks r q 1 0 z, count_snoc_other q r (take k placed) z) (v.mark q inside)

  pub marking_last : length placed ≤ k → Marked placed marks
  marking_last h =
      record { long = v.long; mark = λ r l. v.mark r l ∙ ap (λ (p : List ℕ). not (has r p)) (take_all k placed h) }

-- 24 stands once at a statement
pub unmarked_single : (marks equated lines : List ℕ) (r : ℕ) → length (unmarked_at marks equated lines r) ≤ 1
unmarked_single marks equated lines r = if_length (eqb (get_or marks r 0) 0) (get_or lines (get_or equated r 0) 0) 24

-- 24 at equation r, as it was found
pub unmarked_found : (marks equated lines : List ℕ) (r : ℕ) {b line : ℕ} → b ≡ get_or marks r 0
    → line ≡ get_or lines (get_or equated r 0) 0
    → fault_if (eqb b 0) line 24 ≡ unmarked_at marks equated lines r
unmarked_found marks equated lines r p l = ap₂ (λ (m n : ℕ). fault_if (eqb m 0) n 24) p l

-- 24 is the same by marks
pub unmarked_loops : {placed marks list list' : List ℕ} {r : ℕ} (equated lines : List ℕ) → Marked placed marks
    → length equated ≤ most_statements
    → Reported (unmarked marks equated lines) 0 r list list' → Reported (loops placed equated lines) 0 r list list'
unfolding loops
unmarked_loops {placed} {marks} equated lines m h reported =
    let same : unmarked marks equated lines ≡ loops placed equated lines =
    gather_same _ _ (length equated) 0
    (λ r _ l. ap (λ (b : Bool). fault_if b (get_or lines (get_or equated r 0) 0) 24)
    (m.mark r (omega (arith, m.long)))) in
    rw same at reported
