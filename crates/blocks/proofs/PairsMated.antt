-- The mates that are noted tell which headers and ends are paired, and which stand inside a pair.
use Prim.Native.Nat.{ℕ, zero, suc, ◌+◌, ◌≤◌, ◌<◌}
use mathlib.Core.Path.{◌≡◌, refl, sym, ap, ap₂, ◌∙◌}
use mathlib.Core.Bool.{true, false, not, ◌&&◌, ◌||◌}
use mathlib.Core.Logic.{◌⊎◌, inl, inr, ⊎_elim}
use mathlib.Core.List.{List, [], ◌∷◌}
use native.Mathlib.Omega.{arith}
use borrow.Author.Tests.{ltb-true, ltb-false, lt-ltb, eq-eqb, ne_eqb}
use lib.Dec.{eqb, leb, ltb}
use lib.ListN.{length, get_or, set, replicate, length-set, length-replicate}
use lib.Seq.{get_or-set_same, get_or-set_other}
use Rattle.limits.specs.Limits.{most_statements}
use Rattle.laws.specs.Counts.{once, count}
use Rattle.laws.proofs.Tests.{bool_cases, not_both, eq_or_ne, lt_or_ge, and_true, and_both, or_true, or_left, or_right}
use Rattle.laws.proofs.Counts.{once_same, once_other}
use Rattle.blocks.specs.Pairing.{Bracket, opens, shuts, neither, Pair, pairs, heads, tails, nested, unpaired}
use Rattle.blocks.specs.Working.{mate_noted, mates_noted, furthest, unmated}
use Rattle.blocks.proofs.DefiningCounted.{once_few}
use Rattle.blocks.proofs.PairPlaces.{Ordered, pairs_few, tail_shuts, head_opens, pairs_ordered}

-- ---- one pair noted
module _ (p : Pair) (mates : List ℕ) where
  noted_length : length (mate_noted p mates) ≡ length mates
  noted_length = length-set (set mates p.head (p.tail + 1)) p.tail (p.head + 1)
      ∙ length-set mates p.head (p.tail + 1)

  -- at its end stands its header, and one more
  noted_tail : p.tail < length mates → get_or (mate_noted p mates) p.tail 0 ≡ p.head + 1
  noted_tail h = get_or-set_same (set mates p.head (p.tail + 1)) p.tail (p.head + 1) 0
      (omega (arith, length-set mates p.head (p.tail + 1)))

  -- at its header its end
  noted_head : p.head < p.tail → p.tail < length mates → get_or (mate_noted p mates) p.head 0 ≡ p.tail + 1
  noted_head l h =
      get_or-set_other (set mates p.head (p.tail + 1)) p.tail p.head (p.head + 1) 0 (λ e. omega arith)
      ∙ get_or-set_same mates p.head (p.tail + 1) 0 (omega arith)

  -- elsewhere what stood there
  noted_other : (i : ℕ) → (i ≡ p.head → ⊥) → (i ≡ p.tail → ⊥) → get_or (mate_noted p mates) i 0 ≡ get_or mates i 0
  noted_other i m n = get_or-set_other (set mates p.head (p.tail + 1)) p.tail i (p.head + 1) 0 n
      ∙ get_or-set_other mates p.head i (p.tail + 1) 0 m

-- ---- all of them: a place in no pair keeps what stood there
mate_kept : (ps : List Pair) (mates : List ℕ) (i : ℕ) → count i (heads ps) ≡ 0 → count i (tails ps) ≡ 0
    → get_or (mates_noted ps mates) i 0 ≡ get_or mates i 0
unfolding mates_noted count
mate_kept [] mates i a b = refl
mate_kept (p ∷ ps) mates i a b =
    let same : (x : ℕ) → i ≡ x → once (eqb i x) ≡ 1 = λ x e. ap (λ (y : ℕ). once (eqb i y)) (sym e) ∙ once_same i in
    let m : i ≡ p.head → ⊥ = λ e. absurd (omega (arith, same p.head e)) in
    let n : i ≡ p.tail → ⊥ = λ e. absurd (omega (arith, same p.tail e)) in
    mate_kept ps (mate_noted p mates) i (omega arith) (omega arith) ∙ noted_other p mates i m n

-- what is noted at a place is not taken back
mate_more : (ps : List Pair) (mates : List ℕ) (i : ℕ) → Ordered (length mates) ps → 0 < get_or mates i 0
    → 0 < get_or (mates_noted ps mates) i 0
unfolding mates_noted
mate_more [] mates i o h = h
mate_more (p ∷ ps) mates i o h =
    let k : Ordered (length (mate_noted p mates)) ps = rw (noted_length p mates) o.1 in
    mate_more ps (mate_noted p mates) i k (⊎_elim at_tail (λ n. ⊎_elim at_head (λ m. away m n) (eq_or_ne i p.head))
    (eq_or_ne i p.tail))
  where
    at_tail : i ≡ p.tail → 0 < get_or (mate_noted p mates) i 0
    at_tail e = rw e (omega (arith, noted_tail p mates o.0.1))

    at_head : i ≡ p.head → 0 < get_or (mate_noted p mates) i 0
    at_head e = rw e (omega (arith, noted_head p mates o.0.0 o.0.1))

    away : (i ≡ p.head → ⊥) → (i ≡ p.tail → ⊥) → 0 < get_or (mate_noted p mates) i 0
    away m n = omega (arith, noted_other p mates i m n, h)

-- a place in a pair has a mate
mate_some : (ps : List Pair) (mates : List ℕ) (i : ℕ) → Ordered (length mates) ps
    → 0 < count i (heads ps) + count i (tails ps) → 0 < get_or (mates_noted ps mates) i 0
unfolding mates_noted count
mate_some [] mates i o h = absurd (omega arith)
mate_some (p ∷ ps) mates i o h =
    let k : Ordered (length (mate_noted p mates)) ps = rw (noted_length p mates) o.1 in
    ⊎_elim
    (λ (e : i ≡ p.tail).
    mate_more ps (mate_noted p mates) i k (rw e (omega (arith, noted_tail p mates o.0.1))))
    (λ n.
    ⊎_elim
    (λ (e : i ≡ p.head).
    mate_more ps (mate_noted p mates) i k (rw e (omega (arith, noted_head p mates o.0.0 o.0.1))))
    (λ m.
    mate_some ps (mate_noted p mates) i k (omega (arith, once_other i p.head m, once_other i p.tail n)))
    (eq_or_ne i p.head))
    (eq_or_ne i p.tail)

-- ---- inside a pair: a header above has its end behind the place
mate_past : (ps : List Pair) (mates : List ℕ) (i : ℕ) → Ordered (length mates) ps
    → ((h : ℕ) → count h (heads ps) + count h (tails ps) ≤ 1) → nested i ps ≡ true
    → (h : ℕ) × (h < i) × (i + 1 < get_or (mates_noted ps mates) h 0)
unfolding mates_noted count nested
mate_past [] mates i o d e = absurd (not_both e refl)
mate_past (p ∷ ps) mates i o d e =
    let k : Ordered (length (mate_noted p mates)) ps = rw (noted_length p mates) o.1 in
    let rest = mate_past ps (mate_noted p mates) i k (λ h. let l = d h in omega arith) in
    ⊎_elim here rest (or_true (ltb p.head i && ltb i p.tail) (nested i ps) e)
  where
    here : (ltb p.head i && ltb i p.tail) ≡ true
        → (h : ℕ) × (h < i) × (i + 1 < get_or (mates_noted ps (mate_noted p mates)) h 0)
    here t =
        let b = and_true (ltb p.head i) (ltb i p.tail) t in
        let l = ltb-true i p.tail b.1 in
        let one = d p.head in
        let same = once_same p.head in
        let kept = mate_kept ps (mate_noted p mates) p.head (omega arith) (omega arith) in
        (p.head, ltb-true p.head i b.0, omega (arith, l, kept, noted_head p mates o.0.0 o.0.1))

-- and the other way round: what is noted there is of a pair around the place, or stood there before
abbrev Around : Pair → List Pair → List ℕ → ℕ → ℕ → Type 0
Around p ps mates i q = (((ltb p.head i && ltb i p.tail) || nested i ps) ≡ true) ⊎ (i + 1 < get_or mates q 0)

past_mate : (ps : List Pair) (mates : List ℕ) (i q : ℕ) → Ordered (length mates) ps → q < i
    → i + 1 < get_or (mates_noted ps mates) q 0 → (nested i ps ≡ true) ⊎ (i + 1 < get_or mates q 0)
unfolding mates_noted nested
past_mate [] mates i q o l h = inr h
past_mate (p ∷ ps) mates i q o l h =
    let k : Ordered (length (mate_noted p mates)) ps = rw (noted_length p mates) o.1 in
    ⊎_elim (λ e. inl (or_right (ltb p.head i && ltb i p.tail) (nested i ps) e)) here
    (past_mate ps (mate_noted p mates) i q k l h)
  where
    at_tail : i + 1 < get_or (mate_noted p mates) q 0 → q ≡ p.tail → Around p ps mates i q
    at_tail g e =
        let far = ap (λ (x : ℕ). get_or (mate_noted p mates) x 0) e ∙ noted_tail p mates o.0.1 in
        absurd (omega (arith, far, o.0.0))

    at_head : i + 1 < get_or (mate_noted p mates) q 0 → q ≡ p.head → Around p ps mates i q
    at_head g e =
        let far = ap (λ (x : ℕ). get_or (mate_noted p mates) x 0) e ∙ noted_head p mates o.0.0 o.0.1 in
        inl
        (or_left (ltb p.head i && ltb i p.tail) (nested i ps)
        (and_both (ltb p.head i) (ltb i p.tail) (lt-ltb p.head i (omega arith))
        (lt-ltb i p.tail (omega (arith, far)))))

    here : i + 1 < get_or (mate_noted p mates) q 0 → Around p ps mates i q
    here g =
        ⊎_elim (at_tail g)
        (λ n. ⊎_elim (at_head g) (λ m. inr (omega (arith, noted_other p mates q m n))) (eq_or_ne q p.head))
        (eq_or_ne q p.tail)

-- ---- the furthest mate
furthest_past : (mates : List ℕ) (j x : ℕ) → x < furthest mates j → (q : ℕ) × (q < j) × (x < get_or mates q 0)
unfolding furthest
furthest_past mates zero x h = absurd (omega arith)
furthest_past mates (suc j) x h =
    ⊎_elim (λ g. (j, omega arith, g))
    (λ g. let r = furthest_past mates j x (omega arith) in (r.0, omega (arith, r.1), r.2))
    (lt_or_ge x (get_or mates j 0))

furthest_most : (mates : List ℕ) (j q : ℕ) → q < j → get_or mates q 0 ≤ furthest mates j
unfolding furthest
furthest_most mates zero q h = absurd (omega arith)
furthest_most mates (suc j) q h =
    ⊎_elim (λ (e : q ≡ j). rw e (omega arith))
    (λ n. omega (arith, furthest_most mates j q (let l : q < j = omega arith in l))) (eq_or_ne q j)

-- ---- THE MATES of the pairs of bs tell 25
replicate_zero : (n i : ℕ) → ◌≡◌ {A = ℕ} (get_or (replicate n 0) i 0) 0
replicate_zero zero i = refl
replicate_zero (suc n) zero = refl
replicate_zero (suc n) (suc i) = replicate_zero n i

module _ (bs : List Bracket) (few : length bs ≤ most_statements) where
  abbrev zeros : List ℕ
  zeros = replicate most_statements 0

  abbrev mates : List ℕ
  mates = mates_noted (pairs bs) zeros

  ordered : Ordered (length zeros) (pairs bs)
  unfolding count
  ordered =
      pairs_ordered [] 0 bs (length zeros) (λ j h. absurd (omega arith))
      (omega (arith, few, length-replicate {A = ℕ} most_statements 0))

  -- no mate, where the place is in no pair
  mateless : (j c : ℕ) → c ≡ count j (heads (pairs bs)) + count j (tails (pairs bs))
      → eqb (get_or mates j 0) 0 ≡ not (ltb 0 c)
  mateless j c e =
      ⊎_elim
      (λ t.
      rw t (ne_eqb (get_or mates j 0) 0
      (λ z. let h = mate_some (pairs bs) zeros j ordered (omega (arith, ltb-true 0 c t)) in omega arith)))
      (λ t.
      let n = ltb-false 0 c t in
      rw t (eq-eqb (get_or mates j 0) 0
      (mate_kept (pairs bs) zeros j (omega arith) (omega arith) ∙ replicate_zero most_statements j)))
      (bool_cases (ltb 0 c))

  -- inside a pair
  nesting : (j : ℕ) → ltb (j + 1) (furthest mates j) ≡ nested j (pairs bs)
  unfolding count
  nesting j = ⊎_elim yes no (bool_cases (nested j (pairs bs)))
    where
      once_at_most : (h : ℕ) → count h (heads (pairs bs)) + count h (tails (pairs bs)) ≤ 1
      once_at_most h = omega (arith, pairs_few [] 0 bs h, once_few (leb 0 h))

      yes : nested j (pairs bs) ≡ true → ltb (j + 1) (furthest mates j) ≡ nested j (pairs bs)
      yes t =
          let r = mate_past (pairs bs) zeros j ordered once_at_most t in
          rw t (lt-ltb (j + 1) (furthest mates j) (omega (arith, r.2, furthest_most mates j r.0 r.1)))

      none : nested j (pairs bs) ≡ false → j + 1 < furthest mates j → ⊥
      none t h =
          let r = furthest_past mates j (j + 1) h in
          ⊎_elim (λ u. not_both u t) (λ g. omega (arith, replicate_zero most_statements r.0))
          (past_mate (pairs bs) zeros j r.0 ordered r.1 r.2)

      no : nested j (pairs bs) ≡ false → ltb (j + 1) (furthest mates j) ≡ nested j (pairs bs)
      no t =
          rw t
          (⊎_elim (λ u. absurd (none t (ltb-true (j + 1) (furthest mates j) u))) (λ u. u)
          (bool_cases (ltb (j + 1) (furthest mates j))))

  pub unmated_unpaired : (j : ℕ) (b : Bracket) → get_or bs j neither ≡ b
      → unmated b j (get_or mates j 0) (furthest mates j) ≡ unpaired (pairs bs) j b
  unfolding count
  unmated_unpaired j opens e =
      let z : 0 + j ≡ j = omega arith in
      let none : count j (tails (pairs bs)) ≡ 0 = rw z at (tail_shuts [] 0 bs j e) in
      ap₂ ◌||◌ (mateless j (count j (heads (pairs bs))) (omega arith)) (nesting j)
  unmated_unpaired j shuts e =
      let z : 0 + j ≡ j = omega arith in
      let none : count j (heads (pairs bs)) ≡ 0 = rw z at (head_opens [] 0 bs j e refl) in
      mateless j (count j (tails (pairs bs))) (omega arith)
  unmated_unpaired j neither e = refl
