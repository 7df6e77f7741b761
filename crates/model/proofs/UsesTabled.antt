-- The table of uses: how long it is, that it fits the order, and that it is what the units of the order use, one after
-- the other.
use Prim.Native.Nat.{ℕ, zero, suc, ◌+◌, ◌-◌, ◌≤◌, ◌<◌}
use mathlib.Core.Path.{◌≡◌, refl, sym, ap, subst, ◌∙◌}
use mathlib.Core.Bool.{Bool, true, false, cond}
use mathlib.Core.Logic.{⊎_elim}
use mathlib.Core.List.{List, [], ◌∷◌, ◌++◌}
use native.Mathlib.Numerals.{add-one, lt_of_le_of_ne}
use native.Mathlib.Nat.{sub-zero}
use native.Mathlib.Omega.{arith}
use lib.Dec.{ltb}
use lib.ListN.{length, get_or, length-map, length-append}
use Rattle.limits.specs.Limits.{most_statements}
use Rattle.laws.specs.Counts.{count}
use Rattle.laws.specs.Places.{gather, only_if}
use Rattle.laws.proofs.Tests.{cond_ind, eq_or_ne}
use Rattle.laws.proofs.Members.{Below, below_append, below_gather, below_only, at_in}
use Rattle.laws.proofs.Gathers.{gather_more, gather_short}
use Rattle.order.specs.Table.{Fit}
use Rattle.drafts.specs.Kinds.{is_use}
use Rattle.drafts.specs.Places.{begins, ends}
use Rattle.model.specs.Places.{is_ordered, ordered_in, assigned_by, assigned_slots, place_among, used_by}
use Rattle.model.specs.Places.{used_at, used_by_unit, used_in, starts_from}
use Rattle.model.specs.Working.{Rises, Follows}
use Rattle.model.proofs.DefinitionsCollected.{only_length}

-- one place more
pub gather_next : {A : Type 0} (f : ℕ → List A) (i : ℕ) → gather f (i + 1) 0 ≡ gather f i 0 ++ f i
gather_next f i = rw (sub-zero (i + 1), sub-zero i) at (gather_more f 0 i (omega arith))

-- none begins behind the last of n
pub rises_to : (bounds : List ℕ) (n : ℕ) → Rises bounds n → (j : ℕ) → j ≤ n → begins bounds j ≤ begins bounds n
rises_to bounds zero r j h = let e : j ≡ 0 = omega arith in rw e (omega arith)
rises_to bounds (suc n) r j h =
    ⊎_elim (λ (e : j ≡ suc n). rw e (omega arith))
    (λ (d : j ≡ suc n → ⊥).
    omega (
      arith,
      rises_to bounds n (record { rise = λ i l. r.rise i (omega arith) }) j (omega (arith, lt_of_le_of_ne h d)),
      r.rise n (omega arith),
      ap (begins bounds) (add-one n),
    )) (eq_or_ne j (suc n))

-- each ends within the drafts
pub ends_within : {lines bounds kinds used : List ℕ} → Follows lines bounds kinds used → (j : ℕ) → j < length lines
    → ends bounds j ≤ length kinds
ends_within {lines} {bounds} s j h =
    omega (arith, rises_to bounds (length lines) s.rises (j + 1) (omega arith), s.ended)

module _ (assigned : List (List ℕ)) (bounds kinds slots : List ℕ) where
  -- a draft uses at most one unit, and one of those that there are
  used_single : (i : ℕ) → length (used_at assigned kinds slots i) ≤ 1
  used_single i =
      let p = place_among (get_or slots i 0) assigned in
      cond_ind (λ (l : List ℕ). length l ≤ 1) (is_use (get_or kinds i 0)) (used_by assigned (get_or slots i 0)) []
      (λ _. only_length (ltb p (length assigned)) p) (λ _. omega arith)

  used_at_below : (i : ℕ) → Below (length assigned) (used_at assigned kinds slots i)
  unfolding count
  used_at_below i =
      cond_ind (Below (length assigned)) (is_use (get_or kinds i 0)) (used_by assigned (get_or slots i 0)) []
      (λ _. below_only (length assigned) (place_among (get_or slots i 0) assigned)) (λ _. λ j h. absurd (omega arith))

  used_below : (equated : List ℕ) → Below (length assigned) (used_in assigned bounds kinds slots equated)
  unfolding used_in count
  used_below [] = λ j h. absurd (omega arith)
  used_below (j ∷ equated) =
      below_append (length assigned) (used_by_unit assigned bounds kinds slots j)
      (used_in assigned bounds kinds slots equated)
      (below_gather (length assigned) (used_at assigned kinds slots) used_at_below (ends bounds j - begins bounds j)
      (begins bounds j)) (used_below equated)

  -- the uses of a unit begin within what is used
  pub starts_length : (o : ℕ) (equated : List ℕ)
      → length (starts_from o assigned bounds kinds slots equated) ≡ suc (length equated)
  unfolding starts_from
  starts_length o [] = refl
  starts_length o (j ∷ equated) = ap suc
      (starts_length (o + length (used_by_unit assigned bounds kinds slots j)) equated)

  starts_within : (o : ℕ) (equated : List ℕ) (i : ℕ)
      → get_or (starts_from o assigned bounds kinds slots equated) i 0 ≤ o + length
      (used_in assigned bounds kinds slots equated)
  unfolding starts_from used_in
  starts_within o [] zero = omega arith
  starts_within o [] (suc i) = omega arith
  starts_within o (j ∷ equated) zero = omega arith
  starts_within o (j ∷ equated) (suc i) =
      let row = used_by_unit assigned bounds kinds slots j in
      omega (
        arith,
        length-append row (used_in assigned bounds kinds slots equated),
        starts_within
            (o + length row) equated i,
      )

  -- those of the order among k units from i on use no more than these have drafts
  few_from : (k i : ℕ) → ((j : ℕ) → i ≤ j → j < i + k → begins bounds j ≤ ends bounds j)
      → begins bounds i + length
      (used_in assigned bounds kinds slots (gather (λ j. only_if (is_ordered bounds kinds j) j) k i)) ≤ begins bounds
      (i + k)
  unfolding gather used_in
  few_from zero i h = let e : i + 0 ≡ i = omega arith in rw e (omega arith)
  few_from (suc k) i h = go (is_ordered bounds kinds i) (few_from k (suc i) (λ j a b. h j (omega arith) (omega arith)))
    where
      rest : List ℕ
      rest = used_in assigned bounds kinds slots (gather (λ j. only_if (is_ordered bounds kinds j) j) k (suc i))

      row : List ℕ
      row = used_by_unit assigned bounds kinds slots i

      next : ends bounds i ≡ begins bounds (suc i)
      next = ap (begins bounds) (add-one i)

      last : begins bounds (suc i + k) ≡ begins bounds (i + suc k)
      last = let e : suc i + k ≡ i + suc k = omega arith in ap (begins bounds) e

      short : length row ≤ ends bounds i - begins bounds i
      short = gather_short (used_at assigned kinds slots) used_single (ends bounds i - begins bounds i)
          (begins bounds i)

      go : (b : Bool) → begins bounds (suc i) + length rest ≤ begins bounds (suc i + k)
          → begins bounds i + length
          (used_in assigned bounds kinds slots
          (only_if b i ++ gather (λ j. only_if (is_ordered bounds kinds j) j) k (suc i)))
          ≤ begins bounds (i + suc k)
      go true r = omega (arith, next, last, short, h i (omega arith) (omega arith), length-append row rest, r)
      go false r = omega (arith, next, last, h i (omega arith) (omega arith), r)

  pub used_few : (n : ℕ) → Rises bounds n
      → length (used_in assigned bounds kinds slots (ordered_in n bounds kinds)) ≤ begins bounds n
  unfolding ordered_in
  used_few n r =
      let e : begins bounds (0 + n) ≡ begins bounds n = let z : 0 + n ≡ n = omega arith in ap (begins bounds) z in
      omega (arith, e, few_from n 0 (λ j _ h. r.rise j (omega arith)))

  -- what unit j uses, if it is one of the order; what those before it use; where it begins
  abbrev pub uses_of : ℕ → List ℕ
  uses_of j = cond (is_ordered bounds kinds j) (used_by_unit assigned bounds kinds slots j) []

  abbrev pub uses_to : ℕ → List ℕ
  uses_to j = gather uses_of j 0

  abbrev pub begin_at : ℕ → List ℕ
  begin_at j = only_if (is_ordered bounds kinds j) (length (uses_to j))

  equated_from : ℕ → ℕ → List ℕ
  equated_from k j = gather (λ i. only_if (is_ordered bounds kinds i) i) k j

  -- what k units from j on use is what those of the order among them use
  equated_uses : (k j : ℕ) → gather uses_of k j ≡ used_in assigned bounds kinds slots (equated_from k j)
  unfolding equated_from gather used_in
  equated_uses zero j = refl
  equated_uses (suc k) j = go (is_ordered bounds kinds j) (equated_uses k (suc j))
    where
      row : List ℕ
      row = used_by_unit assigned bounds kinds slots j

      go : (b : Bool) → gather uses_of k (suc j) ≡ used_in assigned bounds kinds slots (equated_from k (suc j))
          → cond b row [] ++ gather uses_of k (suc j)
          ≡ used_in assigned bounds kinds slots (only_if b j ++ equated_from k (suc j))
      go true r = ap (λ (x : List ℕ). row ++ x) r
      go false r = r

  -- and where each of these begins
  equated_begin : (k j : ℕ)
      → gather begin_at k j ++ (length (uses_to (j + k)) ∷ [])
      ≡ starts_from (length (uses_to j)) assigned bounds kinds slots (equated_from k j)
  unfolding equated_from gather starts_from
  equated_begin zero j = let e : j + 0 ≡ j = omega arith in ap (λ (i : ℕ). length (uses_to i) ∷ []) e
  equated_begin (suc k) j = go (is_ordered bounds kinds j) count (equated_begin k (suc j))
    where
      row : List ℕ
      row = used_by_unit assigned bounds kinds slots j

      last : List ℕ
      last = length (uses_to (j + suc k)) ∷ []

      count : length (uses_to (suc j)) ≡ length (uses_to j) + length (uses_of j)
      count =
          ap (λ (i : ℕ). length (uses_to i)) (sym (add-one j)) ∙ ap length (gather_next uses_of j)
          ∙ length-append (uses_to j) (uses_of j)

      -- the units behind, from n on
      From : ℕ → Type 0
      From n = gather begin_at k (suc j) ++ last ≡ starts_from n assigned bounds kinds slots (equated_from k (suc j))

      rest : gather begin_at k (suc j) ++ (length (uses_to (suc j + k)) ∷ [])
          ≡ starts_from (length (uses_to (suc j))) assigned bounds kinds slots (equated_from k (suc j))
          → From (length (uses_to (suc j)))
      rest r =
          let e : j + suc k ≡ suc j + k = omega arith in
          ap (λ (i : ℕ). gather begin_at k (suc j) ++ (length (uses_to i) ∷ [])) e ∙ r

      go : (b : Bool) → length (uses_to (suc j)) ≡ length (uses_to j) + length (cond b row [])
          → gather begin_at k (suc j) ++ (length (uses_to (suc j + k)) ∷ [])
          ≡ starts_from (length (uses_to (suc j))) assigned bounds kinds slots (equated_from k (suc j))
          → (only_if b (length (uses_to j)) ++ gather begin_at k (suc j)) ++ last
          ≡ starts_from (length (uses_to j)) assigned bounds kinds slots (only_if b j ++ equated_from k (suc j))
      go true e r = ap (λ (x : List ℕ). length (uses_to j) ∷ x) (subst From e (rest r))
      go false e r =
          let same : length (uses_to (suc j)) ≡ length (uses_to j) = omega (arith, e) in
          subst From same (rest r)

  -- of n units
  pub whole_uses : (n : ℕ) → uses_to n ≡ used_in assigned bounds kinds slots (ordered_in n bounds kinds)
  unfolding equated_from ordered_in
  whole_uses n = equated_uses n 0

  pub whole_begin : (n : ℕ)
      → gather begin_at n 0 ++ (length (uses_to n) ∷ []) ≡ starts_from 0 assigned bounds kinds slots
      (ordered_in n bounds kinds)
  unfolding equated_from ordered_in gather
  whole_begin n = let e : 0 + n ≡ n = omega arith in rw e at (equated_begin n 0)

-- the table fits
pub table_fit : (equated bounds kinds slots : List ℕ) → length equated ≤ most_statements
    → Fit (length equated) (starts_from 0 (assigned_slots equated bounds kinds slots) bounds kinds slots equated)
    (used_in (assigned_slots equated bounds kinds slots) bounds kinds slots equated)
table_fit equated bounds kinds slots h =
    let assigned = assigned_slots equated bounds kinds slots in
    record {
      few = h;
      begun = omega (arith, starts_length assigned bounds kinds slots 0 equated);
      ends = λ i _. omega (arith, starts_within assigned bounds kinds slots 0 equated (i + 1));
      below =
          λ k l.
          let table = used_in assigned bounds kinds slots equated in
          omega (
            arith,
            used_below assigned bounds kinds slots equated (get_or table k 0) (at_in table k l),
            length-map equated (assigned_by bounds kinds slots),
          );
    }
