-- The table of uses says what units use of one another; so the order of the table is the order of the units. Fault 24.
use Prim.Native.Nat.{ℕ, zero, suc, ◌+◌, ◌≤◌, ◌<◌}
use mathlib.Core.Path.{◌≡◌, refl, sym, ap, ap₂, ◌∙◌}
use mathlib.Core.Bool.{Bool, true, false, ◌||◌}
use mathlib.Core.Logic.{⊎_elim}
use mathlib.Core.List.{List, [], ◌∷◌, map}
use native.Mathlib.Omega.{arith}
use borrow.Author.Tests.{eq-eqb, ne_eqb, ltb-false}
use lib.Dec.{eqb, ltb}
use lib.ListN.{length, get_or, length-map}
use Rattle.laws.specs.Lists.{concat_map}
use Rattle.laws.specs.Counts.{count, ◌∈◌, has}
use Rattle.laws.specs.Places.{only_if}
use Rattle.laws.proofs.Tests.{bool_cases, not_both, eq_or_ne, cond_ind}
use Rattle.laws.proofs.Counts.{once_same, has_true}
use Rattle.laws.proofs.Concats.{at_map}
use Rattle.laws.proofs.Along.{gather_numbers}
use Rattle.laws.proofs.Gathers.{gather_same}
use Rattle.laws.proofs.Members.{in_has, has_append, has_one, has_cons}
use Rattle.order.specs.Greedy.{order}
use Rattle.order.proofs.Sorting.{order_same}
use Rattle.order.proofs.Chains.{left_over_unsortable}
use Rattle.blocks.specs.Units.{TextUnit, OrderUnit, order_units}
use Rattle.blocks.specs.Layout.{unit_bounds}
use Rattle.blocks.specs.Sound.{UnitsSound}
use Rattle.model.specs.Definitions.{definitions, keys, no_unit, unit_at, unit_count}
use Rattle.blocks.specs.Tests.{fault_if}
use Rattle.model.specs.Faults.{meets, uses_in, fault24, faults24, order_of}
use Rattle.model.specs.Places.{place_among, used_by, loop_at, loops}
use Rattle.model.proofs.KeyPlaces.{Once, place_same, count_keys}
use Rattle.model.proofs.UnitKeys.{assigns_same, assigns_defined}
use Rattle.model.proofs.UsesFit.{assigned_of, uses_of, used_of, table_equated}
use Rattle.model.proofs.SheetWalk.{sheet_kinds, unit_lines, sheet_slots, sheet_ordered}
use Rattle.model.proofs.SheetOrdered.{slot_by, slots_for, used_by_names, ordered_lines_holds, ordered_length}
use Rattle.model.proofs.SheetOrdered.{ordered_at}
use Rattle.model.proofs.SheetOrdered.{ordered_slots, uses_ordered}

-- a number below m that may be taken is the one taken
has_only : (j p m : ℕ) → j < m → has j (only_if (ltb p m) p) ≡ eqb j p
unfolding count
has_only j p m h =
    ⊎_elim (λ t. rw t (has_one j p)) (λ t. rw t (sym (ne_eqb j p (λ e. omega (arith, ltb-false p m t)))))
    (bool_cases (ltb p m))

-- ---- the first of several lists in which s stands
among_in : (s : ℕ) (ls : List (List ℕ)) (j : ℕ) → j < length ls → s ∈ get_or ls j [] → place_among s ls < length ls
unfolding place_among
among_in s [] j h m = absurd (omega arith)
among_in s (l ∷ ls) zero h m = rw (in_has s l m) (omega arith)
among_in s (l ∷ ls) (suc j) h m =
    cond_ind (λ r. r < suc (length ls)) (has s l) 0 (suc (place_among s ls)) (λ _. omega arith)
    (λ _. omega (arith, among_in s ls j (omega arith) m))

among_at : (s : ℕ) (ls : List (List ℕ)) → place_among s ls < length ls → s ∈ get_or ls (place_among s ls) []
unfolding place_among
among_at s [] = λ h. absurd (omega arith)
among_at s (l ∷ ls) =
    cond_ind (λ r. r < suc (length ls) → s ∈ get_or (l ∷ ls) r []) (has s l) 0 (suc (place_among s ls))
    (λ t h. has_true s l t) (λ _ h. among_at s ls (omega arith))

-- ---- the slots of names
slot_in : (ks : List ℕ) (k : ℕ) (l : List ℕ) → k ∈ l → slot_by ks k ∈ map (slot_by ks) l
unfolding count
slot_in ks k [] h = absurd (omega arith)
slot_in ks k (a ∷ l) h =
    ⊎_elim (λ (e : k ≡ a). rw e (omega (arith, once_same (slot_by ks a))))
    (λ (n : k ≡ a → ⊥). omega (arith, slot_in ks k l (omega (arith, rw (ne_eqb k a n) at h)))) (eq_or_ne k a)

-- a slot among those of names that are defined is that of one of them alone
in_slots : (ks : List ℕ) (k : ℕ) (l : List ℕ) → ((a : ℕ) → a ∈ l → a ∈ ks) → slot_by ks k ∈ map (slot_by ks) l → k ∈ l
unfolding count
in_slots ks k [] d h = absurd (omega arith)
in_slots ks k (a ∷ l) d h =
    ⊎_elim
    (λ (e : slot_by ks k ≡ slot_by ks a).
    let same : k ≡ a = place_same ks k a (d a (omega (arith, once_same a))) (omega (arith, e)) in
    rw same (omega (arith, once_same a)))
    (λ (n : slot_by ks k ≡ slot_by ks a → ⊥).
    omega (
      arith,
      in_slots ks k l (λ b m. d b (omega arith)) (omega (arith, rw (ne_eqb (slot_by ks k) (slot_by ks a) n) at h)),
    )) (eq_or_ne (slot_by ks k) (slot_by ks a))

-- ---- one list meets another
meets_none : (ks : List ℕ) → meets ks [] ≡ false
unfolding meets count
meets_none [] = refl
meets_none (k ∷ ks) = meets_none ks

-- with one more in the second: that one stands in the first, or they meet without it
meets_cons : (ks : List ℕ) (n : ℕ) (ns : List ℕ) → meets ks (n ∷ ns) ≡ (has n ks || meets ks ns)
unfolding meets count
meets_cons [] n ns = refl
meets_cons (k ∷ ks) n ns =
    rw (has_cons k n ns, has_cons n k ks, meets_cons ks n ns, turned)
    (swap (eqb n k) (has k ns) (has n ks) (meets ks ns))
  where
    turned : eqb k n ≡ eqb n k
    turned =
        ⊎_elim (λ (e : k ≡ n). eq-eqb k n e ∙ sym (eq-eqb n k (sym e)))
        (λ (d : k ≡ n → ⊥). ne_eqb k n d ∙ sym (ne_eqb n k (λ e. d (sym e)))) (eq_or_ne k n)

    swap : (a b c d : Bool) → ((a || b) || (c || d)) ≡ ((a || c) || (b || d))
    swap true b c d = refl
    swap false true true d = refl
    swap false true false d = refl
    swap false false c d = refl

-- ---- of sound units whose names stand once: a unit uses the one that assigns its name
module _ (us : List TextUnit) (sound : UnitsSound us) (distinct : Once (keys (definitions us))) where
  abbrev ks : List ℕ
  ks = keys (definitions us)

  abbrev n : ℕ
  n = unit_count us

  -- the slots that the units assign
  abbrev assigned : List (List ℕ)
  assigned = map (slots_for ks) (order_units us)

  many : length assigned ≡ n
  many = length-map (order_units us) (slots_for ks)

  assigned_at : (i : ℕ) → i < n → get_or assigned i [] ≡ slots_for ks (unit_at us i)
  assigned_at i h = at_map (slots_for ks) (order_units us) no_unit [] i h

  -- the slot of k is assigned by the unit that assigns k alone
  found : (i k : ℕ) → i < n → slot_by ks k ∈ get_or assigned i [] → k ∈ (unit_at us i).assigns
  found i k h m =
      in_slots ks k (unit_at us i).assigns
      (λ a w. omega (arith, assigns_defined us sound i a h w, count_keys a (definitions us)))
      (rw (assigned_at i h) at m)

  module _ (j : ℕ) (h : j < n) where
    -- unit j assigns k
    abbrev fits : ℕ → Bool
    fits k = has k (unit_at us j).assigns

    -- the first that assigns the slot of k
    abbrev first : ℕ → ℕ
    first k = place_among (slot_by ks k) assigned

    -- it is the first, if it assigns k
    fits_first : (k : ℕ) → fits k ≡ true → j ≡ first k
    fits_first k t =
        let own = has_true k (unit_at us j).assigns t in
        let m : slot_by ks k ∈ get_or assigned j [] = rw (assigned_at j h) (slot_in ks k (unit_at us j).assigns own) in
        let l = among_in (slot_by ks k) assigned j (omega (arith, many)) m in
        let p : first k < n = omega (arith, many) in
        assigns_same us sound distinct j (first k) k h p own (found (first k) k p (among_at (slot_by ks k) assigned l))

    -- and assigns it, if it is the first
    first_fits : (k : ℕ) → j ≡ first k → fits k ≡ true
    first_fits k e =
        let at = among_at (slot_by ks k) assigned (omega (arith, many)) in
        in_has k (unit_at us j).assigns (found j k h (rw (← e) at at))

    -- so a name uses it exactly if it assigns that name
    uses_one : (k : ℕ) → has j (used_by assigned (slot_by ks k)) ≡ fits k
    uses_one k =
        has_only j (first k) (length assigned) (omega (arith, many))
        ∙ ⊎_elim (λ t. eq-eqb j (first k) (fits_first k t) ∙ sym t)
        (λ t. ne_eqb j (first k) (λ e. not_both (first_fits k e) t) ∙ sym t)
        (bool_cases (fits k))

    -- and so does a row of names
    uses_names : (ns : List ℕ) → has j (used_by_names assigned ks ns) ≡ meets (unit_at us j).assigns ns
    unfolding concat_map count
    uses_names [] = sym (meets_none (unit_at us j).assigns)
    uses_names (k ∷ ns) =
        has_append j (used_by assigned (slot_by ks k)) (used_by_names assigned ks ns)
        ∙ ap₂ ◌||◌ (uses_one k) (uses_names ns) ∙ sym (meets_cons (unit_at us j).assigns k ns)

-- ---- of units that are laid out
module _ (us : List TextUnit) where
  -- what the table says that unit i of the order uses
  abbrev sheet_used : ℕ → List ℕ
  sheet_used i = used_of (unit_bounds 0 us) (sheet_kinds us) (sheet_slots us) (sheet_ordered us) i

  module _ (sound : UnitsSound us) (distinct : Once (keys (definitions us))) where
    -- THE TABLE
    pub uses_of_holds : (i j : ℕ) → i < length (sheet_ordered us) → j < length (sheet_ordered us)
        → has j (sheet_used i) ≡ uses_in us i j
    uses_of_holds i j h l =
        let ks = keys (definitions us) in
        let f = uses_of (unit_bounds 0 us) (sheet_kinds us) (sheet_slots us) (sheet_ordered us) in
        let taken = assigned_of (unit_bounds 0 us) (sheet_kinds us) (sheet_slots us) (sheet_ordered us) in
        let u = ordered_at us f (λ (o : OrderUnit). used_by_names taken ks o.reads) (uses_ordered us taken) i h in
        let m : j < unit_count us = omega (arith, ordered_length us) in
        ap (has j) (table_equated (unit_bounds 0 us) (sheet_kinds us) (sheet_slots us) (sheet_ordered us) i h ∙ u)
        ∙ ap (λ x. has j (used_by_names x ks (unit_at us i).reads)) (ordered_slots us)
        ∙ uses_names us sound distinct j m (unit_at us i).reads

    -- THE ORDER
    pub order_of_holds : order (length (sheet_ordered us)) (λ i j. has j (sheet_used i)) ≡ order_of us
    order_of_holds =
        order_same (length (sheet_ordered us)) (λ i j. has j (sheet_used i)) (uses_in us) uses_of_holds
        ∙ ap (λ n. order n (uses_in us)) (ordered_length us)

  -- 24
  pub loops_of : loops (order_of us) (sheet_ordered us) (unit_lines us) ≡ faults24 us
  unfolding loops
  loops_of =
      let n = unit_count us in
      rw (ordered_length us)
      (gather_same (loop_at (order_of us) (sheet_ordered us) (unit_lines us)) (fault24 us) n 0 one
      ∙ gather_numbers (fault24 us) n 0)
    where
      one : (r : ℕ) → 0 ≤ r → r < 0 + unit_count us
          → loop_at (order_of us) (sheet_ordered us) (unit_lines us) r ≡ fault24 us r
      one r _ h =
          let l = ordered_at us (λ j. get_or (unit_lines us) j 0) (λ (o : OrderUnit). o.line) (ordered_lines_holds us) r
          (omega (arith, ordered_length us)) in
          ap₂ (λ b n. fault_if b n 24) (left_over_unsortable (unit_count us) (uses_in us) r (omega arith)) l
