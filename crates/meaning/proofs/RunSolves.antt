-- Running the program of a good order leaves the solution of the units.
use Prim.Native.Nat.{ℕ, ◌≤◌, ◌<◌}
use mathlib.Core.Path.{◌≡◌, subst}
use mathlib.Core.Logic.{◌⊎◌, inl, inr, ⊎_elim}
use mathlib.Core.List.{List, ◌++◌}
use native.Mathlib.Omega.{arith}
use lib.ListN.{length, get_or}
use lib.Ieee.{Float, nan}
use Rattle.laws.specs.Every.{Every}
use Rattle.laws.specs.Counts.{count, ◌∈◌}
use Rattle.laws.proofs.Every.{every_map}
use Rattle.limits.specs.Limits.{slots, most_definitions}
use Rattle.blocks.specs.Units.{Inner, Equation, TextUnit}
use Rattle.blocks.specs.Sound.{UnitsSound}
use Rattle.order.proofs.Sorting.{perm_below}
use Rattle.model.specs.Definitions.{Def, definitions, keys, slot_in, unit_at, unit_count}
use Rattle.model.specs.Faults.{constant_keys, outside_keys, uses_in, GoodOrder}
use Rattle.model.proofs.KeyPlaces.{Once}
use Rattle.meaning.specs.Statements.{slot_among, EachAsked, ConstantHolds, AssignmentHolds, StateHolds, BlockHolds}
use Rattle.meaning.specs.Statements.{Solution}
use Rattle.meaning.proofs.Rows.{every_both}
use Rattle.meaning.proofs.Settle.{values_after, derivs_after, long_values, long_derivs}
use Rattle.meaning.proofs.Settle.{kept_values, kept_derivs, Rests, settled}
use Rattle.meaning.proofs.Owned.{stored_names, state_names, count_names, at_most, own_slot, slot_mine}
use Rattle.meaning.proofs.Runs.{fixed, ordered_runs}
use Rattle.meaning.proofs.Fairness.{groups_of, groups_row, fair_all, assigned_from, rated_from}
use Rattle.meaning.proofs.Asked.{asked_map, asked_two, names_same, names_many, each_name}
use Rattle.meaning.proofs.Resting.{EachMet, EachPlaced, rested_hold}

module _ (us : List TextUnit) (sound : UnitsSound us) (one : Once (keys (definitions us)))
    (known : (i : ℕ) → i < unit_count us → (k : ℕ) → k ∈ (unit_at us i).reads → k ∈ outside_keys (definitions us))
    (q : List ℕ) (g : GoodOrder us q) (v d : List Float) (few : length (definitions us) ≤ most_definitions)
    (lv : slots ≤ length v) (ld : slots ≤ length d) where
  abbrev ds : List Def
  ds = definitions us

  abbrev slot : ℕ → ℕ
  slot = slot_in ds

  -- only places of units stand in q
  below : (m : ℕ) → m ∈ q → m < unit_count us
  below = perm_below (unit_count us) (uses_in us) q g.perm

  -- the constants and what the units run
  abbrev all : List Equation
  all = fixed ds ++ ordered_runs us q

  -- the values and the derivatives at the end
  abbrev v' : List Float
  v' = values_after slot all v

  abbrev d' : List Float
  d' = derivs_after slot all v d

  -- each group rests then
  rests : Every (Rests slot v' d') (groups_of us ds q)
  rests =
      subst
      (λ (es : List Equation). Every (Rests slot (values_after slot es v) (derivs_after slot es v d))
      (groups_of us ds q)) (groups_row us ds q)
      (settled slot (groups_of us ds q) v d (fair_all us sound one known q below g.after (at_most us q g)))

  -- there is a place for each name
  room : (k : ℕ) → k ∈ keys ds → (slot k < length v') × (slot k < length d')
  room k h =
      let n = slot_mine us one k h in
      let a = long_values slot all v in
      let b = long_derivs slot all v d in
      (omega arith, omega arith)

  -- a constant, a stored name and a state are defined
  mine : (k : ℕ) → (k ∈ constant_keys ds) ⊎ ((k ∈ stored_names ds) ⊎ (k ∈ state_names ds)) → k ∈ keys ds
  mine k (inl h) = omega (arith, count_names k ds)
  mine k (inr (inl h)) = omega (arith, count_names k ds)
  mine k (inr (inr h)) = omega (arith, count_names k ds)

  placed : EachPlaced slot v' d' us
  placed =
      asked_map (λ l c h. (room c.key (mine c.key (inl h))).0) (λ l k e h. (room k (mine k (inr (inl h)))).0)
      (λ l k i e h. (room k (mine k (inr (inr h)))).1) (λ ns h. tt) us (each_name us sound)

  -- so each unit holds
  met : EachMet slot v' d' us
  met = rested_hold slot v' d' us q g placed rests

  -- ---- what is not set stays

  -- the derivative of what is no state
  kept_deriv : (k : ℕ) → k ∈ keys ds → count k (state_names ds) ≡ 0 → get_or d' (slot k) nan ≡ get_or d (slot k) nan
  kept_deriv k h n =
      kept_derivs slot all v d (slot k)
      (λ j m e.
      let s : j ≡ k = own_slot us one j k h e in
      let m' : k ∈ state_names ds = rw s at (rated_from us sound one known q below j m) in
      omega arith)

  -- the value of a state
  kept_value : (k : ℕ) → k ∈ state_names ds → get_or v' (slot k) nan ≡ get_or v (slot k) nan
  kept_value k h =
      kept_values slot all v (slot k)
      (λ j m e.
      let s : j ≡ k = own_slot us one j k (mine k (inr (inr h))) e in
      ⊎_elim (λ z. omega (arith, rw s at z, one k, count_names k ds))
      (λ z. omega (arith, rw s at z, one k, count_names k ds))
      (assigned_from us sound one known q below j m))

  -- no name has TIME's slot or one behind the last name's
  stays : (p : ℕ) → (p ≡ 0) ⊎ (length ds < p) → (k : ℕ) → k ∈ keys ds → slot k ≡ p → ⊥
  stays p (inl z) k h e = omega arith
  stays p (inr z) k h e = omega (arith, slot_mine us one k h)

  -- ---- each unit
  abbrev EachHolds : (ℕ → ℕ) → Type 0
  EachHolds at =
      EachAsked (ConstantHolds at v d v' d') (AssignmentHolds at v d v' d') (StateHolds at v d v' d')
      (BlockHolds at v d v' d') us

  each_holds : EachHolds slot
  each_holds =
      let constant_kept : (k : ℕ) → k ∈ constant_keys ds → get_or d' (slot k) nan ≡ get_or d (slot k) nan =
      λ k h. kept_deriv k (mine k (inl h)) (omega (arith, one k, count_names k ds)) in
      let stored_kept : (k : ℕ) → k ∈ stored_names ds → get_or d' (slot k) nan ≡ get_or d (slot k) nan =
      λ k h. kept_deriv k (mine k (inr (inl h))) (omega (arith, one k, count_names k ds)) in
      asked_two (λ l c m h. (m, constant_kept c.key h)) (λ l k e m h. (m, stored_kept k h))
      (λ l k i e m h. (kept_value k h, m))
      (λ ns m h. every_map _ _ ns (λ (n : Inner) t. (t.0, stored_kept n.key t.1)) (every_both _ _ ns m h))
      us met (each_name us sound)

  -- THE SOLUTION
  pub solves : Solution us v d v' d'
  solves =
      record {
        long = (long_values slot all v, long_derivs slot all v d);
        each = subst (λ (ns : List ℕ). EachHolds (slot_among ns)) (names_same us) each_holds;
        rest =
            λ p h.
            let past : (p ≡ 0) ⊎ (length ds < p) = rw (names_many us) h in (
              kept_values slot all v p
                  (λ j m. stays p past j
                  (⊎_elim (λ z. mine j (inl z)) (λ z. mine j (inr (inl z)))
                  (assigned_from us sound one known q below j m))),
              kept_derivs slot all v d p
                  (λ j m. stays p past j (mine j (inr (inr (rated_from us sound one known q below j m))))),
            );
      }
