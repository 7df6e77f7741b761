-- The constants and the units of a good order, as groups: each is worked out after all it reads, and no slot is set by
-- two of them.
use Prim.Native.Nat.{ℕ, ◌≤◌, ◌<◌}
use mathlib.Core.Path.{◌≡◌, refl, sym, ap, ap₂, ◌∙◌}
use mathlib.Core.Bool.{true}
use mathlib.Core.Logic.{◌⊎◌, inl, inr, ⊎_elim}
use mathlib.Core.List.{List, [], ◌∷◌, ◌++◌, map, append_assoc}
use native.Mathlib.Omega.{arith}
use lib.Ieee.{Float}
use Rattle.laws.specs.Lists.{concat_map}
use Rattle.laws.specs.Counts.{count, ◌∈◌, has}
use Rattle.laws.proofs.Tests.{eq_or_ne, or_left, or_right}
use Rattle.laws.proofs.Counts.{count_append, count_cons_same, once_same, once_other}
use Rattle.laws.proofs.Concats.{concat_mapped}
use Rattle.laws.proofs.Lists.{concat_append}
use Rattle.laws.proofs.Members.{in_has, Below}
use Rattle.drafts.specs.Tree.{value, names}
use Rattle.blocks.specs.Units.{stores, Equation, equation, TextUnit}
use Rattle.blocks.specs.Sound.{free_names, UnitsSound}
use Rattle.order.specs.Order.{EachAfter}
use Rattle.order.proofs.Sorting.{after_front}
use Rattle.model.specs.Definitions.{What, constant, assigned, hidden, integral, Def, definitions, keys, slot_in}
use Rattle.model.specs.Definitions.{unit_at}
use Rattle.model.specs.Definitions.{unit_count}
use Rattle.model.specs.Faults.{constant_key, constant_keys, outside_keys, meets, uses_in}
use Rattle.model.proofs.KeyPlaces.{Once, count_outside}
use Rattle.model.proofs.UnitKeys.{rated_keys, rated_defined, rated_same}
use Rattle.meaning.proofs.Settle.{in_either, assigned_keys, assigned_append, rated_append, row, First}
use Rattle.meaning.proofs.Settle.{Fair}
use Rattle.meaning.proofs.Runs.{as_equation, fixed, ordered_runs}
use Rattle.meaning.proofs.Owned.{stored_names, state_names, count_names, count_known, rows_sound, runs_at}
use Rattle.meaning.proofs.Owned.{assigned_from_one, rated_from_one, assigned_stored, assigned_one}
use Rattle.meaning.proofs.Owned.{assigned_shown}
use Rattle.meaning.proofs.Owned.{own_slot}

-- lists with a common member meet
pub meets_in : (ks l : List ℕ) (k : ℕ) → k ∈ ks → k ∈ l → meets ks l ≡ true
unfolding meets count
meets_in [] l k h m = absurd (omega arith)
meets_in (a ∷ ks) l k h m =
    ⊎_elim (λ (e : k ≡ a). or_left (has a l) (meets ks l) (in_has a l (rw e at m)))
    (λ e. or_right (has a l) (meets ks l) (meets_in ks l k (omega (arith, once_other k a e)) m)) (eq_or_ne k a)

-- ---- the groups: each constant one, and each unit one
abbrev pub alone : Equation → List Equation
alone e = e ∷ []

abbrev pub groups_of : List TextUnit → List Def → List ℕ → List (List Equation)
groups_of us es q = map alone (fixed es) ++ map (runs_at us) q

alone_row : (es : List Equation) → row (map alone es) ≡ es
unfolding concat_map
alone_row [] = refl
alone_row (e ∷ es) = ap (◌∷◌ e) (alone_row es)

-- they are the constants and what the units run
pub groups_row : (us : List TextUnit) (es : List Def) (q : List ℕ)
    → row (groups_of us es q) ≡ fixed es ++ ordered_runs us q
groups_row us es q =
    concat_append (λ (g : List Equation). g) (map alone (fixed es)) (map (runs_at us) q)
    ∙ ap₂ ◌++◌ (alone_row (fixed es)) (concat_mapped (λ (g : List Equation). g) (runs_at us) q)

-- ---- the keys of the constants, as equations
fixed_one : (l k : ℕ) (w : What) (E : List Equation) (ks : List ℕ) → assigned_keys E ≡ ks → rated_keys E ≡ []
    → (assigned_keys (as_equation l k w ++ E) ≡ constant_key k w ++ ks) × (rated_keys (as_equation l k w ++ E) ≡ [])
unfolding concat_map
fixed_one l k (constant x) E ks a b = (ap (◌∷◌ k) a, b)
fixed_one l k assigned E ks a b = (a, b)
fixed_one l k hidden E ks a b = (a, b)
fixed_one l k (integral i) E ks a b = (a, b)

-- they are the constants' keys, and no state's
fixed_keys : (es : List Def) → (assigned_keys (fixed es) ≡ constant_keys es) × (rated_keys (fixed es) ≡ [])
unfolding concat_map
fixed_keys [] = (refl, refl)
fixed_keys (a ∷ es) =
    let r = fixed_keys es in fixed_one a.line a.key a.what (fixed es) (constant_keys es) r.0 r.1

module _ (us : List TextUnit) (sound : UnitsSound us) (one : Once (keys (definitions us)))
    (known : (i : ℕ) → i < unit_count us → (k : ℕ) → k ∈ (unit_at us i).reads → k ∈ outside_keys (definitions us)) where
  abbrev ds : List Def
  ds = definitions us

  abbrev slot : ℕ → ℕ
  slot = slot_in ds

  -- each after all it uses
  abbrev After : List ℕ → Type 0
  After q = EachAfter (unit_count us) (uses_in us) q

  -- a stored name is neither a constant nor a state, a state is no constant
  stored_name : (k : ℕ) → k ∈ stored_names ds → (k ∈ keys ds) × (count k (constant_keys ds) ≡ 0)
      × (count k (state_names ds) ≡ 0)
  stored_name k h =
      let n = count_names k ds in
      let o = one k in
      (omega arith, omega arith, omega arith)

  state_name : (k : ℕ) → k ∈ state_names ds → (k ∈ keys ds) × (count k (constant_keys ds) ≡ 0)
      × (count k (stored_names ds) ≡ 0)
  state_name k h =
      let n = count_names k ds in
      let o = one k in
      (omega arith, omega arith, omega arith)

  -- ---- the units of a good order: f is placed, i is next, q follows
  module _ (f : List ℕ) (i : ℕ) (q : List ℕ) (a : After (f ++ i ∷ q)) (c : Once (f ++ i ∷ q))
      (b : Below (unit_count us) (i ∷ q)) where
    -- i is a unit
    hi : i < unit_count us
    hi = b i (omega (arith, count_cons_same i q))

    -- none that follows is i
    later : (m : ℕ) → m ∈ q → (m < unit_count us) × (m ≡ i → ⊥)
    unfolding count
    later m h = (
      b m (omega arith),
      λ e. let h' : i ∈ q = rw e at h in omega (arith, c i, count_append i f (i ∷ q), once_same i),
    )

    -- what it reads is assigned by none of these: that is placed
    unread : (m : ℕ) → m ∈ i ∷ q → (k : ℕ) → k ∈ assigned_keys (runs_at us m) → k ∈ (unit_at us i).reads → ⊥
    unread m h k n r =
        ⊎_elim
        (λ (s : k ∈ (unit_at us m).assigns).
        let u : uses_in us i m ≡ true = meets_in (unit_at us m).assigns (unit_at us i).reads k s r in
        let p = after_front (unit_count us) (uses_in us) f i q a m (b m h) u in
        omega (arith, c m, count_append m f (i ∷ q)))
        (λ s. omega (arith, count_outside k ds, one k, known i hi k r)) (assigned_shown us sound one m k (b m h) n)

    -- so it is fair that it comes first
    first_order : First slot (runs_at us i) (ordered_runs us q)
    unfolding concat_map
    first_order =
        record {
          outside = (unit_at us i).reads ++ free_names us;
          reads = (rows_sound us sound i).reads;
          early =
              λ k n j h e.
              let r = assigned_from_one us (i ∷ q) j h in
              let m = stored_name j (assigned_stored us sound r.0 (b r.0 r.1) j r.2) in
              let s : k ≡ j = own_slot us one k j m.0 (sym e) in
              ⊎_elim (λ (x : k ∈ (unit_at us i).reads). unread r.0 r.1 j r.2 (rw s at x))
              (λ (x : k ∈ free_names us).
              let x' : j ∈ free_names us = rw s at x in omega (arith, count_known j us, m.1, m.2))
              (in_either k (unit_at us i).reads (free_names us) n);
          timeless = λ j h e. omega arith;
          apart =
              λ k n j h e.
              let s : j ≡ k = own_slot us one j k (stored_name k (assigned_stored us sound i hi k n)).0 e in
              let r = assigned_from_one us q k (rw s at h) in
              let l = later r.0 r.1 in
              l.1 (assigned_one us sound one r.0 i k l.0 hi r.2 n);
          alone =
              λ k n j h e.
              let s : j ≡ k = own_slot us one j k (state_name k (rated_defined us i k hi n)).0 e in
              let r = rated_from_one us q k (rw s at h) in
              let l = later r.0 r.1 in
              l.1 (rated_same us one r.0 i k l.0 hi r.2 n);
        }

  -- a good order is fair
  fair_order : (f q : List ℕ) → After (f ++ q) → Once (f ++ q) → Below (unit_count us) q
      → Fair slot (map (runs_at us) q)
  unfolding count
  fair_order f [] a c b = tt
  fair_order f (i ∷ q) a c b =
      let e = append_assoc f (i ∷ []) q in (
        rw (concat_mapped (λ (g : List Equation). g) (runs_at us) q) (first_order f i q a c b),
        fair_order (f ++ (i ∷ [])) q (rw e a) (rw e c) (λ m h. b m (omega arith)),
      )

  -- ---- constants before the units
  module _ (q : List ℕ) (b : Below (unit_count us) q) where
    module _ (k : ℕ) (x : Float) (es : List Def)
        (c : (j : ℕ) → count j (k ∷ constant_keys es) ≤ count j (constant_keys ds)) (l : ℕ) where
      -- its key is a constant's, and no later constant has it
      mine : (k ∈ keys ds) × (count k (stored_names ds) ≡ 0) × (count k (constant_keys es) ≡ 0)
      unfolding count
      mine =
          let ck = c k in
          let ok = once_same k in
          let n = count_names k ds in
          let most = one k in
          (omega arith, omega arith, omega arith)

      -- so it is fair that it comes first
      first_constant : First slot (alone (equation l k stores (value x))) (fixed es ++ ordered_runs us q)
      unfolding names count concat_map
      first_constant =
          record {
            outside = [];
            reads = (λ j h. h, tt);
            early = λ j n. absurd (omega arith);
            timeless = λ j h e. omega arith;
            apart =
                λ m n j h e.
                let is : m ≡ k = ⊎_elim (λ z. z) (λ z. absurd (omega (arith, once_other m k z))) (eq_or_ne m k) in
                let s : j ≡ k = own_slot us one j k mine.0 (rw is at e) in
                let h' : k ∈ assigned_keys (fixed es) ++ assigned_keys (ordered_runs us q) =
                rw (s, assigned_append (fixed es) (ordered_runs us q)) at h in
                ⊎_elim (λ z. omega (arith, mine.2, rw (fixed_keys es).0 at z))
                (λ z.
                let r = assigned_from_one us q k z in
                omega (arith, mine.1, assigned_stored us sound r.0 (b r.0 r.1) k r.2))
                (in_either k (assigned_keys (fixed es)) (assigned_keys (ordered_runs us q)) h');
            alone = λ m n. absurd (omega arith);
          }

    -- one definition more in front
    fair_constant : (l k : ℕ) (w : What) (es : List Def)
        → ((j : ℕ) → count j (constant_key k w ++ constant_keys es) ≤ count j (constant_keys ds))
        → Fair slot (map alone (fixed es) ++ map (runs_at us) q)
        → Fair slot (map alone (as_equation l k w ++ fixed es) ++ map (runs_at us) q)
    fair_constant l k (constant x) es c f = (rw (groups_row us es q) (first_constant k x es c l), f)
    fair_constant l k assigned es c f = f
    fair_constant l k hidden es c f = f
    fair_constant l k (integral i) es c f = f

    -- so it is with all of them
    fair_constants : (es : List Def) → ((j : ℕ) → count j (constant_keys es) ≤ count j (constant_keys ds))
        → Fair slot (map (runs_at us) q)
        → Fair slot (groups_of us es q)
    unfolding concat_map
    fair_constants [] c f = f
    fair_constants (a ∷ es) c f =
        fair_constant a.line a.key a.what es c
        (fair_constants es
        (λ j. omega (arith, c j, count_append j (constant_key a.key a.what) (constant_keys es))) f)

    -- ALL of it is fair
    pub fair_all : After q → Once q → Fair slot (groups_of us ds q)
    fair_all a c = fair_constants ds (λ j. omega arith) (fair_order [] q a c b)

    -- ---- whose keys these are: constants and stored names; states
    pub assigned_from : (j : ℕ) → j ∈ assigned_keys (fixed ds ++ ordered_runs us q)
        → (j ∈ constant_keys ds) ⊎ (j ∈ stored_names ds)
    assigned_from j h =
        ⊎_elim (λ z. inl (rw (fixed_keys ds).0 at z))
        (λ z. let r = assigned_from_one us q j z in inr (assigned_stored us sound r.0 (b r.0 r.1) j r.2))
        (in_either j (assigned_keys (fixed ds)) (assigned_keys (ordered_runs us q))
        (rw (assigned_append (fixed ds) (ordered_runs us q)) at h))

    pub rated_from : (j : ℕ) → j ∈ rated_keys (fixed ds ++ ordered_runs us q) → j ∈ state_names ds
    rated_from j h =
        let h' : j ∈ rated_keys (fixed ds) ++ rated_keys (ordered_runs us q) =
        rw (rated_append (fixed ds) (ordered_runs us q)) at h in
        let r = rated_from_one us q j (rw (fixed_keys ds).1 at h') in
        rated_defined us r.0 j (b r.0 r.1) r.2
