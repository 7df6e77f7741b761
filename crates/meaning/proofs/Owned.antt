-- Which names the units set, and in which way; and the slots of names, where no name stands twice.
use Prim.Native.Nat.{ℕ, suc, ◌+◌, ◌≤◌, ◌<◌}
use mathlib.Core.Path.{◌≡◌, refl, sym, ap, subst, ◌∙◌}
use mathlib.Core.Bool.{Bool, true, false, cond}
use mathlib.Core.Logic.{◌⊎◌, inl, inr, ⊎_elim}
use mathlib.Core.List.{List, [], ◌∷◌, ◌++◌, map, append-nil, Memᴰ}
use native.Mathlib.Omega.{arith}
use lib.ListN.{length, get_or, length-map, get_or-map}
use Rattle.laws.specs.Lists.{concat_map}
use Rattle.laws.specs.Places.{only_if}
use Rattle.laws.specs.Every.{Every}
use Rattle.laws.specs.Counts.{count, ◌∈◌, has}
use Rattle.laws.proofs.Tests.{not_both, eq_or_ne, lt_or_ge}
use Rattle.laws.proofs.Counts.{count_append, once_other, has_true, has_false}
use Rattle.laws.proofs.Concats.{concat_concat, concat_mapped, concat_same, concat_none}
use Rattle.laws.proofs.Lists.{concat_append}
use Rattle.laws.proofs.Members.{at_in}
use Rattle.laws.proofs.Every.{every_anywhere, every_concat}
use Rattle.drafts.specs.Tree.{Constant, names}
use Rattle.blocks.specs.Units.{constants, assignment, state, Sets, given, own, anew, Inner, UnitBody, single}
use Rattle.blocks.specs.Units.{block, TextUnit, closing, Stated, stated, stated_inner, stated_by, Target, stores}
use Rattle.blocks.specs.Units.{restores}
use Rattle.blocks.specs.Units.{rates, Equation, OrderUnit, target_of, order_unit_of, order_units}
use Rattle.blocks.specs.Sound.{free_of, free_names, InnerSound, BodySound, UnitsSound}
use Rattle.model.specs.Definitions.{What, constant, assigned, hidden, integral, Def, defined_alone, defined_inside}
use Rattle.model.specs.Definitions.{defined_by, definitions, keys, slot_in, no_unit, unit_at, unit_count}
use Rattle.model.specs.Faults.{constant_key, constant_keys, GoodOrder}
use Rattle.model.proofs.KeyPlaces.{Once, place_in_holds, place_same, place_of_at, no_def, is_assigned, is_hidden}
use Rattle.model.proofs.KeyPlaces.{is_state}
use Rattle.model.proofs.KeyPlaces.{keys_with, count_keys}
use Rattle.model.proofs.UnitKeys.{in_part, stored_key, rated_key, stored_keys, rated_keys, units_matched}
use Rattle.model.proofs.UnitKeys.{stored_by, stored_defined, stored_same, assigns_stored, assigned_by}
use Rattle.meaning.proofs.Rows.{few_in, in_parts}
use Rattle.meaning.proofs.Settle.{in_either, if_assigned, assigned_keys, Reads}
use Rattle.meaning.proofs.BlockFunctions.{group_of, inner_assigned, group_reads}
use Rattle.meaning.proofs.Runs.{ordered_runs}

-- ---- what a name is, by its definition: stored (assigned, or a block's own), or known without order (a constant or a
-- state)
abbrev pub is_stored : What → Bool
is_stored (constant x) = false
is_stored assigned = true
is_stored hidden = true
is_stored (integral i) = false

abbrev is_free : What → Bool
is_free (constant x) = true
is_free assigned = false
is_free hidden = false
is_free (integral i) = true

abbrev pub stored_names : List Def → List ℕ
stored_names ds = keys_with is_assigned ds ++ keys_with is_hidden ds

abbrev pub state_names : List Def → List ℕ
state_names ds = keys_with is_state ds

-- each name is a constant, a state, or stored
pub count_names : (j : ℕ) (ds : List Def)
    → count j (keys ds) ≡ count j (constant_keys ds) + count j (state_names ds) + count j (stored_names ds)
count_names j ds = omega (arith, count_keys j ds, count_append j (keys_with is_assigned ds) (keys_with is_hidden ds))

-- a name with a test is that of a definition which passes
pub named_def : (is : What → Bool) (ds : List Def) (k : ℕ) → k ∈ keys_with is ds
    → (a : Def) × Memᴰ a ds × (is a.what ≡ true) × (a.key ≡ k)
unfolding concat_map count
named_def is [] k h = absurd (omega arith)
named_def is (d ∷ ds) k h =
    ⊎_elim (λ m. (d, Memᴰ.head refl, (first (is d.what) m).0, (first (is d.what) m).1))
    (λ m. let r = named_def is ds k m in (r.0, Memᴰ.tail r.1, r.2, r.3))
    (in_either k (only_if (is d.what) d.key) (keys_with is ds) h)
  where
    first : (b : Bool) → k ∈ only_if b d.key → (b ≡ true) × (d.key ≡ k)
    first true m = (
      refl,
      ⊎_elim (λ (e : k ≡ d.key). sym e) (λ e. absurd (omega (arith, once_other k d.key e))) (eq_or_ne k d.key),
    )
    first false m = absurd (omega arith)

-- so with a stored one
pub stored_def : (ds : List Def) (k : ℕ) → k ∈ stored_names ds
    → (a : Def) × Memᴰ a ds × (is_stored a.what ≡ true) × (a.key ≡ k)
stored_def ds k h =
    ⊎_elim (λ m. let r = named_def is_assigned ds k m in (r.0, r.1, by_assigned r.0.what r.2, r.3))
    (λ m. let r = named_def is_hidden ds k m in (r.0, r.1, by_hidden r.0.what r.2, r.3))
    (in_either k (keys_with is_assigned ds) (keys_with is_hidden ds) h)
  where
    by_assigned : (w : What) → is_assigned w ≡ true → is_stored w ≡ true
    by_assigned (constant x) e = absurd (not_both e refl)
    by_assigned assigned e = refl
    by_assigned hidden e = refl
    by_assigned (integral i) e = absurd (not_both e refl)

    by_hidden : (w : What) → is_hidden w ≡ true → is_stored w ≡ true
    by_hidden (constant x) e = absurd (not_both e refl)
    by_hidden assigned e = refl
    by_hidden hidden e = refl
    by_hidden (integral i) e = absurd (not_both e refl)

-- ---- the definitions of a unit
abbrev pub defined_from : ℕ → UnitBody → List Def
defined_from l x = concat_map (λ (t : Stated). defined_by t.line t.stood) (stated_by l x)

abbrev pub defined_in : TextUnit → List Def
defined_in u = defined_from u.line u.body

-- those of all units
pub definitions_parts : (us : List TextUnit) → definitions us ≡ concat_map defined_in us
definitions_parts us =
    concat_concat (λ (t : Stated). defined_by t.line t.stood) (λ (u : TextUnit). stated_by u.line u.body) us

-- those of a block are those of the statements inside
abbrev pub defined_at : Inner → List Def
defined_at n = defined_inside n.line n.key n.sets

pub block_defined : (l : ℕ) (os is : List ℕ) (ns : List Inner) (z : ℕ)
    → defined_from l (block os is ns z) ≡ concat_map defined_at ns
unfolding concat_map
block_defined l os is ns z =
    let by : Stated → List Def = λ (t : Stated). defined_by t.line t.stood in
    concat_append by (map stated_inner ns) (stated z closing ∷ [])
    ∙ append-nil (concat_map by (map stated_inner ns))
    ∙ concat_mapped by stated_inner ns

-- ---- the names that are known without order are the constants and the states
inside_stored : (n : Inner) → keys_with is_free (defined_at n) ≡ []
unfolding concat_map
inside_stored n = by n.sets
  where
    by : (s : Sets) → keys_with is_free (defined_inside n.line n.key s) ≡ []
    by given = refl
    by own = refl
    by anew = refl

free_from : (l : ℕ) (x : UnitBody) → free_of x ≡ keys_with is_free (defined_from l x)
unfolding concat_map
free_from l (single (constants cs)) = pairs cs
  where
    pairs : (cs : List Constant)
        → free_of (single (constants cs)) ≡ keys_with is_free (defined_alone l (constants cs) ++ [])
    pairs [] = refl
    pairs (c ∷ cs) = ap (◌∷◌ c.key) (pairs cs)
free_from l (single (assignment k e)) = refl
free_from l (single (state k i e)) = refl
free_from l (block os is ns z) =
    sym
    (ap (keys_with is_free) (block_defined l os is ns z)
    ∙ concat_concat (λ (d : Def). only_if (is_free d.what) d.key) defined_at ns
    ∙ concat_none _ inside_stored ns)

count_free_one : (j k : ℕ) (w : What) (fs cs ss : List ℕ) → count j fs ≡ count j cs + count j ss
    → count j (only_if (is_free w) k ++ fs) ≡ count j (constant_key k w ++ cs) + count j (only_if (is_state w) k ++ ss)
unfolding count
count_free_one j k (constant x) fs cs ss e = omega arith
count_free_one j k assigned fs cs ss e = omega arith
count_free_one j k hidden fs cs ss e = omega arith
count_free_one j k (integral i) fs cs ss e = omega arith

count_free : (j : ℕ) (ds : List Def)
    → count j (keys_with is_free ds) ≡ count j (constant_keys ds) + count j (state_names ds)
unfolding count concat_map
count_free j [] = omega arith
count_free j (d ∷ ds) =
    count_free_one j d.key d.what (keys_with is_free ds) (constant_keys ds) (state_names ds) (count_free j ds)

pub count_known : (j : ℕ) (us : List TextUnit)
    → count j (free_names us) ≡ count j (constant_keys (definitions us)) + count j (state_names (definitions us))
count_known j us =
    ap (count j)
    (concat_same _ _ (λ (u : TextUnit). free_from u.line u.body) us
    ∙ sym (concat_concat (λ (d : Def). only_if (is_free d.what) d.key) defined_in us)
    ∙ sym (ap (keys_with is_free) (definitions_parts us)))
    ∙ count_free j (definitions us)

-- ---- what holds of each row that runs

-- the first setting of a name stores, a later one stores again; `above` are the names set above
abbrev pub Turn : List ℕ → ℕ → Target → Type 0
Turn above k stores = count k above ≡ 0
Turn above k restores = k ∈ above
Turn above k rates = Unit {0}

abbrev pub Turns : List ℕ → List Equation → Type 0
Turns above [] = Unit {0}
Turns above (e ∷ es) = Turn above e.key e.target × Turns (above ++ if_assigned e.target e.key) es

-- so what a row assigns is set above, or stored to for the first time
turns_one : (above : List ℕ) (k : ℕ) (t : Target) → Turn above k t → (j : ℕ) → j ∈ if_assigned t k
    → (j ∈ above) ⊎ (j ∈ stored_key t k)
unfolding count
turns_one above k stores h j m = inr m
turns_one above k restores h j m =
    ⊎_elim (λ (e : j ≡ k). inl (rw e h)) (λ e. absurd (omega (arith, once_other j k e))) (eq_or_ne j k)
turns_one above k rates h j m = absurd (omega arith)

turns_first : (above : List ℕ) (es : List Equation) → Turns above es → (j : ℕ) → j ∈ assigned_keys es
    → (j ∈ above) ⊎ (j ∈ stored_keys es)
unfolding concat_map
turns_first above [] t j m = inr m
turns_first above (e ∷ es) t j m =
    let sets = if_assigned e.target e.key in
    let new = stored_key e.target e.key in
    let first : j ∈ sets → (j ∈ above) ⊎ (j ∈ new ++ stored_keys es) =
    λ h. ⊎_elim inl (λ a. inr (omega (arith, count_append j new (stored_keys es))))
    (turns_one above e.key e.target t.0 j h) in
    ⊎_elim first
    (λ h.
    ⊎_elim (λ a. ⊎_elim inl first (in_either j above sets a))
    (λ a. inr (omega (arith, count_append j new (stored_keys es)))) (turns_first (above ++ sets) es t.1 j h))
    (in_either j sets (assigned_keys es) m)

-- and what is stored to for the first time is assigned
stores_assigned : (es : List Equation) (k : ℕ) → k ∈ stored_keys es → k ∈ assigned_keys es
unfolding concat_map count
stores_assigned [] k m = m
stores_assigned (e ∷ es) k m =
    let new = stored_key e.target e.key in
    let sets = if_assigned e.target e.key in
    ⊎_elim (λ h. omega (arith, by e.target h, count_append k sets (assigned_keys es)))
    (λ h. omega (arith, stores_assigned es k h, count_append k sets (assigned_keys es)))
    (in_either k new (stored_keys es) m)
  where
    by : (t : Target) → k ∈ stored_key t e.key → k ∈ if_assigned t e.key
    by stores h = h
    by restores h = absurd (omega arith)
    by rates h = h

-- of a unit of the order: what it reads from outside; its first and later settings
pub record RowSound (free : List ℕ) (o : OrderUnit) : Type 0 where
  pub reads : Reads (o.reads ++ free) o.runs
  pub turns : Turns [] o.runs

-- inside a block: by the way of setting a name
sets_turn : (above : List ℕ) (k : ℕ) (b : Bool) (s : Sets) → s ≡ cond (has k above) anew (cond b given own)
    → Turn above k (target_of s)
sets_turn above k b s e = subst (λ (x : Sets). Turn above k (target_of x)) (sym e) (by (has k above) b refl)
  where
    by : (a b : Bool) → has k above ≡ a → Turn above k (target_of (cond a anew (cond b given own)))
    by true b h = has_true k above h
    by false true h = has_false k above h
    by false false h = has_false k above h

block_turns : (free os is above : List ℕ) (ns : List Inner) → InnerSound free os is above ns → Turns above (group_of ns)
block_turns free os is above [] s = tt
block_turns free os is above (n ∷ ns) s = (
  sets_turn above n.key (has n.key os) n.sets s.0,
  subst (λ (l : List ℕ). Turns (above ++ l) (group_of ns)) (sym (inner_assigned n.sets n.key))
      (block_turns free os is (above ++ (n.key ∷ [])) ns s.3),
)

-- by what a unit is
row_sound : (free : List ℕ) (l : ℕ) (x : UnitBody) → BodySound free x → Every (RowSound free) (order_unit_of l x)
unfolding count
row_sound free l (single (constants cs)) s = tt
row_sound free l (single (assignment k e)) s =
    (record { reads = (λ j h. omega (arith, count_append j (names e) free), tt); turns = (refl, tt) }, tt)
row_sound free l (single (state k i e)) s =
    (record { reads = (λ j h. omega (arith, count_append j (names e) free), tt); turns = (tt, tt) }, tt)
row_sound free l (block os is ns z) s =
    (record { reads = group_reads free os is ns s; turns = block_turns free os is [] ns s.inside }, tt)

-- EACH ROW is sound; past the end none runs
pub rows_sound : (us : List TextUnit) → UnitsSound us → (i : ℕ) → RowSound (free_names us) (unit_at us i)
rows_sound us s i =
    let free = free_names us in
    every_anywhere (RowSound free) no_unit (record { reads = tt; turns = tt }) (order_units us) i
    (every_concat (λ (u : TextUnit). BodySound free u.body) (RowSound free)
    (λ (u : TextUnit). order_unit_of u.line u.body) (λ u h. row_sound free u.line u.body h) us s)

-- ---- the units of a text
module _ (us : List TextUnit) where
  abbrev ds : List Def
  ds = definitions us

  abbrev slot : ℕ → ℕ
  slot = slot_in ds

  -- what unit i runs
  abbrev pub runs_at : ℕ → List Equation
  runs_at i = (unit_at us i).runs

  -- no number stands twice in a good order
  pub at_most : (q : List ℕ) → GoodOrder us q → Once q
  at_most q g m = ⊎_elim (λ h. omega (arith, g.perm.within m h)) (λ h. omega (arith, g.perm.beyond m h))
      (lt_or_ge m (unit_count us))

  -- what the units of q set, by one of them and by all
  module _ (f : Target → ℕ → List ℕ) where
    abbrev keys_by : List Equation → List ℕ
    keys_by es = concat_map (λ (e : Equation). f e.target e.key) es

    by_one : (q : List ℕ) (k : ℕ) → k ∈ keys_by (ordered_runs us q) → (i : ℕ) × (i ∈ q) × (k ∈ keys_by (runs_at i))
    by_one q k m =
        let r = in_part (λ (i : ℕ). keys_by (runs_at i)) q 0 k
        (rw (concat_concat (λ (e : Equation). f e.target e.key) runs_at q) at m) in
        (get_or q r.0 0, at_in q r.0 r.1, r.2)

    by_all : (q : List ℕ) (i k : ℕ) → i ∈ q → k ∈ keys_by (runs_at i) → k ∈ keys_by (ordered_runs us q)
    by_all q i k h m =
        rw (concat_concat (λ (e : Equation). f e.target e.key) runs_at q)
        (in_parts (λ (i : ℕ). keys_by (runs_at i)) q i k h m)

    -- a unit sets a name as often as all units do, or less often
    by_few : (i k : ℕ) → i < unit_count us
        → count k (keys_by (runs_at i)) ≤ count k (keys_by (concat_map (λ (o : OrderUnit). o.runs) (order_units us)))
    by_few i k h =
        rw (concat_concat (λ (e : Equation). f e.target e.key) (λ (o : OrderUnit). o.runs) (order_units us))
        (few_in (λ (o : OrderUnit). keys_by o.runs) (order_units us) no_unit i k h)

  -- a key that they assign
  pub assigned_from_one : (q : List ℕ) (k : ℕ) → k ∈ assigned_keys (ordered_runs us q)
      → (i : ℕ) × (i ∈ q) × (k ∈ assigned_keys (runs_at i))
  assigned_from_one = by_one if_assigned

  pub assigned_in_all : (q : List ℕ) (i k : ℕ) → i ∈ q → k ∈ assigned_keys (runs_at i)
      → k ∈ assigned_keys (ordered_runs us q)
  assigned_in_all = by_all if_assigned

  -- and one whose derivative they give
  pub rated_from_one : (q : List ℕ) (k : ℕ) → k ∈ rated_keys (ordered_runs us q)
      → (i : ℕ) × (i ∈ q) × (k ∈ rated_keys (runs_at i))
  rated_from_one = by_one rated_key

  pub rated_in_all : (q : List ℕ) (i k : ℕ) → i ∈ q → k ∈ rated_keys (runs_at i) → k ∈ rated_keys (ordered_runs us q)
  rated_in_all = by_all rated_key

  -- a name that is stored is assigned by some unit
  pub assigned_somewhere : (k : ℕ) → k ∈ stored_names ds
      → (i : ℕ) × (i < unit_count us) × (k ∈ assigned_keys (runs_at i))
  assigned_somewhere k m =
      let r = stored_by us k m in
      (r.0, r.1, stores_assigned (runs_at r.0) k r.2)

  module _ (sound : UnitsSound us) where
    -- each name that a unit assigns it stores to for the first time
    first_stored : (i k : ℕ) → k ∈ assigned_keys (runs_at i) → k ∈ stored_keys (runs_at i)
    unfolding count
    first_stored i k m =
        ⊎_elim (λ h. absurd (omega arith)) (λ h. h) (turns_first [] (runs_at i) (rows_sound us sound i).turns k m)

    -- so it is a stored one
    pub assigned_stored : (i : ℕ) → i < unit_count us → (k : ℕ) → k ∈ assigned_keys (runs_at i) → k ∈ stored_names ds
    assigned_stored i h k m = stored_defined us i k h (first_stored i k m)

    module _ (one : Once (keys ds)) where
      -- one unit alone assigns a name
      pub assigned_one : (i j k : ℕ) → i < unit_count us → j < unit_count us → k ∈ assigned_keys (runs_at i)
          → k ∈ assigned_keys (runs_at j)
          → i ≡ j
      assigned_one i j k hi hj mi mj = stored_same us one i j k hi hj (first_stored i k mi) (first_stored j k mj)

      -- it is known outside as assigned by this unit, or is a block's own
      pub assigned_shown : (i k : ℕ) → i < unit_count us → k ∈ assigned_keys (runs_at i)
          → (k ∈ (unit_at us i).assigns) ⊎ (k ∈ keys_with is_hidden ds)
      assigned_shown i k h m =
          ⊎_elim
          (λ a.
          let r = assigned_by us sound k a in
          let s = assigns_stored us sound r.0 k r.1 r.2 in
          let same : r.0 ≡ i = stored_same us one r.0 i k r.1 h s (first_stored i k m) in
          inl (subst (λ (j : ℕ). k ∈ (unit_at us j).assigns) same r.2))
          inr
          (in_either k (keys_with is_assigned ds) (keys_with is_hidden ds) (assigned_stored i h k m))

  module _ (one : Once (keys ds)) where
    -- a unit stores to a name for the first time once, and gives a state's derivative once
    pub stored_once : (i : ℕ) → i < unit_count us → Once (stored_keys (runs_at i))
    stored_once i h k = omega (arith, by_few stored_key i k h, (units_matched k us).stored, one k, count_keys k ds)

    pub rated_once : (i : ℕ) → i < unit_count us → Once (rated_keys (runs_at i))
    rated_once i h k = omega (arith, by_few rated_key i k h, (units_matched k us).rated, one k, count_keys k ds)

    -- ---- slots

    -- a slot is that of one name alone
    pub own_slot : (j k : ℕ) → k ∈ keys ds → slot j ≡ slot k → j ≡ k
    own_slot j k h e = place_same (keys ds) j k h (omega arith)

    -- none is past the count of definitions
    pub slot_mine : (k : ℕ) → k ∈ keys ds → slot k ≤ length ds
    slot_mine k h = let n = place_in_holds k (keys ds) h in rw length-map at n

    -- the definition at place i has the slot i + 1
    pub slot_at_holds : (i : ℕ) → i < length ds → slot (get_or ds i no_def).key ≡ suc i
    slot_at_holds i h =
        ap suc
        (rw (get_or-map (λ (d : Def). d.key) ds i no_def) at (place_of_at (keys ds) one i (rw length-map h)))
