-- The names that the units of order store, take as derivatives, and assign; and which unit does.
use Prim.Native.Nat.{ℕ, zero, suc, ◌+◌, ◌<◌}
use mathlib.Core.Path.{◌≡◌, refl, sym, ap, subst, ◌∙◌}
use mathlib.Core.Bool.{Bool, true, false, cond}
use mathlib.Core.Logic.{⊎_elim, ◌↔◌}
use mathlib.Core.List.{List, [], ◌∷◌, ◌++◌, map, append-nil}
use native.Mathlib.Omega.{arith}
use borrow.Author.Tests.{le-ltb, eq-eqb}
use lib.Dec.{eqb}
use lib.ListN.{length, get_or}
use Rattle.laws.specs.Lists.{concat_map}
use Rattle.laws.specs.Counts.{once, count, ◌∈◌, has}
use Rattle.laws.specs.Every.{Every}
use Rattle.laws.specs.Places.{only_if}
use Rattle.laws.proofs.Tests.{eq_or_ne, lt_or_ge}
use Rattle.laws.proofs.Lists.{concat_append}
use Rattle.laws.proofs.Concats.{concat_concat}
use Rattle.laws.proofs.Counts.{count_append, once_other, count_snoc_other, has_true}
use Rattle.laws.proofs.Members.{in_has}
use Rattle.laws.proofs.Every.{every_at, every_concat}
use Rattle.drafts.specs.Tree.{Constant}
use Rattle.blocks.specs.Units.{constants, assignment, state, Sets, given, own, anew, Inner, UnitBody, single, block}
use Rattle.blocks.specs.Units.{TextUnit, closing, Stated, stated, stated_inner, stated_by, stated_in, Target, stores}
use Rattle.blocks.specs.Units.{restores, rates, Equation, equation, OrderUnit, target_of, inner_equation, order_unit_of}
use Rattle.blocks.specs.Units.{order_units}
use Rattle.blocks.specs.Sound.{free_names, sets_for, InnerSound, BodySound, UnitsSound}
use Rattle.model.specs.Definitions.{What, Def, defined_alone, defined_inside, defined_by, definitions, keys}
use Rattle.model.specs.Definitions.{no_unit, unit_at, unit_count}
use Rattle.model.proofs.KeyPlaces.{Once, is_state, is_assigned, is_hidden, keys_with, count_keys}

-- ---- a row of rows of numbers
module _ {A : Type 0} (f : A → List ℕ) where
  -- what stands in one of them stands in all
  pub part_in : (l : List A) (d : A) (i k : ℕ) → i < length l → k ∈ f (get_or l i d) → k ∈ concat_map f l
  unfolding concat_map
  part_in [] d i k h m = absurd (omega arith)
  part_in (a ∷ l) d zero k h m = omega (arith, count_append k (f a) (concat_map f l))
  part_in (a ∷ l) d (suc i) k h m =
      omega (arith, part_in l d i k (omega arith) m, count_append k (f a) (concat_map f l))

  -- and the other way round
  pub in_part : (l : List A) (d : A) (k : ℕ) → k ∈ concat_map f l → (i : ℕ) × (i < length l) × (k ∈ f (get_or l i d))
  unfolding concat_map count
  in_part [] d k h = absurd (omega arith)
  in_part (a ∷ l) d k h =
      ⊎_elim (λ m. (0, omega arith, m))
      (λ m.
      let r = in_part l d k (omega (arith, count_append k (f a) (concat_map f l))) in
      (suc r.0, omega (arith, r.1), r.2))
      (lt_or_ge 0 (count k (f a)))

  -- where nothing stands twice no number stands in two
  pub part_same : (l : List A) (d : A) → Once (concat_map f l) → (i j k : ℕ) → i < length l → j < length l
      → k ∈ f (get_or l i d) → k ∈ f (get_or l j d) → i ≡ j
  unfolding concat_map
  part_same [] d o i j k h g m n = absurd (omega arith)
  part_same (a ∷ l) d o zero zero k h g m n = refl
  part_same (a ∷ l) d o zero (suc j) k h g m n =
      absurd (omega (arith, o k, part_in l d j k (omega arith) n, count_append k (f a) (concat_map f l)))
  part_same (a ∷ l) d o (suc i) zero k h g m n =
      absurd (omega (arith, o k, part_in l d i k (omega arith) m, count_append k (f a) (concat_map f l)))
  part_same (a ∷ l) d o (suc i) (suc j) k h g m n =
      ap suc
      (part_same l d (λ x. omega (arith, o x, count_append x (f a) (concat_map f l))) i j k (omega arith) (omega arith)
      m n)

-- ---- what runs: the names stored for the first time, and those whose derivatives are taken
abbrev pub stored_key : Target → ℕ → List ℕ
stored_key stores k = k ∷ []
stored_key restores k = []
stored_key rates k = []

abbrev pub rated_key : Target → ℕ → List ℕ
rated_key stores k = []
rated_key restores k = []
rated_key rates k = k ∷ []

abbrev pub stored_keys : List Equation → List ℕ
stored_keys es = concat_map (λ (e : Equation). stored_key e.target e.key) es

abbrev pub rated_keys : List Equation → List ℕ
rated_keys es = concat_map (λ (e : Equation). rated_key e.target e.key) es

-- all that runs, in text order
abbrev pub runs_in : List TextUnit → List Equation
runs_in us = concat_map (λ (o : OrderUnit). o.runs) (order_units us)

abbrev defined_in : List Stated → List Def
defined_in ts = concat_map (λ (t : Stated). defined_by t.line t.stood) ts

-- what is stored is what is assigned and what is a block's own, and the derivatives are those of the states
pub record Matched (j : ℕ) (es : List Equation) (ds : List Def) : Type 0 where
  pub stored : count j (stored_keys es) ≡ count j (keys_with is_assigned ds) + count j (keys_with is_hidden ds)
  pub rated : count j (rated_keys es) ≡ count j (keys_with is_state ds)

module _ (j : ℕ) where
  -- of two rows, one behind the other
  runs_append : (f : Target → ℕ → List ℕ) (x y : List Equation)
      → count j (concat_map (λ (e : Equation). f e.target e.key) (x ++ y))
      ≡ count j (concat_map (λ (e : Equation). f e.target e.key) x)
      + count j (concat_map (λ (e : Equation). f e.target e.key) y)
  runs_append f x y =
      ap (count j) (concat_append (λ (e : Equation). f e.target e.key) x y) ∙ count_append j _ _

  with_append : (is : What → Bool) (ds es : List Def)
      → count j (keys_with is (ds ++ es)) ≡ count j (keys_with is ds) + count j (keys_with is es)
  with_append is ds es =
      ap (count j) (concat_append (λ (d : Def). only_if (is d.what) d.key) ds es) ∙ count_append j _ _

  matched_append : (x y : List Equation) (ds es : List Def) → Matched j x ds → Matched j y es
      → Matched j (x ++ y) (ds ++ es)
  matched_append x y ds es p q =
      record {
        stored =
            omega (
              arith,
              p.stored,
              q.stored,
              runs_append stored_key x y,
              with_append is_assigned ds es,
              with_append is_hidden ds es,
            );
        rated = omega (arith, p.rated, q.rated, runs_append rated_key x y, with_append is_state ds es);
      }

  -- constants run nothing
  constants_matched : (l : ℕ) (cs : List Constant) → Matched j [] (defined_alone l (constants cs) ++ [])
  unfolding concat_map count
  constants_matched l [] = record { stored = refl; rated = refl }
  constants_matched l (c ∷ cs) =
      let r = constants_matched l cs in
      record { stored = r.stored; rated = r.rated }

  -- inside a block a name's first setting is its definition
  inside_matched : (z : ℕ) (ns : List Inner)
      → Matched j (map inner_equation ns) (defined_in (map stated_inner ns ++ (stated z closing ∷ [])))
  unfolding concat_map count
  inside_matched z [] = record { stored = refl; rated = refl }
  inside_matched z (n ∷ ns) = go n.sets (inside_matched z ns)
    where
      go : (w : Sets)
          → Matched j (map inner_equation ns) (defined_in (map stated_inner ns ++ (stated z closing ∷ [])))
          → Matched j (equation n.line n.key (target_of w) n.tree ∷ map inner_equation ns)
          (defined_inside n.line n.key w ++ defined_in (map stated_inner ns ++ (stated z closing ∷ [])))
      go given r = record { stored = omega (arith, r.stored); rated = r.rated }
      go own r = record { stored = omega (arith, r.stored); rated = r.rated }
      go anew r = record { stored = r.stored; rated = r.rated }

  -- so it is with each unit
  unit_matched : (l : ℕ) (x : UnitBody)
      → Matched j (concat_map (λ (o : OrderUnit). o.runs) (order_unit_of l x)) (defined_in (stated_by l x))
  unfolding concat_map count
  unit_matched l (single (constants cs)) = constants_matched l cs
  unit_matched l (single (assignment k e)) = record { stored = omega arith; rated = refl }
  unit_matched l (single (state k i e)) = record { stored = refl; rated = refl }
  unit_matched l (block os is ns z) = rw (append-nil (map inner_equation ns)) (inside_matched z ns)

  -- WHAT RUNS in all units is what is defined there
  pub units_matched : (us : List TextUnit) → Matched j (runs_in us) (definitions us)
  unfolding concat_map count
  units_matched [] = record { stored = refl; rated = refl }
  units_matched (u ∷ us) =
      rw (
        concat_append (λ (o : OrderUnit). o.runs) (order_unit_of u.line u.body) (order_units us),
        concat_append (λ (t : Stated). defined_by t.line t.stood) (stated_by u.line u.body) (stated_in us),
      )
      (matched_append (concat_map (λ (o : OrderUnit). o.runs) (order_unit_of u.line u.body)) (runs_in us)
      (defined_in (stated_by u.line u.body)) (definitions us) (unit_matched u.line u.body) (units_matched us))

-- ---- where the names of the definitions stand once, a name is stored by one unit, or its derivative taken by one
abbrev pub stored_at : List TextUnit → ℕ → List ℕ
stored_at us i = stored_keys (unit_at us i).runs

abbrev pub rated_at : List TextUnit → ℕ → List ℕ
rated_at us i = rated_keys (unit_at us i).runs

module _ (us : List TextUnit) where
  -- of all units, one after the other
  all_stored : stored_keys (runs_in us) ≡ concat_map (λ (o : OrderUnit). stored_keys o.runs) (order_units us)
  all_stored =
      concat_concat (λ (e : Equation). stored_key e.target e.key) (λ (o : OrderUnit). o.runs) (order_units us)

  all_rated : rated_keys (runs_in us) ≡ concat_map (λ (o : OrderUnit). rated_keys o.runs) (order_units us)
  all_rated =
      concat_concat (λ (e : Equation). rated_key e.target e.key) (λ (o : OrderUnit). o.runs) (order_units us)

  -- what is assigned, and what is a block's own, is stored by some unit
  pub stored_by : (k : ℕ) → k ∈ (keys_with is_assigned (definitions us) ++ keys_with is_hidden (definitions us))
      → (i : ℕ) × (i < unit_count us) × (k ∈ stored_at us i)
  stored_by k h =
      let ds = definitions us in
      in_part (λ (o : OrderUnit). stored_keys o.runs) (order_units us) no_unit k
      (rw (← all_stored)
      (omega
      (arith, (units_matched k us).stored, count_append k (keys_with is_assigned ds) (keys_with is_hidden ds))))

  -- a state's derivative is taken by some unit
  pub rated_by : (k : ℕ) → k ∈ keys_with is_state (definitions us) → (i : ℕ) × (i < unit_count us) × (k ∈ rated_at us i)
  rated_by k h =
      in_part (λ (o : OrderUnit). rated_keys o.runs) (order_units us) no_unit k
      (rw (← all_rated) (omega (arith, (units_matched k us).rated)))

  -- what a unit stores is assigned or a block's own
  pub stored_defined : (i k : ℕ) → i < unit_count us → k ∈ stored_at us i
      → k ∈ (keys_with is_assigned (definitions us) ++ keys_with is_hidden (definitions us))
  stored_defined i k h m =
      let ds = definitions us in
      let all = part_in (λ (o : OrderUnit). stored_keys o.runs) (order_units us) no_unit i k h m in
      omega (
        arith,
        rw (← all_stored) at all,
        (units_matched k us).stored,
        count_append k (keys_with is_assigned ds) (keys_with is_hidden ds),
      )

  -- and what it takes a derivative of is a state
  pub rated_defined : (i k : ℕ) → i < unit_count us → k ∈ rated_at us i → k ∈ keys_with is_state (definitions us)
  rated_defined i k h m =
      let all = part_in (λ (o : OrderUnit). rated_keys o.runs) (order_units us) no_unit i k h m in
      omega (arith, rw (← all_rated) at all, (units_matched k us).rated)

  module _ (one : Once (keys (definitions us))) where
    -- no two units store one name
    pub stored_same : (i j k : ℕ) → i < unit_count us → j < unit_count us → k ∈ stored_at us i → k ∈ stored_at us j
        → i ≡ j
    stored_same =
        part_same (λ (o : OrderUnit). stored_keys o.runs) (order_units us) no_unit
        (rw (← all_stored) (λ k. omega (arith, one k, (units_matched k us).stored, count_keys k (definitions us))))

    -- nor take its derivative
    pub rated_same : (i j k : ℕ) → i < unit_count us → j < unit_count us → k ∈ rated_at us i → k ∈ rated_at us j → i ≡ j
    rated_same =
        part_same (λ (o : OrderUnit). rated_keys o.runs) (order_units us) no_unit
        (rw (← all_rated) (λ k. omega (arith, one k, (units_matched k us).rated, count_keys k (definitions us))))

-- ---- what units assign, where their blocks are sound

-- the definitions inside a block, up to its end
abbrev defined_inner : ℕ → List Inner → List Def
defined_inner z ns = defined_in (map stated_inner ns ++ (stated z closing ∷ []))

-- a name set for the first time is given exactly if it is an output
sets_given : (os above : List ℕ) (k : ℕ) → count k above ≡ 0 → k ∈ os → sets_for os above k ≡ given
sets_given os above k e h = rw (le-ltb 0 (count k above) (omega arith), in_has k os h)

given_output : (os above : List ℕ) (k : ℕ) → given ≡ sets_for os above k → k ∈ os
given_output os above k e = has_true k os (go (has k above) (has k os) e)
  where
    go : (b c : Bool) → given ≡ cond b anew (cond c given own) → c ≡ true
    go true c e = absurd (let z : ◌≡◌ {A = ℕ} 0 1 = cc in omega arith)
    go false true e = refl
    go false false e = absurd (let z : ◌≡◌ {A = ℕ} 0 1 = cc in omega arith)

module _ (free os is : List ℕ) (z k : ℕ) where
  -- so an output that is set inside is stored there, and its definition says that it is assigned
  abbrev Made : List Inner → Type 0
  Made ns = (k ∈ stored_keys (map inner_equation ns)) × (k ∈ keys_with is_assigned (defined_inner z ns))

  output_made : k ∈ os → (above : List ℕ) (ns : List Inner) → InnerSound free os is above ns → count k above ≡ 0
      → k ∈ map (λ (n : Inner). n.key) ns
      → Made ns
  unfolding concat_map count
  output_made o above [] w e h = absurd (omega arith)
  output_made o above (n ∷ ns) w e h =
      ⊎_elim (λ (q : k ≡ n.key). subst After (sym (same q)) (omega (arith, here q), omega (arith, here q)))
      (λ q.
      let r =
      output_made o (above ++ (n.key ∷ [])) ns w.3 (count_snoc_other k n.key above q ∙ e)
      (omega (arith, once_other k n.key q)) in (
        omega (
          arith,
          r.0,
          count_append k (stored_key (target_of n.sets) n.key) (stored_keys (map inner_equation ns)),
        ),
        omega (
          arith,
          r.1,
          with_append k is_assigned (defined_inside n.line n.key n.sets) (defined_inner z ns),
        ),
      ))
      (eq_or_ne k n.key)
    where
      -- with the first of them set so
      After : Sets → Type 0
      After x =
          (k ∈ stored_keys (equation n.line n.key (target_of x) n.tree ∷ map inner_equation ns))
          × (k ∈ keys_with is_assigned (defined_inside n.line n.key x ++ defined_inner z ns))

      same : k ≡ n.key → n.sets ≡ given
      same q = w.0 ∙ sets_given os above n.key (rw (← q) e) (rw (← q) o)

      here : k ≡ n.key → once (eqb k n.key) ≡ 1
      here q = rw (eq-eqb k n.key q)

  -- and what is assigned inside is an output
  made_output : (above : List ℕ) (ns : List Inner) → InnerSound free os is above ns
      → k ∈ keys_with is_assigned (defined_inner z ns) → k ∈ os
  unfolding concat_map count
  made_output above [] w h = absurd (omega arith)
  made_output above (n ∷ ns) w h =
      go n.sets w.0 h (made_output (above ++ (n.key ∷ [])) ns w.3)
    where
      go : (x : Sets) → x ≡ sets_for os above n.key
          → k ∈ keys_with is_assigned (defined_inside n.line n.key x ++ defined_inner z ns)
          → (k ∈ keys_with is_assigned (defined_inner z ns) → k ∈ os)
          → k ∈ os
      go given e m f =
          ⊎_elim (λ (q : k ≡ n.key). rw q (given_output os above n.key e))
          (λ q. f (omega (arith, once_other k n.key q)))
          (eq_or_ne k n.key)
      go own e m f = f m
      go anew e m f = f m

-- of two sums, part by part
either_stands : (a b c d : ℕ) → (0 < a) ↔ (0 < c) → (0 < b) ↔ (0 < d) → (0 < a + b) ↔ (0 < c + d)
either_stands a b c d p q = (
  λ h. ⊎_elim (λ m. omega (arith, p.0 m)) (λ m. omega (arith, q.0 (omega arith))) (lt_or_ge 0 a),
  λ h. ⊎_elim (λ m. omega (arith, p.1 m)) (λ m. omega (arith, q.1 (omega arith))) (lt_or_ge 0 c),
)

-- of a unit of order: what it assigns it stores
abbrev Stores : OrderUnit → Type 0
Stores o = (k : ℕ) → k ∈ o.assigns → k ∈ stored_keys o.runs

module _ (free : List ℕ) where
  -- so it is with each unit
  unit_stores : (l : ℕ) (x : UnitBody) → BodySound free x → Every Stores (order_unit_of l x)
  unfolding concat_map count
  unit_stores l (single (constants cs)) w = tt
  unit_stores l (single (assignment k e)) w = (λ j h. omega arith, tt)
  unit_stores l (single (state k i e)) w = (λ j h. absurd (omega arith), tt)
  unit_stores l (block os is ns z) w =
      (λ k h. (output_made free os is z k h [] ns w.inside refl (w.outputs k h)).0, tt)

  -- what it assigns is what is assigned by its definitions
  unit_assigns : (l : ℕ) (x : UnitBody) → BodySound free x → (k : ℕ)
      → (k ∈ concat_map (λ (o : OrderUnit). o.assigns) (order_unit_of l x))
      ↔ (k ∈ keys_with is_assigned (defined_in (stated_by l x)))
  unfolding concat_map count
  unit_assigns l (single (constants cs)) w k =
      (λ h. absurd (omega arith), λ h. absurd (omega (arith, (constants_matched k l cs).stored)))
  unit_assigns l (single (assignment j e)) w k = (λ h. omega arith, λ h. omega arith)
  unit_assigns l (single (state j i e)) w k = (λ h. absurd (omega arith), λ h. absurd (omega arith))
  unit_assigns l (block os is ns z) w k =
      rw (append-nil os) (
        λ h. (output_made free os is z k h [] ns w.inside refl (w.outputs k h)).1,
        λ h. made_output free os is z k [] ns w.inside h,
      )

  -- so it is with all units
  all_assigns : (us : List TextUnit) → Every (λ (u : TextUnit). BodySound free u.body) us → (k : ℕ)
      → (k ∈ concat_map (λ (o : OrderUnit). o.assigns) (order_units us)) ↔ (k ∈ keys_with is_assigned (definitions us))
  unfolding concat_map count
  all_assigns [] w k = (λ h. absurd (omega arith), λ h. absurd (omega arith))
  all_assigns (u ∷ us) w k =
      let assigns : OrderUnit → List ℕ = λ (o : OrderUnit). o.assigns in
      let mine = order_unit_of u.line u.body in
      let new = defined_in (stated_by u.line u.body) in
      let units : count k (concat_map assigns (mine ++ order_units us))
      ≡ count k (concat_map assigns mine) + count k (concat_map assigns (order_units us)) =
      ap (count k) (concat_append assigns mine (order_units us))
      ∙ count_append k (concat_map assigns mine) (concat_map assigns (order_units us)) in
      let defs : defined_in (stated_by u.line u.body ++ stated_in us) ≡ new ++ definitions us =
      concat_append (λ (t : Stated). defined_by t.line t.stood) (stated_by u.line u.body) (stated_in us) in
      rw (units, defs, with_append k is_assigned new (definitions us))
      (either_stands _ _ _ _ (unit_assigns u.line u.body w.0 k) (all_assigns us w.1 k))

module _ (us : List TextUnit) (sound : UnitsSound us) where
  -- what a unit assigns it stores
  pub assigns_stored : (i k : ℕ) → i < unit_count us → k ∈ (unit_at us i).assigns → k ∈ stored_at us i
  assigns_stored i k h =
      every_at Stores (order_units us) no_unit
      (every_concat (λ (u : TextUnit). BodySound (free_names us) u.body) Stores
      (λ (u : TextUnit). order_unit_of u.line u.body) (λ u w. unit_stores (free_names us) u.line u.body w) us
      sound) i h k

  -- so no two units assign one name, where names stand once
  pub assigns_same : Once (keys (definitions us)) → (i j k : ℕ) → i < unit_count us → j < unit_count us
      → k ∈ (unit_at us i).assigns → k ∈ (unit_at us j).assigns → i ≡ j
  assigns_same one i j k h g m n =
      stored_same us one i j k h g (assigns_stored i k h m) (assigns_stored j k g n)

  -- it is assigned by its definition
  pub assigns_defined : (i k : ℕ) → i < unit_count us → k ∈ (unit_at us i).assigns
      → k ∈ keys_with is_assigned (definitions us)
  assigns_defined i k h m =
      (all_assigns (free_names us) us sound k).0
      (part_in (λ (o : OrderUnit). o.assigns) (order_units us) no_unit i k h m)

  -- and what is assigned by its definition some unit assigns
  pub assigned_by : (k : ℕ) → k ∈ keys_with is_assigned (definitions us)
      → (i : ℕ) × (i < unit_count us) × (k ∈ (unit_at us i).assigns)
  assigned_by k h =
      in_part (λ (o : OrderUnit). o.assigns) (order_units us) no_unit k ((all_assigns (free_names us) us sound k).1 h)
