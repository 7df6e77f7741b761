-- The stages of a plan: how what the passes leave makes up the outcome.
use Prim.Native.Nat.{ℕ, ◌+◌, ◌*◌, ◌≤◌, ◌<◌, min}
use mathlib.Core.Path.{◌≡◌, refl, sym, ap, ap₂, ◌∙◌, ◌≡⟨◌⟩◌, ◌∎}
use mathlib.Core.Bool.{Bool, true, false, cond}
use mathlib.Core.List.{List, [], ◌∷◌}
use native.Mathlib.Omega.{arith}
use borrow.Author.Tests.{ltb-false, leb-true, eqb-true, not-true, lt-ltb, le-ltb}
use lib.Dec.{eqb, leb}
use lib.ListN.{length, get_or, take, drop, replicate, length-replicate}
use lib.Seq.{sets, sets-eq, length-sets, length-take-le, take-append_seam}
use Rattle.limits.specs.Limits.{most_statements, most_definitions, text_bytes, fault_bytes}
use Rattle.laws.specs.Lists.{concat_map}
use Rattle.laws.specs.Places.{any_in, only_if}
use Rattle.laws.proofs.Tests.{and_true, or_left, or_right}
use Rattle.laws.proofs.Bools.{or_false}
use Rattle.laws.proofs.Runs.{inside as within}
use Rattle.laws.proofs.Gathers.{any_none, none_any, gather_none, gather_short}
use Rattle.sheet.specs.Sheet.{Fault, fault_list}
use Rattle.std.specs.Prelude.{Option, Some, None}
use Rattle.order.specs.Greedy.{order}
use Rattle.order.specs.Table.{uses_by_table, Fit, fits}
use Rattle.order.specs.Contract.{Sorts}
use Rattle.order.proofs.Tables.{fits_iff}
use Rattle.drafts.specs.Kinds.{defines, is_use, asks, is_named}
use Rattle.drafts.specs.Places.{begins, ends, any_of}
use Rattle.laws.specs.Put.{Put}
use Rattle.model.specs.Places.{defined_at, keys_in, places_in, doubles, resolved, undefined_at, unfit_at, names_at}
use Rattle.model.specs.Places.{nameless}
use Rattle.model.specs.Places.{is_ordered, ordered_in, assigned_slots, used_in, starts_from, loops}
use Rattle.blocks.specs.Grouped.{some, falls}
use Rattle.model.specs.Plan.{Lent, lent, with_places, PlanOutcome, plan_outcome, refused, faulted}
use Rattle.blocks.specs.Grouped.{in_turn}
use Rattle.model.specs.Plan.{roomy, fit}
use Rattle.model.specs.Plan.{ordered_plan, weighed, tested, own_slots, own_uses, linked_plan, distinct, sheeted}
use Rattle.model.specs.Plan.{planned}
use Rattle.blocks.specs.Working.{Reported}
use Rattle.model.specs.Working.{Collected, Keyed, flawed_at, Follows, Holds, Wide, Slotted, Owned}
use Rattle.model.specs.Working.{Unowned, Linkable, Linked, Links, Searched, Weighs}
use Rattle.model.specs.Working.{repeated}
use Rattle.model.specs.declared.names.Usage.{Usage}
use Rattle.model.specs.declared.stages.Link.{Link}
use Rattle.model.specs.Plan.{Plan}
use Rattle.model.proofs.DefinitionsCollected.{only_length}
use Rattle.model.proofs.KeysFound.{place_le}
use Rattle.model.proofs.RepeatedKeys.{as_many, repeated_doubles}
use Rattle.model.proofs.NamesResolved.{slot_named, resolved_at_holds}
use Rattle.model.proofs.UsesTabled.{used_few, table_fit, starts_length, ends_within}

-- ---- a row at the front of an array
front_length : (n : ℕ) (l : List ℕ) → length (sets (replicate n 0) 0 l) ≡ n
front_length n l = length-sets (replicate n 0) 0 l ∙ length-replicate {A = ℕ} n 0

pub front_row : (array l : List ℕ) → length l ≤ length array → take (length l) (sets array 0 l) ≡ l
front_row array l h = rw (sets-eq l array 0 (omega arith)) (take-append_seam l (drop (0 + length l) array))

pub prefix_length : (n : ℕ) (l : List ℕ) → n ≤ length l → n ≡ length (take n l)
prefix_length n l h = sym (length-take-le n l h)

pub holds_put : {row array array' : List ℕ} {n : ℕ} → Put row 0 n array array' → length row ≤ length array
    → Holds array' n row
holds_put {row} {array} {array'} {n} p h =
    let l : n ≡ length row = omega (arith, p.behind) in
    record {
      long = l;
      room = omega (arith, ap length p.written, length-sets array 0 row);
      front = rw (p.written, l) (front_row array row h);
    }

-- the front is itself a row that is held
pub holds_front : {array row : List ℕ} {n : ℕ} → Holds array n row → Holds array n (take n array)
holds_front h = rw h.front h

-- ---- an outcome by its parts
outcome_same : {p q : Plan} {list list' : List ℕ} {l l' : Lent} (args used : List ℕ) → p ≡ q → list ≡ list' → l ≡ l'
    → plan_outcome p args used list l ≡ plan_outcome q args used list' l'
outcome_same args used a b e = cc

-- ---- no faults
no_faults : (fs : List Fault) → length fs ≡ 0 → fs ≡ []
no_faults [] e = refl
no_faults (f ∷ fs) e = absurd (let z : ⊥ = omega arith in z)

module _ {fs : List Fault} {c : ℕ} {list list' : List ℕ} (v : Reported fs 0 c list list') where
  -- faults stand
  pub faults_stand : (args used : List ℕ) (l : Lent) (rest : PlanOutcome) → 0 < c
      → plan_outcome (refused 7 c) args used list' l ≡ cond (some fs) (faulted fs args used list l) rest
  faults_stand args used l rest h =
      let n : c ≡ length fs = omega (arith, v.behind) in
      rw (lt-ltb 0 (length fs) (omega arith)) (outcome_same args used (ap (refused 7) n) v.written refl)

  -- none stands, and nothing is written
  pub faults_none : c ≤ 0 → (list' ≡ list) × (some fs ≡ false)
  unfolding fault_list concat_map
  faults_none h =
      let n : length fs ≡ 0 = omega (arith, v.behind) in (
        v.written
            ∙ ap (λ (gs : List Fault). sets list 0 (fault_list gs)) (no_faults fs n),
        le-ltb 0 (length fs) (omega arith),
      )

-- ---- 24
module _ (equated : List ℕ) {starts used array out : List ℕ} {r : Option ℕ}
    (v : Sorts (length equated) starts used array r out)
    (f : Fit (length equated) starts used)
    (w : most_statements ≤ length array) where
  abbrev in_order : List ℕ
  in_order = order (length equated) (uses_by_table starts used)

  sorts_room : length equated ≤ length array
  sorts_room = omega (arith, f.few)

  fitting : fits (length equated) starts used (length array) ≡ true
  fitting = (fits_iff (length equated) starts used (length array)).1 (f, sorts_room)

  -- a table that fits is sorted
  pub sorts_fit : r ≡ None → ⊥
  sorts_fit e = let a = v.answer in let p : r ≡ Some (length in_order) = rw fitting at a in cc

  sorts_count : {k : ℕ} → r ≡ Some k → k ≡ length in_order
  sorts_count e = let a = v.answer in let p : r ≡ Some (length in_order) = rw fitting at a in cc

  sorts_content : out ≡ sets array 0 in_order
  sorts_content = let a = v.content in rw fitting at a

  pub sorts_long : length out ≡ length array
  sorts_long = ap length sorts_content ∙ length-sets array 0 in_order

  -- fewer are placed than there are
  pub sorts_short : {faults faults' : List ℕ} {k c : ℕ} (n : ℕ) (lines : List ℕ) → r ≡ Some k → k < length equated
      → Reported (loops (take k out) equated lines) 0 c faults faults' → (slots filled places array₁ : List ℕ)
      → plan_outcome (refused 7 c) slots filled faults' (lent places array₁ out)
      ≡ ordered_plan in_order n equated lines slots filled faults (lent places array₁ array)
  unfolding ordered_plan
  sorts_short {faults} {faults'} {k} {c} n lines e l u slots filled places array₁ =
      let front : take k out ≡ in_order =
      rw (sorts_content, sorts_count e) (front_row array in_order (omega (arith, sorts_room, sorts_count e))) in
      let reported : Reported (loops in_order equated lines) 0 c faults faults' = rw front at u in
      let count : c ≡ length (loops in_order equated lines) = omega (arith, reported.behind) in
      rw (lt-ltb (length in_order) (length equated) (omega (arith, sorts_count e)))
      (outcome_same slots filled (ap (refused 7) count) reported.written
      (ap (lent places array₁) sorts_content))

  -- all are placed
  pub sorts_whole : {k : ℕ} (n : ℕ) (lines faults : List ℕ) → r ≡ Some k → length equated ≤ k
      → (slots filled places array₁ : List ℕ)
      → plan_outcome (record { number = 0; count = 0; definitions = n; units = length equated }) slots filled faults
      (lent places array₁ out)
      ≡ ordered_plan in_order n equated lines slots filled faults (lent places array₁ array)
  unfolding ordered_plan
  sorts_whole n lines faults e l slots filled places array₁ =
      rw (le-ltb (length in_order) (length equated) (omega (arith, sorts_count e)))
      (outcome_same slots filled refl refl (ap (lent places array₁) sorts_content))

-- the units of the order are no more than the units
pub equated_few : (n : ℕ) (bounds kinds : List ℕ) → length (ordered_in n bounds kinds) ≤ n
unfolding ordered_in
equated_few n bounds kinds =
    gather_short (λ j. only_if (is_ordered bounds kinds j) j) (λ j. only_length (is_ordered bounds kinds j) j) n 0

-- ---- the table of uses is written
module _ {lines bounds kinds keys places args slots used used' starts equated : List ℕ} {m : ℕ} {n : Usage}
    (s : Follows lines bounds kinds used)
    (h : Holds equated m (ordered_in (length lines) bounds kinds))
    (k : Linked lines bounds kinds keys places n args slots (replicate (most_statements + 1) 0) starts used used') where
  abbrev listed : List ℕ
  listed = ordered_in (length lines) bounds kinds

  abbrev own : List (List ℕ)
  own = assigned_slots listed bounds kinds slots

  -- not more is used than there are drafts
  few : length (used_in own bounds kinds slots listed) ≤ length kinds
  few = omega (arith, used_few own bounds kinds slots (length lines) s.rises, s.ended)

  m_few : m ≤ most_statements
  m_few = omega (arith, h.long, equated_few (length lines) bounds kinds, s.few)

  starts_long : m + 1 ≡ length (starts_from 0 own bounds kinds slots listed)
  starts_long = omega (arith, starts_length own bounds kinds slots 0 listed, h.long)

  used_long : n.count ≡ length (used_in own bounds kinds slots listed)
  used_long = omega (arith, k.tabled_so.uses.behind)

  -- what is weighed stands at the front of two arrays
  pub weighs : Weighs lines bounds kinds slots m n.count starts used' equated
  weighs =
      record {
        few = s.few;
        few_equated = m_few;
        equated_held = h;
        starts_room =
            omega (
              arith,
              m_few,
              ap length k.tabled_so.begun,
              front_length (most_statements + 1) (starts_from 0 own bounds kinds slots listed),
            );
        starts_held =
            rw (k.tabled_so.begun, starts_long)
            (front_row (replicate (most_statements + 1) 0) (starts_from 0 own bounds kinds slots listed) room);
        used_room =
            omega (
              arith,
              used_long,
              few,
              s.room,
              ap length k.tabled_so.uses.written,
              length-sets used 0 (used_in own bounds kinds slots listed),
            );
        used_held = rw (k.tabled_so.uses.written, used_long)
            (front_row used (used_in own bounds kinds slots listed) (omega (arith, few, s.room)));
      }
    where
      room : length (starts_from 0 own bounds kinds slots listed) ≤ length (replicate {A = ℕ} (most_statements + 1) 0)
      room = omega (arith, starts_long, m_few, length-replicate {A = ℕ} (most_statements + 1) 0)

module _ {lines bounds kinds slots starts used equated : List ℕ} {m w : ℕ}
    (v : Weighs lines bounds kinds slots m w starts used equated) where
  pub weighed_fit : Fit (length (take m equated)) (take (m + 1) starts) (take w used)
  weighed_fit =
      let listed = ordered_in (length lines) bounds kinds in
      rw (v.starts_held, v.used_held, v.equated_held.front)
      (table_fit listed bounds kinds slots (omega (arith, v.few_equated, v.equated_held.long)))

  pub weighed_by : {p : Plan} {faults' placed' : List ℕ} (n : ℕ) (faults placed : List ℕ)
      → ((slots filled places array : List ℕ)
      → plan_outcome p slots filled faults' (lent places array placed')
      ≡ ordered_plan (order (length (take m equated)) (uses_by_table (take (m + 1) starts) (take w used))) n
      (take m equated) lines slots filled faults
      (lent places array placed))
      → (places : List ℕ)
      → plan_outcome p slots used faults' (lent places equated placed')
      ≡ weighed (ordered_in (length lines) bounds kinds) n lines bounds kinds slots used faults
      (lent places equated placed)
  unfolding weighed
  weighed_by n faults placed e places = e slots used places equated ∙ same
    where
      same : ordered_plan (order (length (take m equated)) (uses_by_table (take (m + 1) starts) (take w used))) n
          (take m equated) lines slots used faults
          (lent places equated placed)
          ≡ weighed (ordered_in (length lines) bounds kinds) n lines bounds kinds slots used faults
          (lent places equated placed)
      same = rw (v.starts_held, v.used_held, v.equated_held.front)

-- ---- a name that is used has one of the slots of the definitions, or the one behind
slotted : (keys kinds args : List ℕ) (n : ℕ) → length keys + 1 < n → length kinds ≤ length args
    → Slotted n kinds (resolved keys kinds args)
slotted keys kinds args n h l = record { slot = λ i k. small i k }
  where
    small : (i : ℕ) → is_use (get_or kinds i 0) ≡ true → get_or (resolved keys kinds args) i 0 < n
    small i k =
        let inside : i < length kinds = within is_use kinds i refl k in
        let asked = or_left (is_use (get_or kinds i 0)) _ k in
        let named : is_named (get_or kinds i 0) ≡ true =
        or_right (defines (get_or kinds i 0)) _ (or_left (asks (get_or kinds i 0)) _ asked) in
        let value = slot_named keys (get_or kinds i 0) (get_or args i 0) named refl in
        omega (arith, resolved_at_holds keys kinds args i inside l, value, place_le (get_or args i 0) keys)

-- no more keys than drafts
keys_few : (kinds args : List ℕ) → length (keys_in kinds args) ≤ length kinds
unfolding keys_in
keys_few kinds args =
    gather_short (defined_at kinds args) (λ i. only_length (defines (get_or kinds i 0)) (get_or args i 0))
    (length kinds) 0

-- as many keys as places
as_many_keys : (kinds args : List ℕ) → length (keys_in kinds args) ≡ length (places_in kinds)
unfolding keys_in places_in
as_many_keys kinds args = sym (as_many kinds args (length kinds) 0)

-- ---- 22 and 23: where no draft is flawed, no unit is
module _ (lines bounds kinds slots places : List ℕ) (inside : (j : ℕ) → j < length lines → ends bounds j ≤ length kinds)
    (clear : any_in (flawed_at places kinds slots) (length kinds) 0 ≡ false) where
  none_at : (i : ℕ) → i < length kinds → (undefined_at places kinds slots i ≡ false)
      × (unfit_at places kinds slots i ≡ false)
  none_at i h =
      or_false (undefined_at places kinds slots i) (unfit_at places kinds slots i)
      (any_none (flawed_at places kinds slots) (length kinds) 0 clear i (omega arith) (omega arith))

  nameless_none : nameless places lines bounds kinds slots ≡ []
  unfolding nameless
  nameless_none =
      gather_none (names_at places lines bounds kinds slots) (length lines) 0
      (λ j _ h.
      let within = inside j (omega arith) in
      let undefined : any_of bounds (undefined_at places kinds slots) j ≡ false =
      none_any (undefined_at places kinds slots) _ (begins bounds j) (λ i a l. (none_at i (omega arith)).0) in
      let unfit : any_of bounds (unfit_at places kinds slots) j ≡ false =
      none_any (unfit_at places kinds slots) _ (begins bounds j) (λ i a l. (none_at i (omega arith)).1) in
      rw (undefined, unfit))

-- none is reported then
pub names_clear : {lines bounds kinds slots places : List ℕ} {flawed : Bool} (list : List ℕ)
    → Searched lines bounds kinds slots places flawed → flawed ≡ false
    → Reported (nameless places lines bounds kinds slots) 0 0 list list
unfolding fault_list concat_map
names_clear {lines} {bounds} {kinds} {slots} {places} list s e =
    rw (nameless_none lines bounds kinds slots places s.inside (sym s.flaw ∙ e))
    (record { behind = refl; written = refl })

-- ---- 21: lines and bounds are those of statements, ulines and ubounds those of units
module _ {lines bounds ulines ubounds kinds args used keys places : List ℕ} (s : Follows lines bounds kinds used)
    (k : Keyed ulines ubounds kinds args used keys places) {faults faults' : List ℕ} {c : ℕ}
    (v : Reported (repeated lines bounds keys places) 0 c faults faults') where
  doubled : Reported (doubles lines bounds kinds args) 0 c faults faults'
  doubled =
      let same : repeated lines bounds keys places ≡ doubles lines bounds kinds args =
      ap₂ (repeated lines bounds) k.keys_so k.placed
      ∙ repeated_doubles kinds args lines bounds s.rises (ends_within s) in
      rw same at v

  pub distinct_fault : (l : Lent) → 0 < c
      → plan_outcome (refused 7 c) args used faults' l ≡ distinct lines bounds ulines ubounds kinds args used faults l
  unfolding distinct
  distinct_fault l h =
      let slots = resolved (keys_in kinds args) kinds args in
      faults_stand doubled args used l (linked_plan (places_in kinds) ulines ubounds kinds slots used faults l) h

  pub distinct_none : {p : Plan} {slots used' faults'' : List ℕ} {l' : Lent} (l : Lent) → c ≤ 0
      → plan_outcome p slots used' faults'' l'
      ≡ linked_plan (places_in kinds) ulines ubounds kinds (resolved (keys_in kinds args) kinds args) used faults' l
      → plan_outcome p slots used' faults'' l' ≡ distinct lines bounds ulines ubounds kinds args used faults l
  unfolding distinct
  distinct_none l h e =
      let f = faults_none doubled h in
      let slots = resolved (keys_in kinds args) kinds args in
      let same = ap (λ (a : List ℕ). linked_plan (places_in kinds) ulines ubounds kinds slots used a l) f.0 in
      rw f.1 (e ∙ same)

-- ---- linking
module _ {lines bounds kinds args used keys places : List ℕ} (k : Keyed lines bounds kinds args used keys places) where
  -- there is room for the units of the order
  pub ordered_held : {equated equated' : List ℕ} {m : ℕ}
      → Put (ordered_in (length lines) bounds kinds) 0 m equated equated' → most_statements ≤ length equated
      → Holds equated' m (ordered_in (length lines) bounds kinds)
  ordered_held put room = holds_put put (omega (arith, equated_few (length lines) bounds kinds, k.sound.few))

  -- the owners of the slots at hand, the names can be resolved
  pub linkable : {owners : List ℕ} → Owned (own_slots (length lines) bounds kinds (resolved keys kinds args)) owners
      → length keys + 1 < length owners → Linkable lines bounds kinds keys owners args used
  linkable {owners} o room =
      record {
        sound = k.sound;
        few = k.few;
        wide = k.wide;
        owned = o;
        slotted = slotted keys kinds args (length owners) room k.wide;
      }

  -- with the units of the order written, the names resolved, and what is used tabled
  module _ {slots starts used' equated equated' : List ℕ} {n : Link}
      (r : Links lines bounds kinds keys places n args slots used used' equated equated' starts) where
    same_slots : slots ≡ resolved (keys_in kinds args) kinds args
    same_slots = r.linked.resolved_so.same ∙ ap (λ (a : List ℕ). resolved a kinds args) k.keys_so

    -- the search for 22 and 23 can be made
    pub searched : Searched lines bounds kinds slots places n.usage.flawed
    searched = record { few = k.sound.few; inside = ends_within k.sound; flaw = r.linked.resolved_so.found }

    -- what is found of the names is found of the plan
    linked_by : {p : Plan} {faults' : List ℕ} {l' : Lent} (faults places₀ placed : List ℕ)
        → plan_outcome p slots used' faults' l' ≡ tested (places_in kinds) lines bounds kinds slots used' faults
        (lent places₀ equated' placed)
        → plan_outcome p slots used' faults' l'
        ≡ linked_plan (places_in kinds) lines bounds kinds (resolved (keys_in kinds args) kinds args) used faults
        (lent places₀ equated placed)
    unfolding linked_plan
    linked_by {p} {faults'} {l'} faults places₀ placed e =
        plan_outcome p slots used' faults' l' ≡⟨ e ⟩
        rest used' slots equated' ≡⟨ ap (λ (u : List ℕ). rest u slots equated') r.linked.tabled_so.uses.written ⟩
        rest (uses slots) slots equated' ≡⟨ ap (rest (uses slots) slots) r.units_put.written ⟩
        rest (uses slots) slots ordered ≡⟨ ap (λ (a : List ℕ). rest (uses a) a ordered) same_slots ⟩
        rest (uses (resolved (keys_in kinds args) kinds args)) (resolved (keys_in kinds args) kinds args) ordered ∎
      where
        -- the plan by the table of uses, the slots and the units of the order; the table by the slots; the units
        -- written
        rest : List ℕ → List ℕ → List ℕ → PlanOutcome
        rest u a v = tested (places_in kinds) lines bounds kinds a u faults (lent places₀ v placed)

        uses : List ℕ → List ℕ
        uses a = sets used 0 (own_uses (length lines) bounds kinds a)

        ordered : List ℕ
        ordered = sets equated 0 (ordered_in (length lines) bounds kinds)

    module _ {faults faults' : List ℕ} {c : ℕ}
        (v : Reported (nameless places lines bounds kinds slots) 0 c faults faults') (places₀ placed : List ℕ) where
      reported : Reported (nameless (places_in kinds) lines bounds kinds slots) 0 c faults faults'
      reported = rw k.placed at v

      pub tested_fault : 0 < c
          → plan_outcome (refused 7 c) slots used' faults' (lent places₀ equated' placed)
          ≡ linked_plan (places_in kinds) lines bounds kinds (resolved (keys_in kinds args) kinds args) used faults
          (lent places₀ equated placed)
      unfolding tested
      tested_fault h =
          let l = lent places₀ equated' placed in
          let rest = weighed (ordered_in (length lines) bounds kinds)
          (length (places_in kinds)) lines bounds kinds slots used' faults l in
          linked_by faults places₀ placed (faults_stand reported slots used' l rest h)

      pub tested_none : {p : Plan} {b : ℕ} {faults'' placed' : List ℕ} → b ≡ length places → c ≤ 0
          → plan_outcome p slots used' faults'' (lent places₀ equated' placed')
          ≡ weighed (ordered_in (length lines) bounds kinds) b lines bounds kinds slots used' faults'
          (lent places₀ equated' placed)
          → plan_outcome p slots used' faults'' (lent places₀ equated' placed')
          ≡ linked_plan (places_in kinds) lines bounds kinds (resolved (keys_in kinds args) kinds args) used faults
          (lent places₀ equated placed)
      unfolding tested
      tested_none q h e =
          let f = faults_none reported h in
          let equated = ordered_in (length lines) bounds kinds in
          let count = q ∙ ap length k.placed in
          let same =
          ap₂
          (λ (b : ℕ) (list : List ℕ). weighed equated b lines bounds kinds slots used' list
          (lent places₀ equated' placed))
          count f.0 in
          linked_by faults places₀ placed (rw f.1 (e ∙ same))

-- ---- the definitions at hand: their keys and places stand at the front, and there is room for their links and for the
-- owners of their slots
pub record Defined (kinds args : List ℕ) (n : ℕ) (keys places links owners : List ℕ) : Type 0 where
  pub few : n ≤ most_definitions
  pub keys_held : Holds keys n (keys_in kinds args)
  pub places_held : Holds places n (places_in kinds)
  pub links_wide : n ≤ length links
  pub unowned : Unowned n owners

module _ {kinds args keys places links owners : List ℕ} {n : ℕ}
    (d : Defined kinds args n keys places links owners) where
  pub keyed : {lines bounds used : List ℕ} → Follows lines bounds kinds used → length kinds ≤ length args
      → Keyed lines bounds kinds args used (take n keys) (take n places)
  keyed s w =
      record {
        sound = s;
        wide = w;
        few = omega (arith, (holds_front d.keys_held).long, d.few);
        keys_so = d.keys_held.front;
        placed = d.places_held.front;
      }

module _ {kinds args keys₀ keys places places' : List ℕ} {n : ℕ}
    (v : Collected kinds args n keys₀ keys places places') where
  counted : n ≡ length (keys_in kinds args)
  counted = omega (arith, v.keys_so.behind)

  -- there is room for them, where there are no more than there may be
  pub defined : (k o : ℕ) → keys₀ ≡ replicate k 0 → min (length kinds) most_definitions ≤ k → k + 2 ≤ o
      → most_definitions ≤ length places → n ≤ most_definitions
      → Defined kinds args n keys places' (replicate k 0) (replicate o 0)
  defined k o e room more wide few =
      let within : n ≤ min (length kinds) most_definitions = omega (arith, counted, keys_few kinds args) in
      let long = length-replicate {A = ℕ} k 0 in
      let longer = length-replicate {A = ℕ} o 0 in
      record {
        few = few;
        keys_held = holds_put v.keys_so (omega (arith, within, counted, ap length e, long));
        places_held = holds_put v.placed (omega (arith, counted, as_many_keys kinds args));
        links_wide = omega (arith, within, long);
        unowned = record { room = omega (arith, within, longer); none = rw longer };
      }

  -- the places are written
  arrays : (equated order : List ℕ) → lent places' equated order
      ≡ with_places (places_in kinds) (lent places equated order)
  arrays equated order = ap (λ (a : List ℕ). lent a equated order) v.placed.written

  module _ (lines bounds ulines ubounds used faults equated order : List ℕ) where
    pub sheeted_many : most_definitions < n
        → plan_outcome (refused 6 0) args used faults (lent places' equated order)
        ≡ sheeted lines bounds ulines ubounds kinds args used faults
        (lent places equated order)
    unfolding sheeted
    sheeted_many h =
        rw (lt-ltb most_definitions (length (keys_in kinds args)) (omega (arith, counted)))
        (outcome_same args used refl refl (arrays equated order))

    pub sheeted_few : {p : Plan} {args' used' faults' : List ℕ} {l' : Lent} → n ≤ most_definitions
        → plan_outcome p args' used' faults' l'
        ≡ distinct lines bounds ulines ubounds kinds args used faults (lent places' equated order)
        → plan_outcome p args' used' faults' l'
        ≡ sheeted lines bounds ulines ubounds kinds args used faults (lent places equated order)
    unfolding sheeted
    sheeted_few h e =
        rw (le-ltb most_definitions (length (keys_in kinds args)) (omega (arith, counted)))
        (e ∙ ap (distinct lines bounds ulines ubounds kinds args used faults) (arrays equated order))

-- ---- the arrays fit, or they do not

-- statements, or units, that follow each other
turn_follows : (lines bounds kinds used : List ℕ) → length lines ≤ most_statements → length kinds ≤ text_bytes
    → length kinds ≤ length used → in_turn bounds (length lines) (length kinds) ≡ true → Follows lines bounds kinds used
unfolding in_turn
turn_follows lines bounds kinds used few small room e =
    let i = and_true (eqb (begins bounds 0) 0) _ e in
    let j = and_true (eqb (begins bounds (length lines)) (length kinds)) _ i.1 in
    let none = any_none (falls bounds) (length lines) 0 (not-true (any_in (falls bounds) (length lines) 0) j.1) in
    record {
      few = few;
      small = small;
      room = room;
      rises = record { rise = λ k h. ltb-false (ends bounds k) (begins bounds k) (none k (omega arith) (omega arith)) };
      first = eqb-true _ _ i.0;
      ended = eqb-true _ _ j.0;
    }

pub fit_sound : (lines bounds ulines ubounds kinds used equated order : List ℕ) (args faults places : ℕ)
    → fit lines bounds ulines ubounds kinds args (length used) faults places (length equated) (length order) ≡ true
    → Follows lines bounds kinds used × Follows ulines ubounds kinds used × (length kinds ≤ args)
    × (most_definitions ≤ places) × Wide equated order
unfolding fit roomy
fit_sound lines bounds ulines ubounds kinds used equated order args faults places e =
    let a = and_true (leb (length lines) most_statements) _ e in
    let b = and_true (eqb (length bounds) (length lines + 1)) _ a.1 in
    let l = and_true (leb (length ulines) (length lines)) _ b.1 in
    let ub = and_true (eqb (length ubounds) (length ulines + 1)) _ l.1 in
    let c = and_true (leb (length kinds) text_bytes) _ ub.1 in
    let d = and_true (leb (length kinds) args) _ c.1 in
    let f = and_true (leb (length kinds) (length used)) _ d.1 in
    let g = and_true (leb (fault_bytes * length lines) faults) _ f.1 in
    let w = and_true (roomy places (length equated) (length order)) _ g.1 in
    let turns = and_true (in_turn bounds (length lines) (length kinds)) _ w.1 in
    let p = and_true (leb most_definitions places) _ w.0 in
    let q = and_true (leb most_statements (length equated)) _ p.1 in
    let few : length lines ≤ most_statements = leb-true _ _ a.0 in
    let fewer : length ulines ≤ most_statements =
    let h : length ulines ≤ length lines = leb-true _ _ l.0 in omega arith in
    let small : length kinds ≤ text_bytes = leb-true _ _ c.0 in
    let room : length kinds ≤ length used = leb-true _ _ f.0 in (
      turn_follows lines bounds kinds used few small room turns.0,
      turn_follows ulines ubounds kinds used fewer small room turns.1,
      leb-true _ _ d.0,
      leb-true _ _ p.0,
      record { equated_room = leb-true _ _ q.0; order_room = leb-true _ _ q.1 },
    )

module _ (lines bounds ulines ubounds kinds args used faults : List ℕ) (l : Lent) where
  -- whether they fit
  abbrev fitted : Bool
  fitted =
      fit lines bounds ulines ubounds kinds (length args) (length used) (length faults) (length l.places)
      (length l.equated) (length l.order)

  pub planned_fit : {p : Plan} {args' used' faults' : List ℕ} {l' : Lent} → fitted ≡ true
      → plan_outcome p args' used' faults' l' ≡ sheeted lines bounds ulines ubounds kinds args used faults l
      → plan_outcome p args' used' faults' l' ≡ planned lines bounds ulines ubounds kinds args used faults l
  unfolding planned
  planned_fit t e = rw t e

  pub planned_unfit : fitted ≡ false
      → plan_outcome (refused 9 0) args used faults l ≡ planned lines bounds ulines ubounds kinds args used faults l
  unfolding planned
  planned_unfit t = rw t
