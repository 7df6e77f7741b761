-- What it says of units that they have no model fault.
use Prim.Native.Nat.{ℕ, ◌<◌}
use mathlib.Core.Path.{◌≡◌, refl}
use mathlib.Core.Bool.{Bool, true, false}
use mathlib.Core.Logic.{⊎_elim}
use mathlib.Core.List.{List, [], ◌∷◌, ◌++◌}
use native.Mathlib.Omega.{arith}
use Rattle.laws.specs.Lists.{concat_map, numbers}
use Rattle.laws.specs.Counts.{count, ◌∈◌, has}
use Rattle.laws.proofs.Tests.{and_true, eq_or_ne}
use Rattle.laws.specs.Every.{Every}
use Rattle.laws.proofs.Counts.{count_append, once_same, once_other, has_true}
use Rattle.laws.proofs.Every.{every_at, every_inside, every_concat}
use Rattle.laws.proofs.Concats.{none_left}
use Rattle.laws.proofs.Sums.{numbers_once}
use Rattle.drafts.specs.Tree.{Tree, names, from}
use Rattle.sheet.specs.Sheet.{Fault}
use Rattle.blocks.specs.Units.{constants, assignment, state, UnitBody, single, block, TextUnit, stated_in, OrderUnit}
use Rattle.blocks.specs.Units.{order_unit_of, order_units}
use Rattle.order.specs.Order.{Sortable, unsortable}
use Rattle.order.proofs.FirstOrder.{order_is_first}
use Rattle.model.specs.Definitions.{Def, definitions, keys, no_unit, unit_at, unit_count}
use Rattle.blocks.specs.Tests.{within}
use Rattle.model.specs.Faults.{faults21, outside_keys, constant_keys, initial_names, named_by, initial_of}
use Rattle.blocks.specs.Tests.{or_else}
use Rattle.model.specs.Faults.{name_fault, name_fault_of, name_faults, uses_in, fault24, faults24, model_faults}
use Rattle.model.specs.Faults.{GoodOrder, order_of}
use Rattle.model.proofs.KeyPlaces.{no_fault, outside_defined}

-- nothing in either list
pub or_else_none : (f g : List Fault) → or_else f g ≡ [] → (f ≡ []) × (g ≡ [])
or_else_none [] g e = (refl, e)
or_else_none (x ∷ f) g e = absurd (let z : ◌≡◌ {A = ℕ} 0 1 = cc in omega arith)

-- no fault of any sort
pub no_faults : (us : List TextUnit) → model_faults us ≡ []
    → (faults21 [] (stated_in us) ≡ []) × (name_faults (definitions us) us ≡ []) × (faults24 us ≡ [])
unfolding model_faults
no_faults us e =
    let a = or_else_none (faults21 [] (stated_in us)) _ e in
    let b = or_else_none (name_faults (definitions us) us) (faults24 us) a.1 in
    (a.0, b.0, b.1)

-- ---- no 24

-- nothing at any member
none_in : {B : Type 0} (f : ℕ → List B) (l : List ℕ) → concat_map f l ≡ [] → (a : ℕ) → a ∈ l → f a ≡ []
unfolding concat_map count
none_in f [] e a h = absurd (omega arith)
none_in f (b ∷ l) e a h =
    let p = none_left (f b) (concat_map f l) e in
    ⊎_elim (λ (q : a ≡ b). rw q p.0) (λ q. none_in f l p.1 a (omega (arith, once_other a b q))) (eq_or_ne a b)

-- no unit is unsortable
pub sortable : (us : List TextUnit) → faults24 us ≡ [] → Sortable (unit_count us) (uses_in us)
sortable us e i h =
    no_fault (unsortable (unit_count us) (uses_in us) i) (unit_at us i).line 24
    (none_in (fault24 us) (numbers (unit_count us) 0) e i
    (omega (arith, numbers_once (unit_count us) 0 i (omega arith) (omega arith))))

-- so the order is a permutation in which each stands after all it uses
pub order_good : (us : List TextUnit) → faults24 us ≡ [] → GoodOrder us (order_of us)
order_good us e = (order_is_first (unit_count us) (uses_in us) (sortable us e)).good

-- ---- no 22 and no 23

-- both tests hold
pub no_name_fault : (a b : Bool) (l : ℕ) → name_fault a b l ≡ [] → (a ≡ true) × (b ≡ true)
no_name_fault false b l e = absurd (let z : ◌≡◌ {A = ℕ} 0 1 = cc in omega arith)
no_name_fault true false l e = absurd (let z : ◌≡◌ {A = ℕ} 0 1 = cc in omega arith)
no_name_fault true true l e = (refl, refl)

-- each of the first list stands in the second
pub within_in : (ks l : List ℕ) → within ks l ≡ true → (k : ℕ) → k ∈ ks → k ∈ l
unfolding within count
within_in [] l e k h = absurd (omega arith)
within_in (a ∷ ks) l e k h =
    let p = and_true (has a l) (within ks l) e in
    ⊎_elim (λ (q : k ≡ a). rw q (has_true a l p.0))
    (λ q. within_in ks l p.1 k (omega (arith, once_other k a q)))
    (eq_or_ne k a)

-- what a unit without 22 and 23 names is known outside blocks, and the name of its initial is a constant's
pub record Known (ds : List Def) (x : UnitBody) : Type 0 where
  pub named : (k : ℕ) → k ∈ named_by x → k ∈ outside_keys ds
  pub initial : (k : ℕ) → k ∈ initial_of x → k ∈ constant_keys ds

-- so it is at each unit
pub all_known : (ds : List Def) (us : List TextUnit) → name_faults ds us ≡ []
    → Every (λ (u : TextUnit). Known ds u.body) us
unfolding concat_map
all_known ds [] e = tt
all_known ds (u ∷ us) e =
    let p = none_left (name_fault_of ds u) (name_faults ds us) e in
    let names = named_by u.body in
    let first = initial_of u.body in
    let t = no_name_fault (within names (outside_keys ds)) (within first (constant_keys ds)) u.line p.0 in (
      record {
        named = within_in names (outside_keys ds) t.0;
        initial = within_in first (constant_keys ds) t.1;
      },
      all_known ds us p.1,
    )

-- so the name of an initial is a constant's, and is defined
pub initial_known : (us a : List TextUnit) (u : TextUnit) (b : List TextUnit) → us ≡ a ++ u ∷ b
    → (ds : List Def) → name_faults ds us ≡ []
    → (k c : ℕ) (t : Tree) → u.body ≡ single (state k (from c) t) → (c ∈ keys ds) × (c ∈ constant_keys ds)
unfolding count
initial_known us a u b p ds e k c t q =
    let KnownUnit : TextUnit → Type 0 = λ (u : TextUnit). Known ds u.body in
    let w = every_inside KnownUnit a u b (rw p at (all_known ds us e)) in
    let v : Known ds (single (state k (from c) t)) = rw q at w in (
      outside_defined c ds (v.named c (omega (arith, once_same c))),
      v.initial c (omega (arith, once_same c)),
    )

-- ---- what a unit of order reads is known outside blocks
abbrev ReadsKnown : List Def → OrderUnit → Type 0
ReadsKnown ds o = (k : ℕ) → k ∈ o.reads → k ∈ outside_keys ds

unit_reads : (ds : List Def) (l : ℕ) (x : UnitBody) → Known ds x → Every (ReadsKnown ds) (order_unit_of l x)
unit_reads ds l (single (constants cs)) w = tt
unit_reads ds l (single (assignment k e)) w = (w.named, tt)
unit_reads ds l (single (state k i e)) w =
    (λ j h. w.named j (omega (arith, count_append j (initial_names i) (names e))), tt)
unit_reads ds l (block os is ns z) w = (w.named, tt)

pub reads_known : (us : List TextUnit) → name_faults (definitions us) us ≡ [] → (i : ℕ) → i < unit_count us
    → (k : ℕ) → k ∈ (unit_at us i).reads → k ∈ outside_keys (definitions us)
reads_known us e i h =
    let ds = definitions us in
    every_at (ReadsKnown ds) (order_units us) no_unit
    (every_concat (λ (u : TextUnit). Known ds u.body) (ReadsKnown ds)
    (λ (u : TextUnit). order_unit_of u.line u.body) (λ u w. unit_reads ds u.line u.body w) us
    (all_known ds us e)) i h
