-- Each stage of a grouping goes on from what the one before has left.
use Prim.Native.Nat.{ℕ, ◌+◌, ◌*◌, ◌≤◌, ◌<◌}
use mathlib.Core.Path.{◌≡◌, refl, ap, ap₂, ◌∙◌}
use mathlib.Core.Bool.{Bool, true, false, cond}
use mathlib.Core.List.{List, [], ◌∷◌}
use native.Mathlib.Omega.{arith}
use borrow.Author.Tests.{leb-true, eqb-true, ltb-false, not-true, lt-ltb, le-ltb}
use lib.Dec.{eqb, leb}
use lib.ListN.{length}
use lib.Seq.{sets}
use Rattle.limits.specs.Limits.{most_statements, most_definitions, text_bytes, fault_bytes}
use Rattle.laws.specs.Lists.{concat_map}
use Rattle.laws.specs.Places.{any_in}
use Rattle.laws.proofs.Tests.{and_true}
use Rattle.laws.proofs.Gathers.{any_none}
use Rattle.drafts.specs.Places.{begins, ends}
use Rattle.sheet.specs.Sheet.{Fault, fault_list}
use Rattle.blocks.specs.Places.{defining_in, faults25_in}
use Rattle.blocks.specs.InsidePlaces.{faults26_in, rewritten_kinds}
use Rattle.blocks.specs.Grouped.{Grouping}
use Rattle.blocks.specs.Grouped.{UnitArrays, unit_arrays, GroupOutcome, group_outcome, group_refused, group_faulted}
use Rattle.blocks.specs.Grouped.{some}
use Rattle.blocks.specs.Grouped.{falls, in_turn, group_roomy, group_fit, united, right_inside, paired}
use Rattle.blocks.specs.Grouped.{limited, grouped}
use Rattle.blocks.specs.Working.{Reported, SheetFollows, AllStand, Listed}
use Rattle.blocks.specs.InsideWorking.{Small, Turned}
use Rattle.blocks.proofs.StatementsStand.{turned_stand}

-- ---- faults reported

-- a list of no faults
no_faults : (fs : List Fault) → length fs ≡ 0 → fs ≡ []
no_faults [] e = refl
no_faults (f ∷ fs) e = absurd (omega arith)

module _ {fs : List Fault} {c : ℕ} {list list' : List ℕ} (v : Reported fs 0 c list list') where
  -- some stand, and are written
  pub faults_stand : {g : Grouping} (kinds : List ℕ) (a : UnitArrays) (rest : GroupOutcome) → 0 < c → g
      ≡ group_refused 7 c
      → group_outcome g kinds list' a ≡ cond (some fs) (group_faulted fs kinds list a) rest
  faults_stand kinds a rest h e =
      let n : c ≡ length fs = omega (arith, v.behind) in
      rw (lt-ltb 0 (length fs) (omega arith))
      (ap₂ (λ (g : Grouping) (l : List ℕ). group_outcome g kinds l a) (e ∙ ap (group_refused 7) n) v.written)

  -- none stands, and nothing is written
  pub faults_none : c ≤ 0 → (list' ≡ list) × (some fs ≡ false)
  unfolding fault_list concat_map
  faults_none h =
      let n : length fs ≡ 0 = omega (arith, v.behind) in (
        v.written ∙ ap (λ (gs : List Fault). sets list 0 (fault_list gs)) (no_faults fs n),
        le-ltb 0 (length fs) (omega arith),
      )

module _ (lines bounds kinds args : List ℕ) where
  -- ---- the units, and the kinds inside
  pub united_listed : {r : ℕ} {kinds' ulines ulines' ubounds ubounds' firsts firsts' : List ℕ} (faults : List ℕ)
      → Listed lines bounds kinds r ulines ulines' ubounds ubounds' firsts firsts'
      → kinds' ≡ rewritten_kinds (length lines) bounds kinds args
      → group_outcome (record { number = 0; count = 0; units = r }) kinds' faults (unit_arrays ulines' ubounds' firsts')
      ≡ united lines bounds kinds args faults (unit_arrays ulines ubounds firsts)
  unfolding united
  united_listed faults v e = rw (v.count, v.lines_put, v.bounds_put, v.firsts_put, e)

  -- ---- 26
  module _ {c : ℕ} {faults faults' : List ℕ}
      (v : Reported (faults26_in lines bounds kinds args) 0 c faults faults') where
    pub inside_fault : {g : Grouping} (a : UnitArrays) → 0 < c → g ≡ group_refused 7 c
        → group_outcome g kinds faults' a ≡ right_inside lines bounds kinds args faults a
    unfolding right_inside
    inside_fault a h e = faults_stand v kinds a (united lines bounds kinds args faults a) h e

    pub inside_none : {x : GroupOutcome} (a : UnitArrays) → c ≤ 0 → x ≡ united lines bounds kinds args faults' a
        → x ≡ right_inside lines bounds kinds args faults a
    unfolding right_inside
    inside_none a h e =
        let f = faults_none v h in
        rw f.1 (e ∙ ap (λ (l : List ℕ). united lines bounds kinds args l a) f.0)

  -- ---- 25
  module _ {c : ℕ} {faults faults' : List ℕ} (v : Reported (faults25_in lines bounds kinds) 0 c faults faults') where
    pub paired_fault : {g : Grouping} (a : UnitArrays) → 0 < c → g ≡ group_refused 7 c
        → group_outcome g kinds faults' a ≡ paired lines bounds kinds args faults a
    unfolding paired
    paired_fault a h e = faults_stand v kinds a (right_inside lines bounds kinds args faults a) h e

    pub paired_none : {x : GroupOutcome} (a : UnitArrays) → c ≤ 0 → x ≡ right_inside lines bounds kinds args faults' a
        → x ≡ paired lines bounds kinds args faults a
    unfolding paired
    paired_none a h e =
        let f = faults_none v h in
        rw f.1 (e ∙ ap (λ (l : List ℕ). right_inside lines bounds kinds args l a) f.0)

  -- ---- 6
  module _ {n : ℕ} (count : n ≡ length (defining_in kinds)) (faults : List ℕ) (a : UnitArrays) where
    pub counted_many : {g : Grouping} → most_definitions < n → g ≡ group_refused 6 0
        → group_outcome g kinds faults a ≡ limited lines bounds kinds args faults a
    unfolding limited
    counted_many h e =
        rw (lt-ltb most_definitions (length (defining_in kinds)) (omega arith))
        (ap (λ (g : Grouping). group_outcome g kinds faults a) e)

    pub counted_few : {x : GroupOutcome} → n ≤ most_definitions → x ≡ paired lines bounds kinds args faults a
        → x ≡ limited lines bounds kinds args faults a
    unfolding limited
    counted_few h e = rw (le-ltb most_definitions (length (defining_in kinds)) (omega arith)) e

-- ---- what the passes ask of arrays that fit
pub follows_small : {lines bounds kinds : List ℕ}
    → SheetFollows lines bounds kinds × (length (defining_in kinds) ≤ most_definitions) → Small (length lines) kinds
follows_small f = record { few = f.0.few; small = f.0.small; defined = f.1 }

pub follows_turned : {lines bounds kinds : List ℕ} → SheetFollows lines bounds kinds → Turned
    (length lines) bounds kinds
follows_turned f =
    record { few = f.few; rise = f.rise; first = f.first; ended = f.ended; one_more = f.one_more }

-- the statements are few, and each stands in the arrays
pub follows_stand : {lines bounds kinds : List ℕ} → SheetFollows lines bounds kinds
    → (length lines ≤ most_statements) × AllStand (length lines) bounds kinds
follows_stand f = (f.few, turned_stand (follows_turned f))

-- and there is a bound behind the last
pub follows_listed : {lines bounds kinds : List ℕ} → SheetFollows lines bounds kinds
    → (length lines ≤ most_statements) × (length lines < length bounds) × AllStand (length lines) bounds kinds
follows_listed f = let s = follows_stand f in (s.0, omega (arith, f.one_more), s.1)

-- ---- the arrays fit, or they do not
pub fit_sound : (lines bounds kinds : List ℕ) (args faults ulines ubounds firsts : ℕ)
    → group_fit lines bounds kinds args faults ulines ubounds firsts ≡ true → SheetFollows lines bounds kinds
unfolding group_fit in_turn
fit_sound lines bounds kinds args faults ulines ubounds firsts e =
    let a = and_true (leb (length lines) most_statements) _ e in
    let b = and_true (eqb (length bounds) (length lines + 1)) _ a.1 in
    let c = and_true (leb (length kinds) text_bytes) _ b.1 in
    let d = and_true (leb (length kinds) args) _ c.1 in
    let g = and_true (leb (fault_bytes * length lines) faults) _ d.1 in
    let w = and_true (group_roomy (length lines) ulines ubounds firsts) _ g.1 in
    let i = and_true (eqb (begins bounds 0) 0) _ w.1 in
    let j = and_true (eqb (begins bounds (length lines)) (length kinds)) _ i.1 in
    let none = any_none (falls bounds) (length lines) 0 (not-true (any_in (falls bounds) (length lines) 0) j.1) in
    record {
      few = leb-true _ _ a.0;
      small = leb-true _ _ c.0;
      rise = λ k h. ltb-false (ends bounds k) (begins bounds k) (none k (omega arith) (omega arith));
      first = eqb-true _ _ i.0;
      ended = eqb-true _ _ j.0;
      one_more = eqb-true _ _ b.0;
    }

-- there is room for all units and one more
pub record Room (n ulines ubounds firsts : ℕ) : Type 0 where
  pub lines_room : n + 1 ≤ ulines
  pub bounds_room : n + 1 ≤ ubounds
  pub firsts_room : n + 1 ≤ firsts

pub fit_room : (lines bounds kinds : List ℕ) (args faults ulines ubounds firsts : ℕ)
    → group_fit lines bounds kinds args faults ulines ubounds firsts ≡ true → Room (length lines) ulines ubounds firsts
unfolding group_fit group_roomy
fit_room lines bounds kinds args faults ulines ubounds firsts e =
    let a = and_true (leb (length lines) most_statements) _ e in
    let b = and_true (eqb (length bounds) (length lines + 1)) _ a.1 in
    let c = and_true (leb (length kinds) text_bytes) _ b.1 in
    let d = and_true (leb (length kinds) args) _ c.1 in
    let g = and_true (leb (fault_bytes * length lines) faults) _ d.1 in
    let w = and_true (group_roomy (length lines) ulines ubounds firsts) _ g.1 in
    let p = and_true (leb (length lines + 1) ulines) _ w.0 in
    let q = and_true (leb (length lines + 1) ubounds) _ p.1 in
    record { lines_room = leb-true _ _ p.0; bounds_room = leb-true _ _ q.0; firsts_room = leb-true _ _ q.1 }

module _ (lines bounds kinds args faults : List ℕ) (a : UnitArrays) where
  -- whether they fit
  abbrev pub fitted : Bool
  fitted = group_fit lines bounds kinds (length args) (length faults) (length a.lines) (length a.bounds)
      (length a.firsts)

  pub grouped_fit : {x : GroupOutcome} → fitted ≡ true → x ≡ limited lines bounds kinds args faults a
      → x ≡ grouped lines bounds kinds args faults a
  unfolding grouped
  grouped_fit t e = rw t e

  pub grouped_unfit : {g : Grouping} → fitted ≡ false → g ≡ group_refused 9 0
      → group_outcome g kinds faults a ≡ grouped lines bounds kinds args faults a
  unfolding grouped
  grouped_unfit t e = rw t (ap (λ (g : Grouping). group_outcome g kinds faults a) e)

-- the arrays that were lent hold what the units were written to
pub arrays_back : {g : Grouping} {kinds faults lines bounds firsts : List ℕ} {a : UnitArrays} {x : GroupOutcome}
    → group_outcome g kinds faults a ≡ x → lines ≡ a.lines → bounds ≡ a.bounds → firsts ≡ a.firsts
    → group_outcome g kinds faults (unit_arrays lines bounds firsts) ≡ x
arrays_back {g} {kinds} {faults} e l b f =
    ap (λ (a : UnitArrays). group_outcome g kinds faults a) (rw (l, b, f)) ∙ e
