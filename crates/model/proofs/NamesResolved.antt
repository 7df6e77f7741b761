-- Names resolved, and the faults 22 and 23.
use Prim.Native.Nat.{ℕ, zero, suc, ◌+◌, ◌-◌, ◌≤◌, ◌<◌}
use mathlib.Core.Path.{◌≡◌, refl, sym, ap, ap₂, ◌∙◌}
use mathlib.Core.Bool.{Bool, true, false, not, cond, ◌&&◌, ◌||◌}
use mathlib.Core.List.{List, [], ◌∷◌, ◌++◌, append_assoc}
use native.Mathlib.Nat.{sub-zero}
use native.Mathlib.Numerals.{add-one}
use native.Mathlib.Omega.{arith}
use lib.Dec.{eqb}
use lib.ListN.{length, get_or, set, take, drop, length-set, drop_of_length-le, take-append-drop}
use lib.Seq.{drop-cons, set-get_or, take-suc-set, drop-set-lt, get_or_at, length-take-le}
use Rattle.laws.specs.Places.{any_in}
use Rattle.laws.proofs.Tests.{not_both, cond_ind, or_right}
use Rattle.laws.proofs.Bools.{or_false}
use Rattle.laws.proofs.Runs.{held as stands}
use Rattle.laws.proofs.Gathers.{any_step, any_stop, any_pass, any_done}
use Rattle.model.specs.Definitions.{place_in}
use Rattle.std.specs.Prelude.{Option, Some, None}
use Rattle.faults.specs.declared.Fault.{Fault as FaultKind}
use Rattle.faults.specs.declared.Fault.TheVariants.{Undefined, NoConstant}
use Rattle.model.specs.Faults.{name_fault}
use Rattle.drafts.specs.Kinds.{kind_constant, kind_from, defines, is_use, asks, is_named}
use Rattle.drafts.specs.Places.{home_of, begins, ends, any_of}
use Rattle.model.specs.Places.{resolved_at, resolved, unknown, undefined_at, unfit_at, names_at}
use Rattle.model.specs.Working.{flawed_by, flawed_at, Resolved, Resolving, name_flaw}
use Rattle.blocks.specs.Contract.{fault_of}
use Rattle.model.proofs.ReportedFaults.{fault_length}

-- ---- tests one after the other
or_false_right : (a : Bool) {b : Bool} → b ≡ false → a ≡ (a || b)
or_false_right true e = refl
or_false_right false e = sym e

or_assoc : (a b c : Bool) → ((a || b) || c) ≡ (a || (b || c))
or_assoc true b c = refl
or_assoc false b c = refl

-- the tests at a draft that was read
pub undefined_read : (places kinds : List ℕ) {kind slot a b : ℕ} → kind ≡ a → slot ≡ b
    → (asks kind && unknown places kinds slot) ≡ (asks a && unknown places kinds b)
undefined_read places kinds p q = ap₂ (λ (k s : ℕ). asks k && unknown places kinds s) p q

pub unfit_read : (places kinds : List ℕ) {kind slot a b : ℕ} → kind ≡ a → slot ≡ b
    → (eqb kind kind_from && not (eqb (get_or kinds (home_of places slot) 0) kind_constant))
    ≡ (eqb a kind_from && not (eqb (get_or kinds (home_of places b) 0) kind_constant))
unfit_read places kinds p q =
    ap₂ (λ (k s : ℕ). eqb k kind_from && not (eqb (get_or kinds (home_of places s) 0) kind_constant)) p q

-- ---- a slot: one more than the place of a name, and what is no name
pub slot_named : (keys : List ℕ) (kind arg : ℕ) {r : ℕ} → is_named kind ≡ true → r ≡ place_in arg keys
    → r + 1 ≡ resolved_at keys kind arg
slot_named keys kind arg {r} t e =
    cond_ind (λ (x : ℕ). r + 1 ≡ x) (is_named kind) (suc (place_in arg keys)) arg (λ _. omega arith)
    (λ f. absurd (not_both t f))

pub slot_other : (keys : List ℕ) (kind arg : ℕ) → is_named kind ≡ false → arg ≡ resolved_at keys kind arg
slot_other keys kind arg f =
    cond_ind (λ (x : ℕ). arg ≡ x) (is_named kind) (suc (place_in arg keys)) arg (λ t. absurd (not_both t f)) (λ _. refl)

-- the resolved argument of a draft
pub resolved_at_holds : (keys kinds args : List ℕ) (i : ℕ) → i < length kinds → length kinds ≤ length args
    → get_or (resolved keys kinds args) i 0 ≡ resolved_at keys (get_or kinds i 0) (get_or args i 0)
unfolding resolved
resolved_at_holds keys [] args i h l = absurd (omega arith)
resolved_at_holds keys (k ∷ kinds) [] i h l = absurd (omega arith)
resolved_at_holds keys (k ∷ kinds) (a ∷ args) zero h l = refl
resolved_at_holds keys (k ∷ kinds) (a ∷ args) (suc i) h l =
    resolved_at_holds keys kinds args i (omega arith) (omega arith)

-- the slot of a name, found before it is resolved; n is the kind
pub slot_ahead : (keys kinds args : List ℕ) (i n : ℕ) {kind r a : ℕ} → is_named n ≡ true → eqb 0 n ≡ false
    → length kinds ≤ length args → kind ≡ get_or kinds i 0 → kind ≡ n
    → a ≡ get_or args i 0 → r ≡ place_in a keys → r + 1 ≡ get_or (resolved keys kinds args) i 0
slot_ahead keys kinds args i n {kind} {r} {a} t z l k e p q =
    let here : get_or kinds i 0 ≡ n = sym k ∙ e in
    let value : get_or (resolved keys kinds args) i 0 ≡ suc (place_in (get_or args i 0) keys) =
    resolved_at_holds keys kinds args i (stands n kinds i z here) l
    ∙ ap (λ (j : ℕ). resolved_at keys j (get_or args i 0)) here
    ∙ ap (λ (b : Bool). cond b (suc (place_in (get_or args i 0) keys)) (get_or args i 0)) t in
    let same : r ≡ place_in (get_or args i 0) keys = q ∙ ap (λ (x : ℕ). place_in x keys) p in
    omega (arith, value, same)

-- what is no name is not flawed
other_clear : (places kinds : List ℕ) (kind slot : ℕ) → is_named kind ≡ false → flawed_by places kinds kind slot ≡ false
other_clear places kinds kind slot n =
    let a = (or_false (asks kind) _ (or_false (defines kind) _ n).1).0 in
    let f = (or_false (is_use kind) _ a).1 in
    rw (a, f)

-- ---- the drafts before place i are resolved, and those that are flawed are noted
pub resolving_first : (keys kinds places args : List ℕ) → Resolving keys kinds places args false 0 args
resolving_first keys kinds places args =
    record { within = omega arith; long = refl; same = refl; left = rw sub-zero refl }

module _ {keys kinds places args₀ args : List ℕ} {flawed : Bool} {i : ℕ}
    (v : Resolving keys kinds places args₀ flawed i args) where
  module _ {slot : ℕ} (h : i < length kinds) (l : length kinds ≤ length args₀)
      (e : slot ≡ resolved_at keys (get_or kinds i 0) (get_or args i 0)) where
    here : i < length args
    here = omega (arith, v.long)

    step : resolved keys (drop i kinds) (drop i args) ≡ slot ∷ resolved keys (drop (suc i) kinds) (drop (suc i) args)
    unfolding resolved
    step = rw (drop-cons kinds i 0 h, drop-cons args i 0 here, e)

    -- what is stored is the resolved argument
    pub slot_here : get_or (resolved keys kinds args₀) i 0 ≡ slot
    slot_here =
        rw (← v.same, step)
        (get_or_at (take i args) slot (resolved keys (drop (suc i) kinds) (drop (suc i) args)) 0 i
        (length-take-le i args (omega (arith, here))))

    more : {b after : Bool} → b ≡ flawed_by places kinds (get_or kinds i 0) slot → after ≡ (flawed || b)
        → Resolving keys kinds places args₀ after (i + 1) (set args i slot)
    more {b} {after} t z =
        let f = flawed_at places kinds (resolved keys kinds args₀) in
        let found : b ≡ f i = t ∙ ap (flawed_by places kinds (get_or kinds i 0)) (sym slot_here) in
        record {
          within = omega arith;
          long = length-set args i slot ∙ v.long;
          same =
              rw (
                add-one,
                take-suc-set args i slot here,
                drop-set-lt (suc i) args i slot (omega arith),
                append_assoc (take i args),
              )
              (ap (λ (r : List ℕ). take i args ++ r) (sym step) ∙ v.same);
          left =
              ap (λ (a : Bool). a || any_in f (length kinds - (i + 1)) (i + 1))
              (z ∙ ap (λ (a : Bool). flawed || a) found)
              ∙ or_assoc flawed (f i) (any_in f (length kinds - (i + 1)) (i + 1))
              ∙ ap (λ (a : Bool). flawed || a) (sym (any_step f (length kinds) i h)) ∙ v.left;
        }

    -- a name, flawed or not
    pub resolving_named : {b after : Bool} {args' : List ℕ} → b ≡ flawed_by places kinds (get_or kinds i 0) slot
        → args' ≡ set args i slot → after ≡ (flawed || b) → Resolving keys kinds places args₀ after (i + 1) args'
    resolving_named t s z = rw s (more t z)

  -- what is no name stays as it is
  pub resolving_other : {after : Bool} {args' : List ℕ} → i < length kinds → length kinds ≤ length args₀
      → is_named (get_or kinds i 0) ≡ false
      → args' ≡ args → after ≡ flawed → Resolving keys kinds places args₀ after (i + 1) args'
  resolving_other h l n s z =
      let kind = get_or kinds i 0 in
      let arg = get_or args i 0 in
      let clear = sym (other_clear places kinds kind arg n) in
      resolving_named h l (slot_other keys kind arg n) clear (s ∙ sym (set-get_or args i 0))
      (z ∙ or_false_right flawed refl)

  pub resolving_last : length kinds ≤ i → Resolved keys kinds places args₀ args flawed
  unfolding resolved
  resolving_last h =
      let f = flawed_at places kinds (resolved keys kinds args₀) in
      let e : args ≡ resolved keys kinds args₀ =
      sym (take-append-drop i args) ∙ (rw (drop_of_length-le kinds h) at v.same) in
      record { same = e; found = rw e (or_false_right flawed (any_done f (length kinds) i h) ∙ v.left) }

-- ---- the flaw of the drafts from place i on, before b, with the worst that stands before them

abbrev is_some : Option FaultKind → Bool
is_some None = false
is_some (Some f) = true

module _ (f g : ℕ → Bool) (b : ℕ) where
  pub record Seeking (from i : ℕ) (flaw : Option FaultKind) : Type 0 where
    pub unfound : any_in f (b - i) i ≡ any_in f (b - from) from
    pub fit : flaw ≡ name_flaw false (is_some flaw)
    pub left : (is_some flaw || any_in g (b - i) i) ≡ any_in g (b - from) from

pub seeking_first : (f g : ℕ → Bool) (b from : ℕ) → Seeking f g b from from None
seeking_first f g b from = record { unfound = refl; fit = refl; left = refl }

module _ {f g : ℕ → Bool} {b from i : ℕ} {flaw : Option FaultKind} (v : Seeking f g b from i flaw) where
  -- a name that is undefined
  pub seeking_found : i < b → f i ≡ true
      → Some Undefined ≡ name_flaw (any_in f (b - from) from) (any_in g (b - from) from)
  seeking_found h t = rw (← v.unfound, any_stop f b i h t)

  -- an initial that is unfit, and none
  pub seeking_unfit : {worse : Option FaultKind} → i < b → f i ≡ false → g i ≡ true → worse ≡ Some NoConstant
      → Seeking f g b from (i + 1) worse
  seeking_unfit h t u e =
      rw e
      (record {
        unfound = sym (any_pass f b i h t)
            ∙ v.unfound;
        fit = refl;
        left = sym (or_right (is_some flaw) _ (any_stop g b i h u)) ∙ v.left;
      })

  pub seeking_pass : {same : Option FaultKind} → i < b → f i ≡ false → g i ≡ false → same ≡ flaw
      → Seeking f g b from (i + 1) same
  seeking_pass h t u e =
      let rest = ap (λ (r : Bool). is_some flaw || r) (sym (any_pass g b i h u)) in
      rw e (record { unfound = sym (any_pass f b i h t) ∙ v.unfound; fit = v.fit; left = rest ∙ v.left })

  pub seeking_last : b ≤ i → flaw ≡ name_flaw (any_in f (b - from) from) (any_in g (b - from) from)
  seeking_last h =
      let none : any_in f (b - from) from ≡ false = sym v.unfound ∙ any_done f b i h in
      let worst : is_some flaw ≡ any_in g (b - from) from = or_false_right (is_some flaw) (any_done g b i h) ∙ v.left in
      rw (none, ← worst) v.fit

-- a flaw as a fault
pub flaw_fault : (u x : Bool) (line : ℕ) → fault_of (name_flaw u x) line ≡ name_fault (not u) (not x) line
flaw_fault true x line = refl
flaw_fault false true line = refl
flaw_fault false false line = refl

-- 22 or 23 stands once at a unit
pub names_single : (places lines bounds kinds slots : List ℕ) (j : ℕ)
    → length (names_at places lines bounds kinds slots j) ≤ 1
names_single places lines bounds kinds slots j =
    let u = any_of bounds (undefined_at places kinds slots) j in
    let x = any_of bounds (unfit_at places kinds slots) j in
    rw (← (flaw_fault u x (get_or lines j 0))) (fault_length (name_flaw u x) (get_or lines j 0))

-- 22 or 23 at unit j, as it was found
pub flaw_found : (places lines bounds kinds slots : List ℕ) (j : ℕ) {flaw : Option FaultKind} {a b : ℕ}
    → flaw ≡ name_flaw (any_in (undefined_at places kinds slots) (b - a) a)
    (any_in (unfit_at places kinds slots) (b - a) a)
    → a ≡ begins bounds j → b ≡ ends bounds j
    → fault_of flaw (get_or lines j 0) ≡ names_at places lines bounds kinds slots j
flaw_found places lines bounds kinds slots j {flaw} {a} {b} e p q =
    let found : ℕ → ℕ → Option FaultKind = λ (x y : ℕ).
    name_flaw (any_in (undefined_at places kinds slots) (y - x) x) (any_in (unfit_at places kinds slots) (y - x) x) in
    ap (λ (f : Option FaultKind). fault_of f (get_or lines j 0)) (e ∙ ap₂ found p q)
    ∙ flaw_fault (any_of bounds (undefined_at places kinds slots) j)
    (any_of bounds (unfit_at places kinds slots) j) (get_or lines j 0)
