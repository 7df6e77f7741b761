-- The blocks of a text without faults 25 and 26 are sound.
use Prim.Native.Nat.{ℕ}
use mathlib.Core.Path.{◌≡◌, refl, sym, ap, ◌∙◌}
use mathlib.Core.Bool.{Bool, true, false, not}
use mathlib.Core.Logic.{⊎_elim}
use mathlib.Core.List.{List, [], ◌∷◌, ◌++◌, append_assoc, append-nil}
use native.Mathlib.Omega.{arith}
use borrow.Author.Tests.{not-true}
use Rattle.laws.specs.Lists.{concat_map}
use Rattle.laws.specs.Counts.{count, ◌∈◌, has}
use Rattle.laws.specs.Every.{Every}
use Rattle.laws.proofs.Tests.{not_both, and_true, eq_or_ne, or_blocked}
use Rattle.laws.proofs.Counts.{once_other, has_true}
use Rattle.laws.proofs.Concats.{map_append, none_left}
use Rattle.laws.proofs.Members.{in_has}
use Rattle.drafts.specs.Tree.{names, Says, constants as constants_said, assignment as assignment_said}
use Rattle.drafts.specs.Tree.{state as state_said, header, ending}
use Rattle.sheet.specs.Sheet.{Numbered}
use Rattle.blocks.specs.Tests.{fault_if, within, again}
use Rattle.blocks.specs.Inside.{free_said, free_known, set_next, set_inside, head_wrong, fault26, outer, enclosed}
use Rattle.blocks.specs.Inside.{standing_next}
use Rattle.blocks.specs.Inside.{inner_right, inner_fault, faults26_from, block_faults}
use Rattle.blocks.specs.Units.{Inner, TextUnit}
use Rattle.blocks.specs.Sound.{free_names, sets_for, InnerSound, BodySound, UnitsSound}
use Rattle.blocks.specs.Members.{idle, partly, keys_inside, inner_of, units_by, pending_by, units_from}
use Rattle.blocks.specs.Members.{units_of}
use Rattle.blocks.specs.Pairing.{bracket_of}
use Rattle.blocks.specs.Places.{inside_next}
use Rattle.blocks.proofs.BlocksShaped.{no_fault, Stands, Shaped, none_26, shaped_text}

-- each member of a list that stands within another is one of that
pub within_in : (ks l : List ℕ) → within ks l ≡ true → (k : ℕ) → k ∈ ks → k ∈ l
unfolding within count
within_in [] l t k h = absurd (omega arith)
within_in (a ∷ ks) l t k h =
    let p = and_true (has a l) (within ks l) t in
    ⊎_elim (λ (e : k ≡ a). rw e (has_true a l p.0))
    (λ (e : k ≡ a → ⊥). within_in ks l p.1 k (omega (arith, once_other k a e))) (eq_or_ne k a)

-- a statement inside without 26 is right
inner_right_holds : (free is above : List ℕ) (s : Numbered) (x : Says) → s.says ≡ x
    → inner_fault free (enclosed is above) s ≡ [] → inner_right free is above x ≡ true
inner_right_holds free is above s x e f =
    go (inner_right free is above x)
    (ap (λ y. not (inner_right free is above y)) (sym e)
    ∙ no_fault (not (inner_right free is above s.says)) s.line 26 f)
  where
    go : (b : Bool) → not b ≡ false → b ≡ true
    go true t = refl
    go false t = absurd (not_both refl t)

-- one statement more inside
inner_more : (free os is above : List ℕ) (ns : List Inner) (n : Inner) → InnerSound free os is above ns
    → n.sets ≡ sets_for os (above ++ keys_inside ns) n.key → (n.key ∈ is → ⊥)
    → ((k : ℕ) → k ∈ names n.tree → k ∈ (is ++ (free ++ (above ++ keys_inside ns))))
    → InnerSound free os is above (ns ++ (n ∷ []))
inner_more free os is above [] n s p q r =
    let e = append-nil above in
    (rw e at p, q, rw e at r, tt)
inner_more free os is above (m ∷ ns) n s p q r =
    let more : above ++ keys_inside (m ∷ ns) ≡ (above ++ (m.key ∷ [])) ++ keys_inside ns =
    sym (append_assoc above (m.key ∷ []) (keys_inside ns)) in
    let rest = inner_more free os is (above ++ (m.key ∷ [])) ns n s.3 (rw more at p) q (rw more at r) in
    (s.0, s.1, s.2, rest)

-- ---- the free names of the units are those of the text
free_from : (ss : List Numbered) → (Shaped false ss → free_names (units_from idle ss) ≡ free_known ss)
    × ((h : ℕ) (os is : List ℕ) (ns : List Inner) → Shaped true ss
    → free_names (units_from (partly h os is ns) ss) ≡ free_known ss)
unfolding units_from concat_map
free_from [] = (λ f. refl, λ h os is ns f. absurd f)
free_from (s ∷ ss) =
    let rest = free_from ss in
    (λ f. out s.says rest.0 rest.1 f, λ h os is ns f. inner s.says rest.0 rest.1 h os is ns f)
  where
    Out : Type 0
    Out = Shaped false ss → free_names (units_from idle ss) ≡ free_known ss

    In : Type 0
    In =
        (h : ℕ) (os is : List ℕ) (ns : List Inner) → Shaped true ss
        → free_names (units_from (partly h os is ns) ss) ≡ free_known ss

    out : (x : Says) → Out → In → Stands false x × Shaped (inside_next false (bracket_of x)) ss
        → free_names (units_by idle s.line x ++ units_from (pending_by idle s.line x) ss) ≡ free_said x ++ free_known ss
    out (constants_said cs) o n f = ap (λ r. free_said (constants_said cs) ++ r) (o f.1)
    out (assignment_said k e) o n f = o f.1
    out (state_said k i e) o n f = ap (λ r. k ∷ r) (o f.1)
    out (header os is) o n f = n s.line os is [] f.1
    out ending o n f = absurd f.0

    inner : (x : Says) → Out → In → (h : ℕ) (os is : List ℕ) (ns : List Inner)
        → Stands true x × Shaped (inside_next true (bracket_of x)) ss
        → free_names (units_by (partly h os is ns) s.line x ++ units_from
        (pending_by (partly h os is ns) s.line x) ss)
        ≡ free_said x ++ free_known ss
    inner (constants_said cs) o n h os is ns f = absurd f.0
    inner (assignment_said k e) o n h os is ns f = n h os is (ns ++ (inner_of os ns s.line k e ∷ [])) f.1
    inner (state_said k i e) o n h os is ns f = absurd f.0
    inner (header os' is') o n h os is ns f = absurd f.0
    inner ending o n h os is ns f = o f.1

pub free_units : (ss : List Numbered) → block_faults ss ≡ [] → free_names (units_of ss) ≡ free_known ss
free_units ss e = (free_from ss).0 (shaped_text ss e)

-- ---- what is read is sound, unit by unit
module _ (free : List ℕ) where
  abbrev SoundOut : List Numbered → Type 0
  SoundOut ss =
      Shaped false ss → faults26_from free outer ss ≡ []
      → Every (λ (u : TextUnit). BodySound free u.body) (units_from idle ss)

  abbrev SoundIn : List Numbered → Type 0
  SoundIn ss =
      (h : ℕ) (os is : List ℕ) (ns : List Inner) → Shaped true ss
      → faults26_from free (enclosed is (keys_inside ns)) ss ≡ [] → InnerSound free os is [] ns
      → ((k : ℕ) → k ∈ os → k ∈ (keys_inside ns ++ set_inside ss))
      → Every (λ (u : TextUnit). BodySound free u.body) (units_from (partly h os is ns) ss)

  sound_both : (ss : List Numbered) → SoundOut ss × SoundIn ss
  unfolding faults26_from units_from set_inside
  sound_both [] = (λ w f. tt, λ h os is ns w f i g. absurd w)
  sound_both (s ∷ ss) =
      let rest = sound_both ss in (
        λ w f. out s.says rest.0 rest.1 w f,
        λ h os is ns w f i g. inner s.says refl rest.0 rest.1 h os is ns w f i g,
      )
    where
      Bodies : List TextUnit → Type 0
      Bodies us = Every (λ (u : TextUnit). BodySound free u.body) us

      out : (x : Says) → SoundOut ss → SoundIn ss → Stands false x × Shaped (inside_next false (bracket_of x)) ss
          → fault26 free (set_inside ss) outer s x ++ faults26_from free (standing_next outer x) ss ≡ []
          → Bodies (units_by idle s.line x ++ units_from (pending_by idle s.line x) ss)
      out (constants_said cs) o n w f = (tt, o w.1 f)
      out (assignment_said k e) o n w f = (tt, o w.1 f)
      out (state_said k i e) o n w f = (tt, o w.1 f)
      out (header os is) o n w f =
          let p = none_left (fault_if (head_wrong os (set_inside ss)) s.line 26)
          (faults26_from free (enclosed is []) ss) f in
          let set = (or_blocked (within os (set_inside ss)) (again [] os)
          (no_fault (head_wrong os (set_inside ss)) s.line 26 p.0)).0 in
          n s.line os is [] w.1 p.1 tt (within_in os (set_inside ss) set)
      out ending o n w f = absurd w.0

      inner : (x : Says) → s.says ≡ x → SoundOut ss → SoundIn ss → (h : ℕ) (os is : List ℕ) (ns : List Inner)
          → Stands true x × Shaped (inside_next true (bracket_of x)) ss
          → fault26 free (set_inside ss) (enclosed is (keys_inside ns)) s x
          ++ faults26_from free (standing_next (enclosed is (keys_inside ns)) x) ss ≡ []
          → InnerSound free os is [] ns → ((k : ℕ) → k ∈ os → k ∈ (keys_inside ns ++ set_next x (set_inside ss)))
          → Bodies (units_by (partly h os is ns) s.line x ++ units_from (pending_by (partly h os is ns) s.line x) ss)
      inner (constants_said cs) e o n h os is ns w f i g = absurd w.0
      inner (assignment_said k t) e o n h os is ns w f i g =
          let p = none_left (inner_fault free (enclosed is (keys_inside ns)) s)
          (faults26_from free (enclosed is (keys_inside ns ++ (k ∷ []))) ss) f in
          let right = and_true (not (has k is)) (within (names t) (is ++ (free ++ keys_inside ns)))
          (inner_right_holds free is (keys_inside ns) s (assignment_said k t) e p.0) in
          let new = inner_of os ns s.line k t in
          let keys : keys_inside (ns ++ (new ∷ [])) ≡ keys_inside ns ++ (k ∷ []) =
          map_append (λ (n : Inner). n.key) ns (new ∷ []) in
          let all : keys_inside ns ++ (k ∷ set_inside ss) ≡ keys_inside (ns ++ (new ∷ [])) ++ set_inside ss =
          sym (append_assoc (keys_inside ns) (k ∷ []) (set_inside ss)) ∙ ap (λ r. r ++ set_inside ss) (sym keys) in
          n h os is (ns ++ (new ∷ [])) w.1 (rw (sym keys) at p.1)
          (inner_more free os is [] ns new i refl
          (λ m. not_both (in_has k is m) (not-true (has k is) right.0))
          (within_in (names t) (is ++ (free ++ keys_inside ns)) right.1)) (rw all at g)
      inner (state_said k j t) e o n h os is ns w f i g = absurd w.0
      inner (header os' is') e o n h os is ns w f i g = absurd w.0
      inner ending e o n h os is ns w f i g =
          (record { inside = i; outputs = rw (append-nil (keys_inside ns)) at g }, o w.1 f)

-- THE UNITS of a text without faults 25 and 26
pub units_sound : (ss : List Numbered) → block_faults ss ≡ [] → UnitsSound (units_of ss)
units_sound ss e = rw (free_units ss e) ((sound_both (free_known ss) ss).0 (shaped_text ss e) (none_26 ss e))
