-- The unit that assigns a slot, by the table of owners.
use Prim.Native.Nat.{ℕ, suc, ◌+◌, ◌-◌, ◌≤◌, ◌<◌}
use mathlib.Core.Path.{◌≡◌, refl, sym, ap, ap₂, ◌∙◌}
use mathlib.Core.Bool.{Bool, true, false, cond}
use mathlib.Core.Logic.{⊎_elim}
use mathlib.Core.List.{List, [], ◌∷◌, ◌++◌}
use native.Mathlib.Omega.{arith}
use borrow.Author.Tests.{eq-eqb, ne_eqb, lt-ltb}
use lib.Dec.{ltb, leb-suc-suc}
use lib.ListN.{length, get_or, set, drop, replicate, length-set, length-map, get_or-replicate}
use lib.ListN.{drop_of_length-le}
use lib.Seq.{drop-cons, get_or-set_same, get_or-set_other}
use Rattle.laws.specs.Places.{only_if}
use Rattle.laws.specs.Counts.{count, has}
use Rattle.laws.proofs.Tests.{eq_or_ne, cond_ind, bool_cases}
use Rattle.laws.proofs.Members.{has_cons}
use Rattle.laws.proofs.Concats.{at_map}
use Rattle.drafts.specs.Kinds.{is_use}
use Rattle.model.specs.Places.{assigned_by, assigned_slots, place_among, used_by, used_at}
use Rattle.model.specs.Working.{owner_in, Owned, noted, used_owner, used_from, Slotted}

-- the slots that unit r assigns, as they were read
pub assigned_at : (equated bounds kinds slots : List ℕ) (r : ℕ) {j : ℕ} → r < length equated → j ≡ get_or equated r 0
    → assigned_by bounds kinds slots j ≡ get_or (assigned_slots equated bounds kinds slots) r []
assigned_at equated bounds kinds slots r h q =
    ap (assigned_by bounds kinds slots) q ∙ sym (at_map (assigned_by bounds kinds slots) equated 0 [] r h)

-- ---- an owner that is noted

pub length_noted : (ss : List ℕ) (v : ℕ) (owners : List ℕ) → length (noted ss v owners) ≡ length owners
unfolding noted
length_noted [] v owners = refl
length_noted (a ∷ ss) v owners = length_noted ss v (set owners a v) ∙ length-set owners a v

pub noted_append : (ss ts : List ℕ) (v : ℕ) (owners : List ℕ)
    → noted (ss ++ ts) v owners ≡ noted ts v (noted ss v owners)
unfolding noted
noted_append [] ts v owners = refl
noted_append (a ∷ ss) ts v owners = noted_append ss ts v (set owners a v)

-- of these slots it is the owner, any other has the one that it had
noted_at : (ss : List ℕ) (v : ℕ) (owners : List ℕ) (s : ℕ) → s < length owners
    → get_or (noted ss v owners) s 0 ≡ cond (has s ss) v (get_or owners s 0)
unfolding noted count
noted_at [] v owners s h = refl
noted_at (a ∷ ss) v owners s h =
    noted_at ss v (set owners a v) s (omega (arith, length-set owners a v))
    ∙ ⊎_elim (λ (e : s ≡ a). here e) (λ (n : s ≡ a → ⊥). other n) (eq_or_ne s a)
  where
    here : s ≡ a → cond (has s ss) v (get_or (set owners a v) s 0) ≡ cond (has s (a ∷ ss)) v (get_or owners s 0)
    here e =
        let stored : get_or (set owners a v) s 0 ≡ v = rw e (get_or-set_same owners a v 0 (omega arith)) in
        rw (has_cons s a ss, eq-eqb s a e, stored) (cond_ind (λ (x : ℕ). x ≡ v) (has s ss) v v (λ _. refl) (λ _. refl))

    other : (s ≡ a → ⊥)
        → cond (has s ss) v (get_or (set owners a v) s 0) ≡ cond (has s (a ∷ ss)) v (get_or owners s 0)
    other n = rw (has_cons s a ss, ne_eqb s a n, get_or-set_other owners a s v 0 n)

-- ---- the owner of slot s among the lists from place r on
abbrev owner_from : ℕ → List (List ℕ) → ℕ → ℕ
owner_from r l s = cond (ltb (place_among s l) (length l)) (r + place_among s l + 1) 0

owner_none : (r : ℕ) (l : List (List ℕ)) (s : ℕ) → length l ≤ r → owner_from r (drop r l) s ≡ 0
unfolding place_among
owner_none r l s h = rw (drop_of_length-le l h)

-- the first that has it is the owner
owner_step : (r : ℕ) (ss : List ℕ) (l : List (List ℕ)) (s : ℕ)
    → owner_from r (ss ∷ l) s ≡ cond (has s ss) (r + 1) (owner_from (r + 1) l s)
unfolding place_among
owner_step r ss l s =
    ⊎_elim (λ (t : has s ss ≡ true). rw (t, lt-ltb 0 (suc (length l)) (omega arith)) (omega arith))
    (λ (f : has s ss ≡ false). rw (f, leb-suc-suc (suc (place_among s l)) (length l), later)) (bool_cases (has s ss))
  where
    later : r + suc (place_among s l) + 1 ≡ r + 1 + place_among s l + 1
    later = omega arith

-- the owners of the assigned slots from the last unit down to place r are noted
pub record Owning (assigned : List (List ℕ)) (owners₀ : List ℕ) (r : ℕ) (owners : List ℕ) : Type 0 where
  pub within : r ≤ length assigned
  pub long : length owners ≡ length owners₀
  pub owner : (s : ℕ) → s < length owners → get_or owners s 0 ≡ owner_from r (drop r assigned) s

owning_first : (assigned : List (List ℕ)) {owners : List ℕ} → owners ≡ replicate (length owners) 0
    → Owning assigned owners (length assigned) owners
owning_first assigned {owners} e =
    record {
      within = omega arith;
      long = refl;
      owner = λ s h.
          ap (λ (l : List ℕ). get_or l s 0) e ∙ get_or-replicate {A = ℕ} (length owners) s 0 0 h
          ∙ sym (owner_none (length assigned) assigned s (omega arith));
    }

-- before the last unit
pub owning_start : (equated bounds kinds args : List ℕ) {owners : List ℕ} → owners ≡ replicate (length owners) 0
    → Owning (assigned_slots equated bounds kinds args) owners (length equated) owners
owning_start equated bounds kinds args {owners} e =
    let assigned = assigned_slots equated bounds kinds args in
    rw (length-map equated (assigned_by bounds kinds args)) at (owning_first assigned {owners = owners} e)

module _ {assigned : List (List ℕ)} {owners₀ owners : List ℕ} {r : ℕ} (v : Owning assigned owners₀ r owners) where
  pub owning_next : {ss owners' : List ℕ} → 0 < r → ss ≡ get_or assigned (r - 1) []
      → owners' ≡ noted ss (r - 1 + 1) owners → Owning assigned owners₀ (r - 1) owners'
  owning_next {ss} {owners'} h p e₀ =
      record { within = omega (arith, v.within); long = same ∙ v.long; owner = at }
    where
      back : r - 1 + 1 ≡ r
      back = omega arith

      e : owners' ≡ noted ss r owners
      e = rw back at e₀

      same : length owners' ≡ length owners
      same = ap length e ∙ length_noted ss r owners

      front : drop (r - 1) assigned ≡ ss ∷ drop r assigned
      front =
          let f : suc (r - 1) ≡ r = omega arith in
          drop-cons assigned (r - 1) [] (omega (arith, v.within))
          ∙ ap₂ ◌∷◌ (sym p) (ap (λ (i : ℕ). drop i assigned) f)

      at : (s : ℕ) → s < length owners' → get_or owners' s 0 ≡ owner_from (r - 1) (drop (r - 1) assigned) s
      at s l =
          let inside : s < length owners = omega (arith, same) in
          rw (front, owner_step (r - 1) ss (drop r assigned) s, back)
          (ap (λ (o : List ℕ). get_or o s 0) e ∙ noted_at ss r owners s inside
          ∙ ap (λ (x : ℕ). cond (has s ss) r x) (v.owner s inside))

  pub owning_last : r ≤ 0 → Owned assigned owners
  owning_last h = record { owner = λ s l. v.owner s l ∙ whole s }
    where
      whole : (s : ℕ) → owner_from r (drop r assigned) s ≡ owner_in assigned s
      whole s =
          let z : r ≡ 0 = omega arith in
          let p : 0 + place_among s assigned + 1 ≡ place_among s assigned + 1 = omega arith in
          ap (λ (i : ℕ). owner_from i (drop i assigned) s) z
          ∙ ap (λ (n : ℕ). cond (ltb (place_among s assigned) (length assigned)) n 0) p

-- what is used, by the owner
owner_used : (assigned : List (List ℕ)) (owners : List ℕ) (s : ℕ) → get_or owners s 0 ≡ owner_in assigned s
    → used_owner owners s ≡ used_by assigned s
owner_used assigned owners s e = rw e (go (ltb (place_among s assigned) (length assigned)))
  where
    go : (b : Bool) → only_if (ltb 0 (cond b (place_among s assigned + 1) 0))
        (cond b (place_among s assigned + 1) 0 - 1)
        ≡ only_if b (place_among s assigned)
    go true =
        let p : place_among s assigned + 1 - 1 ≡ place_among s assigned = omega arith in
        rw (lt-ltb 0 (place_among s assigned + 1) (omega arith), p)
    go false = refl

-- what a draft uses, by the owners that are noted
pub used_same : {assigned : List (List ℕ)} {owners kinds args : List ℕ} → Owned assigned owners
    → Slotted (length owners) kinds args → (i : ℕ) → used_from owners kinds args i ≡ used_at assigned kinds args i
used_same {assigned} {owners} {kinds} {args} o s i =
    ⊎_elim (λ (t : is_use (get_or kinds i 0) ≡ true). rw t (used t)) (λ (f : is_use (get_or kinds i 0) ≡ false). rw f)
    (bool_cases (is_use (get_or kinds i 0)))
  where
    used : is_use (get_or kinds i 0) ≡ true → used_owner owners (get_or args i 0) ≡ used_by assigned (get_or args i 0)
    used t =
        owner_used assigned owners (get_or args i 0) (o.owner (get_or args i 0) (s.slot i t))
