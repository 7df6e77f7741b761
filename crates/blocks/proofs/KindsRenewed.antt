-- The kinds inside blocks renewed: what stores become, and the kinds statement by statement.
use Prim.Native.Nat.{ℕ, zero, suc, ◌+◌, ◌-◌, ◌≤◌, ◌<◌}
use mathlib.Core.Path.{◌≡◌, refl, sym, ap, ap₂, ◌∙◌}
use mathlib.Core.List.{List, [], ◌∷◌}
use native.Mathlib.Numerals.{add-one}
use native.Mathlib.Omega.{arith}
use lib.ListN.{length, get_or, set, take, replicate, length-set, length-replicate}
use lib.Seq.{sets, length-sets, get_or-set_other, get_or-take, take_all}
use Rattle.limits.specs.Limits.{most_statements}
use Rattle.laws.specs.Places.{gather}
use Rattle.laws.proofs.Sets.{sets_back}
use Rattle.laws.proofs.Gathers.{gather_step, gather_done, gather_same, Writes, writes_first, writes_next, whole_count}
use Rattle.laws.proofs.Gathers.{whole_all}
use Rattle.drafts.specs.Places.{begins, ends}
use Rattle.blocks.specs.Places.{bracket_at}
use Rattle.blocks.specs.InsidePlaces.{standing_behind, standing_at, role_by, role_at}
use Rattle.blocks.specs.InsidePlaces.{role_kind, rewritten_kinds}
use Rattle.blocks.specs.InsideWorking.{roles_in, renewed, Turned}
use Rattle.blocks.proofs.InsideFound.{standing_next}

-- ---- the roles noted: the loop stands at statement j
pub record Noting (bounds kinds args : List ℕ) (n : ℕ) (roles₀ : List ℕ) (c j : ℕ) (roles : List ℕ) : Type 0 where
  pub standing : c ≡ standing_at bounds kinds j
  pub within : j ≤ n
  pub written : Writes (λ i. role_at bounds kinds args i ∷ []) n 0 j 0 j roles₀ roles

pub noting_first : (bounds kinds args : List ℕ) (n : ℕ) (roles : List ℕ) → Noting bounds kinds args n roles 0 0 roles
unfolding standing_at
noting_first bounds kinds args n roles =
    record {
      standing = refl;
      within = omega arith;
      written = writes_first (λ i. role_at bounds kinds args i ∷ []) n 0 0 roles;
    }

module _ {bounds kinds args : List ℕ} {n : ℕ} {roles₀ : List ℕ} {c j : ℕ} {roles : List ℕ}
    (v : Noting bounds kinds args n roles₀ c j roles) where
  pub noting_next : {r d : ℕ} {roles' : List ℕ} → j < n
      → r ≡ role_by bounds kinds args (bracket_at bounds kinds j) c j → roles' ≡ set roles j r
      → d ≡ standing_behind (bracket_at bounds kinds j) j c → Noting bounds kinds args n roles₀ d (j + 1) roles'
  noting_next {r} {d} {roles'} h p e q =
      let role : r ≡ role_at bounds kinds args j =
      p ∙ ap (λ (m : ℕ). role_by bounds kinds args (bracket_at bounds kinds j) m j) v.standing in
      record {
        standing = standing_next bounds kinds j v.standing q;
        within = omega arith;
        written = writes_next v.written h (j + 1) roles' refl (e ∙ ap (set roles j) role);
      }

  pub noting_last : n ≤ j → roles ≡ sets roles₀ 0 (roles_in n bounds kinds args)
  noting_last h = whole_all v.written h

-- ---- the kinds of one statement: the loop stands at place i
pub record Renewing (role from end : ℕ) (kinds₀ kinds : List ℕ) (i : ℕ) : Type 0 where
  pub low : from ≤ i
  pub long : length kinds ≡ length kinds₀
  pub kept : (k : ℕ) → i ≤ k → get_or kinds k 0 ≡ get_or kinds₀ k 0
  pub same : sets kinds i (renewed role kinds₀ i end) ≡ sets kinds₀ from (renewed role kinds₀ from end)

pub renewing_first : (role from end : ℕ) (kinds : List ℕ) → Renewing role from end kinds kinds from
renewing_first role from end kinds =
    record { low = omega arith; long = refl; kept = λ k h. refl; same = refl }

module _ {role from end : ℕ} {kinds₀ kinds : List ℕ} {i : ℕ} (v : Renewing role from end kinds₀ kinds i) where
  pub renewing_next : {x y : ℕ} {kinds' : List ℕ} → i < end → x ≡ get_or kinds i 0 → y ≡ role_kind role x
      → kinds' ≡ set kinds i y → Renewing role from end kinds₀ kinds' (i + 1)
  renewing_next {x} {y} {kinds'} h p q e =
      let fresh : y ≡ role_kind role (get_or kinds₀ i 0) = q ∙ ap (role_kind role) (p ∙ v.kept i (omega arith)) in
      let rest = renewed role kinds₀ (i + 1) end in
      record {
        low = omega (arith, v.low);
        long = ap length e ∙ length-set kinds i y ∙ v.long;
        kept = λ k l. ap (λ (s : List ℕ). get_or s k 0) e
            ∙ get_or-set_other kinds i k y 0 (λ z. omega arith) ∙ v.kept k (omega arith);
        same = ap (λ (m : ℕ). sets kinds' m rest) (add-one i)
            ∙ ap (λ (s : List ℕ). sets s (suc i) rest) (e ∙ ap (set kinds i) fresh)
            ∙ sym (ap (sets kinds i) (gather_step (λ k. role_kind role (get_or kinds₀ k 0) ∷ []) end i h))
            ∙ v.same;
      }

  pub renewing_last : end ≤ i → kinds ≡ sets kinds₀ from (renewed role kinds₀ from end)
  renewing_last h =
      sym (ap (sets kinds i) (gather_done (λ k. role_kind role (get_or kinds₀ k 0) ∷ []) end i h)) ∙ v.same

-- ---- what stands behind the places that are written
sets_past : (l : List ℕ) (i : ℕ) (vs : List ℕ) (k : ℕ) → i + length vs ≤ k → get_or (sets l i vs) k 0 ≡ get_or l k 0
sets_past l i [] k h = refl
sets_past l i (a ∷ vs) k h =
    sets_past (set l i a) (suc i) vs k (omega arith) ∙ get_or-set_other l i k a 0 (λ z. omega arith)

-- a row as long as the list
sets_whole : (l vs : List ℕ) → length vs ≡ length l → sets l 0 vs ≡ vs
sets_whole l vs e =
    sym (take_all (length vs) (sets l 0 vs) (omega (arith, length-sets l 0 vs))) ∙ sets_back l 0 vs (omega arith)

-- ---- a row of one for each place
gather_at : (g : ℕ → ℕ) (n i j : ℕ) → j < n → get_or (gather (λ k. g k ∷ []) n i) j 0 ≡ g (i + j)
unfolding gather
gather_at g zero i j h = absurd (omega arith)
gather_at g (suc n) i zero h = let e : i + 0 ≡ i = omega arith in rw e
gather_at g (suc n) i (suc j) h =
    let e : suc i + j ≡ i + suc j = omega arith in
    gather_at g n (suc i) j (omega arith) ∙ ap g e

gather_ones : (g : ℕ → ℕ) (n i : ℕ) → length (gather (λ k. g k ∷ []) n i) ≡ n
unfolding gather
gather_ones g zero i = refl
gather_ones g (suc n) i = ap suc (gather_ones g n (suc i))

-- as many kinds as places
renewed_length : (role : ℕ) (kinds : List ℕ) (from end : ℕ) → length (renewed role kinds from end) ≡ end - from
renewed_length role kinds from end = gather_ones (λ j. role_kind role (get_or kinds j 0)) (end - from) from

-- ---- the kinds of all statements: the loop stands at statement j
abbrev pub renewed_by : List ℕ → List ℕ → List ℕ → ℕ → List ℕ
renewed_by roles bounds kinds j = renewed (get_or roles j 0) kinds (get_or bounds j 0) (get_or bounds (j + 1) 0)

pub record RenewingAll (roles bounds : List ℕ) (n : ℕ) (kinds₀ kinds : List ℕ) (j : ℕ) : Type 0 where
  pub turned : Turned n bounds kinds₀
  pub within : j ≤ n
  pub kept : (k : ℕ) → begins bounds j ≤ k → get_or kinds k 0 ≡ get_or kinds₀ k 0
  pub written : Writes (renewed_by roles bounds kinds₀) n 0 j 0 (begins bounds j) kinds₀ kinds

pub all_first : (roles bounds : List ℕ) (n : ℕ) (kinds : List ℕ) → Turned n bounds kinds
    → RenewingAll roles bounds n kinds kinds 0
all_first roles bounds n kinds t =
    record {
      turned = t;
      within = omega arith;
      kept = λ k h. refl;
      written = rw t.first (writes_first (renewed_by roles bounds kinds) n 0 0 kinds);
    }

module _ {roles bounds : List ℕ} {n : ℕ} {kinds₀ kinds : List ℕ} {j : ℕ}
    (v : RenewingAll roles bounds n kinds₀ kinds j) where
  pub all_next : {r b e : ℕ} {kinds' : List ℕ} → j < n → r ≡ get_or roles j 0 → b ≡ get_or bounds j 0
      → e ≡ get_or bounds (j + 1) 0 → kinds' ≡ sets kinds b (renewed r kinds b e)
      → RenewingAll roles bounds n kinds₀ kinds' (j + 1)
  all_next {r} {b} {e} {kinds'} h p q s put =
      let row = renewed_by roles bounds kinds₀ j in
      let long : length row ≡ ends bounds j - begins bounds j =
      renewed_length (get_or roles j 0) kinds₀ (get_or bounds j 0) (get_or bounds (j + 1) 0) in
      let rise = v.turned.rise j h in
      let same : renewed r kinds b e ≡ row =
      rw (p, q, s)
      (gather_same (λ i. role_kind (get_or roles j 0) (get_or kinds i 0) ∷ [])
      (λ i. role_kind (get_or roles j 0) (get_or kinds₀ i 0) ∷ []) (ends bounds j - begins bounds j) (begins bounds j)
      (λ k l _. ap (λ (x : ℕ). role_kind (get_or roles j 0) x ∷ []) (v.kept k l))) in
      let now : kinds' ≡ sets kinds (begins bounds j) row = put ∙ ap₂ (sets kinds) q same in
      record {
        turned = v.turned;
        within = omega arith;
        kept = λ k l. ap (λ (x : List ℕ). get_or x k 0) now
            ∙ sets_past kinds (begins bounds j) row k (omega (arith, long, rise)) ∙ v.kept k (omega (arith, rise));
        written = writes_next v.written h (begins bounds (j + 1)) kinds' (omega (arith, long, rise)) now;
      }

  pub all_last : n ≤ j → kinds ≡ gather (renewed_by roles bounds kinds₀) n 0
  all_last h =
      let z : j ≡ n = omega (arith, v.within) in
      let ended : begins bounds j ≡ length kinds₀ = ap (begins bounds) z ∙ v.turned.ended in
      whole_all v.written h
      ∙ sets_whole kinds₀ (gather (renewed_by roles bounds kinds₀) n 0)
      (omega (arith, whole_count v.written h, ended))

-- by the roles at the front alone
pub renewed_front : (n : ℕ) (roles bounds kinds : List ℕ)
    → gather (renewed_by (take n roles) bounds kinds) n 0 ≡ gather (renewed_by roles bounds kinds) n 0
renewed_front n roles bounds kinds =
    gather_same (renewed_by (take n roles) bounds kinds) (renewed_by roles bounds kinds) n 0
    (λ j _ h. ap (λ (r : ℕ). renewed r kinds (begins bounds j) (ends bounds j)) (get_or-take n roles j 0 (omega arith)))

-- THE KINDS, by the roles noted
pub renewed_all : (n : ℕ) (bounds kinds args : List ℕ) {roles₀ roles kinds' : List ℕ} → n ≤ most_statements
    → roles₀ ≡ replicate most_statements 0 → roles ≡ sets roles₀ 0 (roles_in n bounds kinds args)
    → kinds' ≡ gather (renewed_by roles bounds kinds) n 0 → kinds' ≡ rewritten_kinds n bounds kinds args
unfolding rewritten_kinds
renewed_all n bounds kinds args {roles₀} {roles} {kinds'} few blank noted put =
    put ∙ gather_same (renewed_by roles bounds kinds) (renewed_by') n 0
    (λ j _ h. ap (λ (r : ℕ). renewed r kinds (begins bounds j) (ends bounds j)) (role j h))
  where
    renewed_by' : ℕ → List ℕ
    renewed_by' j = renewed (role_at bounds kinds args j) kinds (begins bounds j) (ends bounds j)

    role : (j : ℕ) → j < 0 + n → get_or roles j 0 ≡ role_at bounds kinds args j
    role j h =
        let row = roles_in n bounds kinds args in
        let long : length row ≡ n = gather_ones (role_at bounds kinds args) n 0 in
        let room : length roles₀ ≡ most_statements = ap length blank ∙ length-replicate {A = ℕ} most_statements 0 in
        let front : take n (sets roles₀ 0 row) ≡ row = rw long at
        (sets_back roles₀ 0 row (omega (arith, long, room))) in
        ap (λ (l : List ℕ). get_or l j 0) noted
        ∙ sym (get_or-take n (sets roles₀ 0 row) j 0 (omega arith))
        ∙ ap (λ (l : List ℕ). get_or l j 0) front
        ∙ gather_at (role_at bounds kinds args) n 0 j (omega arith)
        ∙ ap (role_at bounds kinds args) (let e : 0 + j ≡ j = omega arith in e)
