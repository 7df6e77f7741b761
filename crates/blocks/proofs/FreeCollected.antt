-- The constants and the states collected, draft by draft.
use Prim.Native.Nat.{ℕ, zero, suc, ◌+◌, ◌≤◌, ◌<◌}
use mathlib.Core.Path.{◌≡◌, refl, ap, ◌∙◌}
use mathlib.Core.Bool.{Bool, true, false, ◌||◌}
use mathlib.Core.List.{List}
use native.Mathlib.Omega.{arith}
use lib.Dec.{eqb}
use lib.ListN.{length, get_or, set, take, replicate, length-replicate, length-append}
use lib.Seq.{length-sets}
use Rattle.limits.specs.Limits.{most_definitions}
use Rattle.laws.specs.Places.{gather, only_if}
use Rattle.laws.specs.Put.{Put}
use Rattle.laws.proofs.Tests.{not_both}
use Rattle.laws.proofs.Sets.{sets_back}
use Rattle.laws.proofs.Gathers.{Writes, writes_first, writes_next, whole_count, whole_all}
use Rattle.drafts.specs.Kinds.{defines, kind_constant, kind_initial}
use Rattle.blocks.specs.Places.{defining_in}
use Rattle.blocks.specs.InsidePlaces.{is_free, free_args, faults26_in}
use Rattle.blocks.specs.Working.{Reported}
use Rattle.blocks.specs.InsideWorking.{faults26_with}
use Rattle.blocks.proofs.DefiningCounted.{only_length}

-- ---- one value written, or none
pub put_one : (b : Bool) (x d : ℕ) {l l' : List ℕ} → b ≡ true → l' ≡ set l d x → Put (only_if b x) d (d + 1) l l'
put_one true x d t e = record { behind = refl; written = e }
put_one false x d t e = absurd (not_both t refl)

pub put_unless : (b : Bool) (x d : ℕ) (l : List ℕ) → b ≡ false → Put (only_if b x) d d l l
put_unless true x d l t = absurd (not_both refl t)
put_unless false x d l t = record { behind = omega arith; written = refl }

-- ---- the loop: it stands at draft i, with f of them
abbrev pub free_at : List ℕ → List ℕ → ℕ → List ℕ
free_at kinds args i = only_if (is_free (get_or kinds i 0)) (get_or args i 0)

pub record Gathering (kinds args free₀ : List ℕ) (f i : ℕ) (free : List ℕ) : Type 0 where
  pub few : f ≤ i
  pub written : Writes (free_at kinds args) (length kinds) 0 i 0 f free₀ free

pub gathering_first : (kinds args free : List ℕ) → Gathering kinds args free 0 0 free
gathering_first kinds args free =
    record { few = omega arith; written = writes_first (free_at kinds args) (length kinds) 0 0 free }

module _ {kinds args free₀ : List ℕ} {f i : ℕ} {free : List ℕ} (v : Gathering kinds args free₀ f i free) where
  pub gathering_next : {key r : ℕ} {free' : List ℕ} → i < length kinds → key ≡ get_or args i 0
      → Put (only_if (is_free (get_or kinds i 0)) key) f r free free' → Gathering kinds args free₀ r (i + 1) free'
  gathering_next {key} {r} {free'} h e put =
      let p : Put (free_at kinds args i) f r free free' = rw e at put in
      record {
        few = omega (arith, v.few, p.behind, only_length (is_free (get_or kinds i 0)) (get_or args i 0));
        written = writes_next v.written h r free' p.behind p.written;
      }

  pub gathering_last : length kinds ≤ i → Put (free_args kinds args) 0 f free₀ free
  unfolding free_args
  gathering_last h =
      record { behind = omega (arith, whole_count v.written h); written = whole_all v.written h }

-- ---- they are definitions, so there are no more of them
free_defines : (k : ℕ) (b c : Bool) (x y : ℕ) → (b ≡ true → c ≡ true) → length (only_if b x) ≤ length (only_if c y)
free_defines k true true x y h = omega arith
free_defines k true false x y h = absurd (not_both (h refl) refl)
free_defines k false c x y h = omega arith

gather_fewer : {A B : Type 0} (f : ℕ → List A) (g : ℕ → List B) → ((i : ℕ) → length (f i) ≤ length (g i)) → (k i : ℕ)
    → length (gather f k i) ≤ length (gather g k i)
unfolding gather
gather_fewer f g h zero i = omega arith
gather_fewer f g h (suc k) i =
    omega (
      arith,
      h i,
      gather_fewer f g h k (suc i),
      length-append (f i) (gather f k (suc i)),
      length-append (g i) (gather g k (suc i)),
    )

pub free_few : (kinds args : List ℕ) → length (free_args kinds args) ≤ length (defining_in kinds)
unfolding free_args defining_in
free_few kinds args =
    gather_fewer (free_at kinds args) (λ i. only_if (defines (get_or kinds i 0)) i)
    (λ i. free_defines i (is_free (get_or kinds i 0)) (defines (get_or kinds i 0)) (get_or args i 0) i
    (free_is (get_or kinds i 0)))
    (length kinds) 0
  where
    free_is : (k : ℕ) → is_free k ≡ true → defines k ≡ true
    free_is k t = go (eqb k kind_constant) (eqb k kind_initial) _ t
      where
        go : (a b c : Bool) → (a || b) ≡ true → (a || (b || c)) ≡ true
        go true b c t = refl
        go false true c t = refl
        go false false c t = absurd (not_both t refl)

-- so the front of the array holds them all
pub free_front : (kinds args : List ℕ) {r : ℕ} {free free' : List ℕ} → length (defining_in kinds) ≤ most_definitions
    → free ≡ replicate most_definitions 0 → Put (free_args kinds args) 0 r free free'
    → (r ≤ length free') × (take r free' ≡ free_args kinds args)
free_front kinds args {r} {free} {free'} h e put =
    let all = free_args kinds args in
    let long : length free ≡ most_definitions = ap length e ∙ length-replicate {A = ℕ} most_definitions 0 in
    let few : length all ≤ most_definitions = omega (arith, free_few kinds args) in
    let back = sets_back free 0 all (omega (arith, long, few)) in
    let at : r ≡ length all = omega (arith, put.behind) in
    (omega (arith, at, few, long, ap length put.written, length-sets free 0 all), rw (put.written, at) back)

-- 26 by what is collected
pub free_reported : (lines bounds kinds args : List ℕ) {f r : ℕ} {free free' list list' : List ℕ}
    → length (defining_in kinds) ≤ most_definitions → free ≡ replicate most_definitions 0
    → Put (free_args kinds args) 0 f free free'
    → Reported (faults26_with (take f free') lines bounds kinds args) 0 r list list'
    → Reported (faults26_in lines bounds kinds args) 0 r list list'
unfolding faults26_in
free_reported lines bounds kinds args h e put reported = rw (free_front kinds args h e put).1 at reported
