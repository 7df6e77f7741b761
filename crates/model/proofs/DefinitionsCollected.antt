-- The definitions collected, draft by draft.
use Prim.Native.Nat.{ℕ, ◌+◌, ◌≤◌, ◌<◌}
use mathlib.Core.Path.{◌≡◌, refl, sym, ◌∙◌}
use mathlib.Core.Bool.{Bool, true, false}
use mathlib.Core.List.{List}
use native.Mathlib.Omega.{arith}
use lib.ListN.{length, get_or, set}
use Rattle.laws.specs.Places.{only_if}
use Rattle.laws.specs.Put.{Put}
use Rattle.laws.proofs.Tests.{not_both}
use Rattle.laws.proofs.Gathers.{Writes, writes_first, writes_next, whole_count, whole_all}
use Rattle.drafts.specs.Kinds.{defines}
use Rattle.model.specs.Places.{defined_at, keys_in, places_in}
use Rattle.model.specs.Working.{place_at, Collected}

-- one value, or none
pub only_length : {A : Type 0} (b : Bool) (x : A) → length (only_if b x) ≤ 1
only_length true x = omega arith
only_length false x = omega arith

-- one value written, or none
pub put_one : (b : Bool) (x d : ℕ) {l l' : List ℕ} → b ≡ true → l' ≡ set l d x → Put (only_if b x) d (d + 1) l l'
put_one true x d t e = record { behind = refl; written = e }
put_one false x d t e = absurd (not_both t refl)

pub put_unless : (b : Bool) (x d : ℕ) (l : List ℕ) → b ≡ false → Put (only_if b x) d d l l
put_unless true x d l t = absurd (not_both refl t)
put_unless false x d l t = record { behind = omega arith; written = refl }

-- the loop stands at draft i, with d definitions
pub record Collecting (kinds args keys₀ places₀ : List ℕ) (d i : ℕ) (keys places : List ℕ) : Type 0 where
  pub few : d ≤ i
  pub keys_so : Writes (defined_at kinds args) (length kinds) 0 i 0 d keys₀ keys
  pub placed : Writes (place_at kinds) (length kinds) 0 i 0 d places₀ places

-- its beginning
pub collecting_first : (kinds args keys places : List ℕ) → Collecting kinds args keys places 0 0 keys places
collecting_first kinds args keys places =
    record {
      few = omega arith;
      keys_so = writes_first (defined_at kinds args) (length kinds) 0 0 keys;
      placed = writes_first (place_at kinds) (length kinds) 0 0 places;
    }

module _ {kinds args keys₀ places₀ : List ℕ} {d i : ℕ} {keys places : List ℕ}
    (v : Collecting kinds args keys₀ places₀ d i keys places) where
  -- one draft further on
  further : {r : ℕ} {keys' places' : List ℕ} → i < length kinds → Put (defined_at kinds args i) d r keys keys'
      → Put (place_at kinds i) d r places places' → Collecting kinds args keys₀ places₀ r (i + 1) keys' places'
  further {r} {keys'} {places'} h key place =
      record {
        few = omega (arith, v.few, key.behind, only_length (defines (get_or kinds i 0)) (get_or args i 0));
        keys_so = writes_next v.keys_so h r keys' key.behind key.written;
        placed = writes_next v.placed h r places' place.behind place.written;
      }

  -- a definition, and a draft that is none
  pub collecting_one : {b : Bool} {r : ℕ} {keys' places' : List ℕ} → i < length kinds → b ≡ defines (get_or kinds i 0)
      → b ≡ true → keys' ≡ set keys d (get_or args i 0) → places' ≡ set places d i → r ≡ d + 1
      → Collecting kinds args keys₀ places₀ r (i + 1) keys' places'
  collecting_one h t y k p e =
      let defining = sym t ∙ y in
      rw e (further h (put_one _ (get_or args i 0) d defining k) (put_one _ i d defining p))

  pub collecting_none : {b : Bool} {r : ℕ} {keys' places' : List ℕ} → i < length kinds → b ≡ defines (get_or kinds i 0)
      → b ≡ false → keys' ≡ keys → places' ≡ places → r ≡ d
      → Collecting kinds args keys₀ places₀ r (i + 1) keys' places'
  collecting_none h t n k p e =
      let other = sym t ∙ n in
      rw (e, k, p) (further h (put_unless _ (get_or args i 0) d keys other) (put_unless _ i d places other))

  -- its end
  pub collecting_last : length kinds ≤ i → Collected kinds args d keys₀ keys places₀ places
  unfolding keys_in places_in
  collecting_last h =
      record {
        keys_so = record { behind = omega (arith, whole_count v.keys_so h); written = whole_all v.keys_so h };
        placed = record { behind = omega (arith, whole_count v.placed h); written = whole_all v.placed h };
      }
