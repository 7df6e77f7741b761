-- The place of a key in a list, and how it is found by hint and links.
use Prim.Native.Nat.{ℕ, zero, suc, ◌+◌, ◌-◌, ◌%◌, ◌≤◌, ◌<◌}
use mathlib.Core.Path.{◌≡◌, refl, sym, ap, ◌∙◌}
use mathlib.Core.Bool.{Bool, true, false, cond}
use mathlib.Core.Logic.{⊎_elim}
use mathlib.Core.List.{List, [], ◌∷◌}
use native.Mathlib.Numerals.{add-one, lt_of_le_of_ne}
use native.Mathlib.Omega.{arith}
use borrow.Author.Tests.{eq-eqb, ne_eqb}
use lib.Dec.{eqb}
use lib.ListN.{length, get_or, set, drop, replicate, length-set, length-replicate, get_or-replicate, drop_of_length-le}
use lib.Seq.{drop-cons, get_or-set_same, get_or-set_other}
use Rattle.laws.proofs.Tests.{cond_ind, eq_or_ne}
use Rattle.model.specs.Definitions.{place_in}
use Rattle.model.specs.Working.{buckets, next_in, next_from, Hinted}

-- ---- a search from place i on
module _ (k : ℕ) (l : List ℕ) (i : ℕ) where
  place_step : i < length l → place_in k (drop i l) ≡ cond (eqb k (get_or l i 0)) 0 (suc (place_in k (drop (i + 1) l)))
  unfolding place_in
  place_step h = rw (add-one, drop-cons l i 0 h)

  pub place_stop : i < length l → get_or l i 0 ≡ k → i + place_in k (drop i l) ≡ i
  place_stop h e = rw (place_step h, eq-eqb k (get_or l i 0) (sym e)) (omega arith)

  pub place_pass : i < length l → (get_or l i 0 ≡ k → ⊥)
      → i + place_in k (drop i l) ≡ i + 1 + place_in k (drop (i + 1) l)
  place_pass h e = rw (place_step h, ne_eqb k (get_or l i 0) (λ z. e (sym z))) (omega arith)

  pub place_done : length l ≤ i → i + place_in k (drop i l) ≡ i
  unfolding place_in
  place_done h = rw (drop_of_length-le l h) (omega arith)

-- ---- what a place is: the first that has the key, or the end
pub place_le : (k : ℕ) (l : List ℕ) → place_in k l ≤ length l
unfolding place_in
place_le k [] = omega arith
place_le k (a ∷ l) =
    cond_ind (λ (r : ℕ). r ≤ suc (length l)) (eqb k a) 0 (suc (place_in k l)) (λ _. omega arith)
    (λ _. omega (arith, place_le k l))

-- ---- the first place from here on whose key has a remainder
module _ (keys : List ℕ) (b i : ℕ) where
  next_step : i < length keys → next_from keys b i
      ≡ cond (eqb (get_or keys i 0 % buckets) b) (suc i) (next_from keys b (i + 1))
  unfolding next_in
  next_step h = let e : length keys - i ≡ suc (length keys - (i + 1)) = omega arith in rw (e, add-one i)

  next_here : i < length keys → get_or keys i 0 % buckets ≡ b → next_from keys b i ≡ suc i
  next_here h e = rw (next_step h, eq-eqb (get_or keys i 0 % buckets) b e)

  next_pass : i < length keys → (get_or keys i 0 % buckets ≡ b → ⊥) → next_from keys b i ≡ next_from keys b (i + 1)
  next_pass h e = rw (next_step h, ne_eqb (get_or keys i 0 % buckets) b e)

  next_done : length keys ≤ i → next_from keys b i ≡ 0
  unfolding next_in
  next_done h = let e : length keys - i ≡ 0 = omega arith in rw e

-- it lies ahead
pub next_ahead : (keys : List ℕ) (b n i : ℕ) → 0 < next_in keys b n i → i < next_in keys b n i
unfolding next_in
next_ahead keys b zero i h = absurd (omega arith)
next_ahead keys b (suc n) i h = go (eqb (get_or keys i 0 % buckets) b) (next_ahead keys b n (suc i)) h
  where
    go : (t : Bool) → (0 < next_in keys b n (suc i) → suc i < next_in keys b n (suc i))
        → 0 < cond t (suc i) (next_in keys b n (suc i))
        → i < cond t (suc i) (next_in keys b n (suc i))
    go true r p = omega arith
    go false r p = omega (arith, r p)

-- ---- a key sought: with h = 0 it stands nowhere; else the key at h - 1 has its remainder, and it does not stand
-- before that
pub record Sought (keys : List ℕ) (key h : ℕ) : Type 0 where
  pub within : h ≤ length keys
  pub none : h ≡ 0 → place_in key keys ≡ length keys
  pub same : 0 < h → get_or keys (h - 1) 0 % buckets ≡ key % buckets
  pub place : 0 < h → h - 1 + place_in key (drop (h - 1) keys) ≡ place_in key keys

module _ (keys : List ℕ) (key : ℕ) where
  -- from a place that is not past the key, the next with its remainder is not either
  sought_in : (n i : ℕ) → i + n ≡ length keys → i + place_in key (drop i keys) ≡ place_in key keys
      → Sought keys key (next_in keys (key % buckets) n i)
  unfolding next_in
  sought_in zero i l e =
      record {
        within = omega arith;
        none = λ _. sym e ∙ place_done key keys i (omega arith) ∙ (let w : i ≡ length keys = omega arith in w);
        same = λ h. absurd (omega arith);
        place = λ h. absurd (omega arith);
      }
  sought_in (suc n) i l e =
      ⊎_elim here (there (sought_in n (suc i) (omega arith))) (eq_or_ne (get_or keys i 0 % buckets) (key % buckets))
    where
      here : get_or keys i 0 % buckets ≡ key % buckets
          → Sought keys key
          (cond (eqb (get_or keys i 0 % buckets) (key % buckets)) (suc i) (next_in keys (key % buckets) n (suc i)))
      here s =
          let z : suc i - 1 ≡ i = omega arith in
          rw (eq-eqb (get_or keys i 0 % buckets) (key % buckets) s)
          (record { within = omega arith; none = λ h. absurd (omega arith); same = λ _. rw z s; place = λ _. rw z e })

      there : (suc i + place_in key (drop (suc i) keys) ≡ place_in key keys
          → Sought keys key (next_in keys (key % buckets) n (suc i)))
          → (get_or keys i 0 % buckets ≡ key % buckets → ⊥)
          → Sought keys key
          (cond (eqb (get_or keys i 0 % buckets) (key % buckets)) (suc i) (next_in keys (key % buckets) n (suc i)))
      there more d =
          let p = place_pass key keys i (omega arith) (λ k. d (ap (λ (a : ℕ). a % buckets) k)) in
          rw (ne_eqb (get_or keys i 0 % buckets) (key % buckets) d) (more (rw (← (add-one i)) (sym p ∙ e)))

  sought_from : (i : ℕ) → i ≤ length keys → i + place_in key (drop i keys) ≡ place_in key keys
      → Sought keys key (next_from keys (key % buckets) i)
  sought_from i h e = sought_in (length keys - i) i (omega arith) e

-- how far a search may still go
unfoldable pub ahead : ℕ → ℕ → ℕ
ahead n zero = 0
ahead n (suc h) = suc n - h

ahead_less : (n h h' : ℕ) → 0 < h → h ≤ n → (0 < h' → h < h') → ahead n h' < ahead n h
unfolding ahead
ahead_less n zero h' p w f = absurd (omega arith)
ahead_less n (suc h) zero p w f = omega arith
ahead_less n (suc h) (suc h') p w f = omega (arith, f (omega arith))

-- it ends where nothing is left
pub sought_none : {keys : List ℕ} {key h : ℕ} → Sought keys key h → h ≤ 0 → length keys ≡ place_in key keys
sought_none s h = sym (s.none (omega arith))

module _ {keys hints links : List ℕ} (t : Hinted keys hints links) {key : ℕ} where
  -- the search begins at the hint
  pub sought_first : {b h : ℕ} → b ≡ key % buckets → b < buckets → h ≡ get_or hints b 0 → Sought keys key h
  sought_first {b} {h} q l e =
      rw (e ∙ t.hint b l ∙ ap (λ (a : ℕ). next_from keys a 0) q) (sought_from keys key 0 (omega arith) (omega arith))

  module _ {h : ℕ} (s : Sought keys key h) (p : 0 < h) where
    -- it ends at the key
    pub sought_there : get_or keys (h - 1) 0 ≡ key → h - 1 ≡ place_in key keys
    sought_there e = sym (place_stop key keys (h - 1) (omega (arith, s.within)) e) ∙ s.place p

    -- it goes on by the link
    linked : {h' : ℕ} → h' ≡ get_or links (h - 1) 0 → h' ≡ next_from keys (key % buckets) h
    linked e =
        let z : h - 1 + 1 ≡ h = omega arith in
        e ∙ rw (s.same p, z) at (t.link (h - 1) (omega (arith, s.within)))

    pub sought_next : {h' : ℕ} → (get_or keys (h - 1) 0 ≡ key → ⊥) → h' ≡ get_or links (h - 1) 0 → Sought keys key h'
    sought_next d e =
        let z : h - 1 + 1 ≡ h = omega arith in
        let pass = place_pass key keys (h - 1) (omega (arith, s.within)) d in
        rw (linked e) (sought_from keys key h s.within (rw z at (sym pass) ∙ s.place p))

    pub sought_less : {h' : ℕ} → h' ≡ get_or links (h - 1) 0 → ahead (length keys) h' < ahead (length keys) h
    sought_less {h'} e =
        ahead_less (length keys) h h' p s.within
        (λ l. rw (linked e) (next_ahead keys (key % buckets) (length keys - h) h (rw (linked e) at l)))

-- ---- the hints noted, from the last key down to key d
pub record Hinting (keys links₀ : List ℕ) (d : ℕ) (hints links : List ℕ) : Type 0 where
  pub within : d ≤ length keys
  pub long : length hints ≡ buckets
  pub room : length keys ≤ length links
  pub kept : length links ≡ length links₀
  pub hint : (b : ℕ) → b < buckets → get_or hints b 0 ≡ next_from keys b d
  pub link : (e : ℕ) → d ≤ e → e < length keys → get_or links e 0 ≡ next_from keys (get_or keys e 0 % buckets) (e + 1)

pub hinting_first : (keys : List ℕ) {hints links : List ℕ} → hints ≡ replicate buckets 0 → length keys ≤ length links
    → Hinting keys links (length keys) hints links
hinting_first keys {hints} {links} z h =
    record {
      within = omega arith;
      long = ap length z ∙ length-replicate {A = ℕ} buckets 0;
      room = h;
      kept = refl;
      hint = λ b l. rw (z, next_done keys b (length keys) (omega arith)) (get_or-replicate {A = ℕ} buckets b 0 0 l);
      link = λ e a l. absurd (omega arith);
    }

pub hinting_last : {keys links₀ hints links : List ℕ} {d : ℕ} → Hinting keys links₀ d hints links → d ≤ 0
    → Hinted keys hints links
hinting_last {keys} {links₀} {hints} {links} {d} v h =
    let z : d ≡ 0 = omega arith in
    record { hint = λ b l. rw z at (v.hint b l); link = λ e l. v.link e (omega arith) l }

-- key d - 1 takes over the hint of its remainder as its link, and the hint leads to it
module _ {keys links₀ hints links : List ℕ} {d b : ℕ} (v : Hinting keys links₀ d hints links) (p : 0 < d)
    (q : b ≡ get_or keys (d - 1) 0 % buckets)
    (h : b < buckets) where
  inside : d - 1 < length keys
  inside = omega (arith, v.within)

  back : d - 1 + 1 ≡ d
  back = omega arith

  next_hint : (a : ℕ) → a < buckets → get_or (set hints b d) a 0 ≡ next_from keys a (d - 1)
  next_hint a l = ⊎_elim same other (eq_or_ne a b)
    where
      same : a ≡ b → get_or (set hints b d) a 0 ≡ next_from keys a (d - 1)
      same e =
          let z : suc (d - 1) ≡ d = omega arith in
          rw e (get_or-set_same hints b d 0 (omega (arith, v.long)) ∙ sym (next_here keys b (d - 1) inside (sym q) ∙ z))

      other : (a ≡ b → ⊥) → get_or (set hints b d) a 0 ≡ next_from keys a (d - 1)
      other n =
          let pass = next_pass keys a (d - 1) inside (λ e. n (sym e ∙ sym q)) in
          get_or-set_other hints b a d 0 n ∙ v.hint a l ∙ sym (rw back at pass)

  next_link : (x : ℕ) → x ≡ get_or hints b 0 → (e : ℕ) → d - 1 ≤ e → e < length keys
      → get_or (set links (d - 1) x) e 0 ≡ next_from keys (get_or keys e 0 % buckets) (e + 1)
  next_link x o e lo hi = ⊎_elim same other (eq_or_ne e (d - 1))
    where
      same : e ≡ d - 1 → get_or (set links (d - 1) x) e 0 ≡ next_from keys (get_or keys e 0 % buckets) (e + 1)
      same z =
          rw (z, back, ← q) (get_or-set_same links (d - 1) x 0 (omega (arith, v.room, inside)) ∙ o ∙ v.hint b h)

      other : (e ≡ d - 1 → ⊥) → get_or (set links (d - 1) x) e 0 ≡ next_from keys (get_or keys e 0 % buckets) (e + 1)
      other n = get_or-set_other links (d - 1) e x 0 n ∙ v.link e (omega (arith, lt_of_le_of_ne lo (λ z. n (sym z)))) hi

  pub hinting_next : {x : ℕ} {hints' links' : List ℕ} → x ≡ get_or hints b 0 → links' ≡ set links (d - 1) x
      → hints' ≡ set hints b (d - 1 + 1)
      → Hinting keys links₀ (d - 1) hints' links'
  hinting_next {x} {hints'} {links'} o m e =
      record {
        within = omega (arith, inside);
        long = ap length e ∙ length-set hints b (d - 1 + 1) ∙ v.long;
        room = omega (arith, ap length m, length-set links (d - 1) x, v.room);
        kept = ap length m ∙ length-set links (d - 1) x ∙ v.kept;
        hint = rw (e, back) next_hint;
        link = rw m (next_link x o);
      }
