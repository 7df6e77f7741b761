-- Where headers and ends stand that are paired: each place in one pair at most, headers at headers, ends at ends, and
-- each header before its end.
use Prim.Native.Nat.{ℕ, zero, suc, ◌+◌, ◌≤◌, ◌<◌}
use mathlib.Core.Path.{◌≡◌, refl, sym, ap, ◌∙◌}
use mathlib.Core.Logic.{⊎_elim}
use mathlib.Core.List.{List, [], ◌∷◌}
use native.Mathlib.Omega.{arith}
use borrow.Author.Tests.{le-leb, lt-leb}
use lib.Dec.{eqb, leb}
use lib.ListN.{length, get_or}
use Rattle.laws.specs.Counts.{once, count}
use Rattle.laws.specs.Every.{Every}
use Rattle.laws.proofs.Tests.{eq_or_ne, lt_or_ge}
use Rattle.laws.proofs.Counts.{once_same, once_other}
use Rattle.laws.proofs.Members.{Below}
use Rattle.blocks.specs.Pairing.{Bracket, opens, shuts, neither, Pair, pairs_from, heads, tails}

-- from i on: i itself, and from the next on
from_step : (i h : ℕ) → once (eqb h i) + once (leb (suc i) h) ≡ once (leb i h)
from_step i h = ⊎_elim below (λ g. ⊎_elim (here g) (above g) (eq_or_ne h i)) (lt_or_ge h i)
  where
    below : h < i → once (eqb h i) + once (leb (suc i) h) ≡ once (leb i h)
    below l =
        rw (lt-leb i h l, lt-leb (suc i) h (omega arith)) (omega (arith, once_other h i (λ e. omega arith)))

    here : i ≤ h → h ≡ i → once (eqb h i) + once (leb (suc i) h) ≡ once (leb i h)
    here g e = rw (le-leb i h g, lt-leb (suc i) h (omega arith), e) (omega (arith, once_same i))

    above : i ≤ h → (h ≡ i → ⊥) → once (eqb h i) + once (leb (suc i) h) ≡ once (leb i h)
    above g n =
        let l : suc i ≤ h = omega arith in rw (le-leb i h g, le-leb (suc i) h l) (omega (arith, once_other h i n))

-- none from the next on is i
not_yet : (i : ℕ) → once (leb (suc i) i) ≡ 0
not_yet i = rw (lt-leb (suc i) i (omega arith))

-- a place is in one pair at most, of those that are left and those that come
pub pairs_few : (left : List ℕ) (i : ℕ) (bs : List Bracket) (h : ℕ)
    → count h (heads (pairs_from left i bs)) + count h (tails (pairs_from left i bs)) ≤ count h left + once (leb i h)
unfolding pairs_from count
pairs_few left i [] h = omega arith
pairs_few left i (opens ∷ bs) h = omega (arith, pairs_few (i ∷ left) (suc i) bs h, from_step i h)
pairs_few [] i (shuts ∷ bs) h = omega (arith, pairs_few [] (suc i) bs h, from_step i h)
pairs_few (g ∷ left) i (shuts ∷ bs) h = omega (arith, pairs_few left (suc i) bs h, from_step i h)
pairs_few left i (neither ∷ bs) h = omega (arith, pairs_few left (suc i) bs h, from_step i h)

-- the ends stand from i on
pub tails_from : (left : List ℕ) (i : ℕ) (bs : List Bracket) (h : ℕ)
    → count h (tails (pairs_from left i bs)) ≤ once (leb i h)
unfolding pairs_from count
tails_from left i [] h = omega arith
tails_from left i (opens ∷ bs) h = omega (arith, tails_from (i ∷ left) (suc i) bs h, from_step i h)
tails_from [] i (shuts ∷ bs) h = omega (arith, tails_from [] (suc i) bs h, from_step i h)
tails_from (g ∷ left) i (shuts ∷ bs) h = omega (arith, tails_from left (suc i) bs h, from_step i h)
tails_from left i (neither ∷ bs) h = omega (arith, tails_from left (suc i) bs h, from_step i h)

-- two brackets that are not the same
opens_shuts : {A : Type 0} → opens ≡ shuts → A
opens_shuts e = absurd (let z : ◌≡◌ {A = ℕ} 0 1 = cc in omega arith)

shuts_opens : {A : Type 0} → shuts ≡ opens → A
shuts_opens e = absurd (let z : ◌≡◌ {A = ℕ} 0 1 = cc in omega arith)

neither_opens : {A : Type 0} → neither ≡ opens → A
neither_opens e = absurd (let z : ◌≡◌ {A = ℕ} 0 1 = cc in omega arith)

neither_shuts : {A : Type 0} → neither ≡ shuts → A
neither_shuts e = absurd (let z : ◌≡◌ {A = ℕ} 0 1 = cc in omega arith)

-- a header is no end
pub tail_shuts : (left : List ℕ) (i : ℕ) (bs : List Bracket) (k : ℕ) → get_or bs k neither ≡ opens
    → count (i + k) (tails (pairs_from left i bs)) ≡ 0
unfolding pairs_from count
tail_shuts left i [] k e = refl
tail_shuts left i (opens ∷ bs) zero e =
    let z : i + 0 ≡ i = omega arith in rw z (omega (arith, tails_from (i ∷ left) (suc i) bs i, not_yet i))
tail_shuts [] i (shuts ∷ bs) zero e = shuts_opens e
tail_shuts (g ∷ left) i (shuts ∷ bs) zero e = shuts_opens e
tail_shuts left i (neither ∷ bs) zero e = neither_opens e
tail_shuts left i (opens ∷ bs) (suc k) e =
    let z : i + suc k ≡ suc i + k = omega arith in rw z (tail_shuts (i ∷ left) (suc i) bs k e)
tail_shuts [] i (shuts ∷ bs) (suc k) e =
    let z : i + suc k ≡ suc i + k = omega arith in rw z (tail_shuts [] (suc i) bs k e)
tail_shuts (g ∷ left) i (shuts ∷ bs) (suc k) e =
    let z : i + suc k ≡ suc i + k = omega arith in
    let m : count (suc i + k) (tails (pairs_from (g ∷ left) i (shuts ∷ bs))) ≡ 0 =
    omega (arith, tail_shuts left (suc i) bs k e, once_other (suc i + k) i (λ e. omega arith)) in
    ap (λ h. count h (tails (pairs_from (g ∷ left) i (shuts ∷ bs)))) z ∙ m
tail_shuts left i (neither ∷ bs) (suc k) e =
    let z : i + suc k ≡ suc i + k = omega arith in rw z (tail_shuts left (suc i) bs k e)

-- an end is no header, unless it is left
pub head_opens : (left : List ℕ) (i : ℕ) (bs : List Bracket) (k : ℕ) → get_or bs k neither ≡ shuts
    → count (i + k) left ≡ 0 → count (i + k) (heads (pairs_from left i bs)) ≡ 0
unfolding pairs_from count
head_opens left i [] k e n = refl
head_opens left i (opens ∷ bs) zero e n = opens_shuts e
head_opens [] i (shuts ∷ bs) zero e n =
    let z : i + 0 ≡ i = omega arith in rw z (omega (arith, pairs_few [] (suc i) bs i, not_yet i))
head_opens (g ∷ left) i (shuts ∷ bs) zero e n =
    let z : i + 0 ≡ i = omega arith in
    let m : once (eqb i g) + count i left ≡ 0 = ap (λ h. count h (g ∷ left)) (sym z) ∙ n in
    let r : count i (heads (pairs_from (g ∷ left) i (shuts ∷ bs))) ≡ 0 =
    omega (arith, pairs_few left (suc i) bs i, not_yet i) in
    ap (λ h. count h (heads (pairs_from (g ∷ left) i (shuts ∷ bs)))) z ∙ r
head_opens left i (neither ∷ bs) zero e n = neither_shuts e
head_opens left i (opens ∷ bs) (suc k) e n =
    let z : i + suc k ≡ suc i + k = omega arith in
    let m : count (suc i + k) left ≡ 0 = rw z at n in
    rw z (head_opens (i ∷ left) (suc i) bs k e (omega (arith, once_other (suc i + k) i (λ e. omega arith))))
head_opens [] i (shuts ∷ bs) (suc k) e n =
    let z : i + suc k ≡ suc i + k = omega arith in rw z (head_opens [] (suc i) bs k e refl)
head_opens (g ∷ left) i (shuts ∷ bs) (suc k) e n =
    let z : i + suc k ≡ suc i + k = omega arith in
    let m : once (eqb (suc i + k) g) + count (suc i + k) left ≡ 0 = ap (λ h. count h (g ∷ left)) (sym z) ∙ n in
    let r : count (suc i + k) (heads (pairs_from (g ∷ left) i (shuts ∷ bs))) ≡ 0 =
    omega (arith, head_opens left (suc i) bs k e (omega arith)) in
    ap (λ h. count h (heads (pairs_from (g ∷ left) i (shuts ∷ bs)))) z ∙ r
head_opens left i (neither ∷ bs) (suc k) e n =
    let z : i + suc k ≡ suc i + k = omega arith in
    let m : count (suc i + k) left ≡ 0 = rw z at n in
    rw z (head_opens left (suc i) bs k e m)

-- each header stands before its end, and that among the statements
abbrev pub Ordered : ℕ → List Pair → Type 0
Ordered n ps = Every (λ (p : Pair). (p.head < p.tail) × (p.tail < n)) ps

below_more : (i : ℕ) (left : List ℕ) → Below i left → Below (suc i) left
below_more i left b j h = omega (arith, b j h)

below_here : (i : ℕ) (left : List ℕ) → Below i left → Below (suc i) (i ∷ left)
unfolding count
below_here i left b j h =
    ⊎_elim (λ (e : j ≡ i). omega arith) (λ n. omega (arith, b j (omega (arith, once_other j i n)))) (eq_or_ne j i)

below_top : (i g : ℕ) (left : List ℕ) → Below i (g ∷ left) → (g < i) × Below i left
unfolding count
below_top i g left b = (b g (omega (arith, once_same g)), λ j h. b j (omega arith))

pub pairs_ordered : (left : List ℕ) (i : ℕ) (bs : List Bracket) (n : ℕ) → Below i left → i + length bs ≤ n
    → Ordered n (pairs_from left i bs)
unfolding pairs_from
pairs_ordered left i [] n b h = tt
pairs_ordered left i (opens ∷ bs) n b h = pairs_ordered (i ∷ left) (suc i) bs n (below_here i left b) (omega arith)
pairs_ordered [] i (shuts ∷ bs) n b h = pairs_ordered [] (suc i) bs n (below_more i [] b) (omega arith)
pairs_ordered (g ∷ left) i (shuts ∷ bs) n b h =
    let t = below_top i g left b in
    ((t.0, omega arith), pairs_ordered left (suc i) bs n (below_more i left t.1) (omega arith))
pairs_ordered left i (neither ∷ bs) n b h = pairs_ordered left (suc i) bs n (below_more i left b) (omega arith)
