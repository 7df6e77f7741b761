-- Laws of bytes 10: how many a text has, and where none stands.
use Prim.Native.Nat.{ℕ, zero, suc, ◌+◌, ◌-◌, ◌≤◌, ◌<◌}
use mathlib.Core.Path.{◌≡◌, refl, sym, ap, ◌∙◌}
use mathlib.Core.Bool.{Bool, true, false, not, cond, ◌||◌}
use mathlib.Core.List.{List, [], ◌∷◌, ◌++◌}
use native.Mathlib.Nat.{not-suc-le-zero, zero-add}
use native.Mathlib.Omega.{arith}
use Rattle.std.specs.List.{sum_by, fold, slice_get}
use Rattle.std.specs.Prelude.{Option, Some, None}
use Rattle.std.proofs.lemmas.List.Recursion.{is_sum_by}
use borrow.Author.Tests.{ne_eqb, lt-ltb, ltb-false}
use lib.Dec.{eqb, ltb}
use lib.ListN.{length, take, drop, length-drop}
use lib.Seq.{drop-drop}
use Rattle.laws.specs.Counts.{once}
use Rattle.deck.specs.Lines.{Line, cut, lines_of}
use Rattle.deck.specs.Next.{width, SameEnd}
use Rattle.deck.specs.Ends.{ends_of}

-- ---- counted and sought

-- one by one
pub ends_sum : (t : List ℕ) → ends_of t ≡ sum_by (λ (b : ℕ). once (eqb b 10)) t
unfolding ends_of
ends_sum t = is_sum_by ends_of (λ (b : ℕ). once (eqb b 10)) refl (λ b t. refl) t

-- one was found, or one is among these
pub ends_fold : (f : Bool) (t : List ℕ)
    → fold (λ (f : Bool) (b : ℕ). f || eqb b 10) f t ≡ (f || ltb 0 (ends_of t))
unfolding ends_of
ends_fold f [] = go f
  where
    go : (f : Bool) → f ≡ (f || false)
    go true = refl
    go false = refl
ends_fold f (b ∷ t) = ends_fold (f || eqb b 10) t ∙ go f (eqb b 10) (ends_of t)
  where
    go : (f c : Bool) (n : ℕ) → ((f || c) || ltb 0 n) ≡ (f || ltb 0 (once c + n))
    go true c n = refl
    go false true n = sym (lt-ltb 0 (1 + n) (omega arith))
    go false false n = rw (zero-add n)

-- part by part
pub ends_append : (x y : List ℕ) → ends_of (x ++ y) ≡ ends_of x + ends_of y
unfolding ends_of
ends_append [] y = omega arith
ends_append (b ∷ x) y = omega (arith, ends_append x y)

-- no more than all bytes
pub ends_le : (t : List ℕ) → ends_of t ≤ length t
unfolding ends_of
ends_le [] = omega arith
ends_le (b ∷ t) = go (eqb b 10) (ends_le t)
  where
    go : (f : Bool) → ends_of t ≤ length t → once f + ends_of t ≤ suc (length t)
    go true h = omega arith
    go false h = omega arith

-- ---- lines by bytes 10

-- the last of b and bytes behind it
unfoldable last : ℕ → List ℕ → ℕ
last b [] = b
last b (c ∷ t) = last c t

last_at : (b : ℕ) (t : List ℕ) → slice_get (b ∷ t) (length t) ≡ Some (last b t)
unfolding last
last_at b [] = refl
last_at b (c ∷ t) = last_at c t

-- one byte 10 more is one line more; another byte begins one or stands in one
cut_many : (f : Bool) (b : ℕ) (ls : List Line) → 0 < length ls → length (cut f b ls) ≡ once f + length ls
cut_many true b ls h = omega arith
cut_many false b [] h = absurd (omega arith)
cut_many false b (l ∷ ls) h = omega arith

cut_some : (f : Bool) (b : ℕ) (ls : List Line) → 0 < length (cut f b ls)
cut_some true b ls = omega arith
cut_some false b [] = omega arith
cut_some false b (l ∷ ls) = omega arith

lines_many : (b : ℕ) (t : List ℕ) → length (lines_of (b ∷ t)) ≡ ends_of (b ∷ t) + once (not (eqb (last b t) 10))
unfolding lines_of ends_of last
lines_many b [] = go (eqb b 10)
  where
    go : (f : Bool) → length (cut f b []) ≡ once f + 0 + once (not f)
    go true = refl
    go false = refl
lines_many b (c ∷ t) =
    let h = lines_many c t in
    let m = cut_many (eqb b 10) b (lines_of (c ∷ t)) (cut_some (eqb c 10) c (lines_of t)) in
    omega arith

-- by the last byte of a text
abbrev more : Option ℕ → ℕ
more None = 0
more (Some b) = once (not (eqb b 10))

lines_by : (t : List ℕ) → length (lines_of t) ≡ ends_of t + more (slice_get t (length t - 1))
unfolding lines_of ends_of
lines_by [] = refl
lines_by (b ∷ t) =
    let n : suc (length t) - 1 ≡ length t = omega arith in
    rw (n, last_at b t) (lines_many b t)

module _ (t : List ℕ) where
  pub lines_none : None ≡ slice_get t (length t - 1) → length (lines_of t) ≡ ends_of t
  lines_none e = omega (arith, rw (← e) at (lines_by t))

  pub lines_closed : Some 10 ≡ slice_get t (length t - 1) → length (lines_of t) ≡ ends_of t
  lines_closed e = omega (arith, rw (← e) at (lines_by t))

  pub lines_open : (b : ℕ) → Some b ≡ slice_get t (length t - 1) → (b ≡ 10 → ⊥)
      → length (lines_of t) ≡ ends_of t + 1
  lines_open b e other = rw (← e, ne_eqb b 10 other) at (lines_by t)

-- ---- where no byte 10 stands

-- the bytes before the first byte 10 go on behind some without one
width_clear : (k : ℕ) (t : List ℕ) → k ≤ length t → ends_of (take k t) ≡ 0 → width t ≡ k + width (drop k t)
unfolding ends_of width
width_clear zero t h e = omega arith
width_clear (suc k) [] h e = absurd (not-suc-le-zero h)
width_clear (suc k) (b ∷ t) h e = go (eqb b 10) e (width_clear k t (omega arith))
  where
    go : (f : Bool) → once f + ends_of (take k t) ≡ 0 → (ends_of (take k t) ≡ 0 → width t ≡ k + width (drop k t))
        → cond f 0 (suc (width t)) ≡ suc k + width (drop k t)
    go true e w = absurd (omega arith)
    go false e w = let z = w (omega arith) in omega arith

pub passes_first : (t : List ℕ) (at : ℕ) → at ≤ length t → SameEnd t at at
passes_first t at h = record { from = omega arith; upto = h; same = refl }

-- from one place to another, and on from there
pub passes_both : {t : List ℕ} {at i j : ℕ} → SameEnd t at i → SameEnd t i j → SameEnd t at j
passes_both w v =
    record { from = omega (arith, w.from, v.from); upto = v.upto; same = omega (arith, w.same, v.same) }

pub passes_on : {t : List ℕ} {at i : ℕ} (k : ℕ) → SameEnd t at i → i + k ≤ length t
    → ltb 0 (ends_of (take (i + k - i) (drop i t))) ≡ false
    → SameEnd t at (i + k)
passes_on {t} {at} {i} k w h q =
    let y : i + k - i ≡ k = omega arith in
    let e : ends_of (take k (drop i t)) ≡ 0 = omega (arith, ltb-false 0 (ends_of (take k (drop i t))) (rw y at q)) in
    let n = length-drop i t in
    let z = width_clear k (drop i t) (omega arith) e in
    let d = ap width (drop-drop k i t) in
    record { from = omega (arith, w.from); upto = h; same = omega (arith, w.same) }
