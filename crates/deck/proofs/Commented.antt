-- A comment put in among the lines of a statement moves the spots below it by one line.
use Prim.Native.Nat.{ℕ, suc, ◌+◌, ◌-◌, ◌<◌, ◌≤◌}
use mathlib.Core.Path.{◌≡◌, refl, sym, ap, ◌∙◌}
use mathlib.Core.Bool.{Bool, true, false, cond}
use mathlib.Core.List.{List, [], ◌∷◌, ◌++◌}
use native.Mathlib.Omega.{arith}
use lib.Dec.{ltb}
use lib.ListN.{length}
use borrow.Author.Tests.{lt-ltb, le-ltb}
use Rattle.deck.specs.Lines.{Line, starred}
use Rattle.deck.specs.Joined.{line_part}
use Rattle.deck.specs.Spots.{spot, first_byte, byte_spot, last_column, last_spot, spot_of}
use Rattle.deck.specs.declared.Place.{Place}
use Rattle.deck.specs.declared.Place.TheVariants.{AtStart, AtToken, AtEnd}
use Rattle.deck.specs.declared.Spot.{Spot}

-- ---- a line more behind k others: what stands below these is a line lower
abbrev pub lowered : ℕ → Spot → Spot
lowered k s = spot (cond (ltb s.down k) s.down (suc s.down)) s.column

-- above it nothing is
lowered_above : (k : ℕ) (s : Spot) → s.down < k → lowered k s ≡ s
lowered_above k s h = rw (lt-ltb s.down k h)

-- below it all is
lowered_below : (k d column : ℕ) → k ≤ d → lowered k (spot d column) ≡ spot (suc d) column
lowered_below k d column h = rw (le-ltb d k h)

module _ (k : ℕ) (some : 0 < k) where
  -- bytes of lines that are a line lower
  byte_lower : (d : ℕ) (ls : List Line) (n : ℕ) → k ≤ d → byte_spot (suc d) ls n ≡ lowered k (byte_spot d ls n)
  unfolding byte_spot
  byte_lower d [] n h = sym (lowered_above k first_byte some)
  byte_lower d (l ∷ ls) n h =
      go (starred l) (ltb n (length (line_part l))) (λ m. byte_lower (suc d) ls m (omega arith))
    where
      go : (s b : Bool) → ((m : ℕ) → byte_spot (suc (suc d)) ls m ≡ lowered k (byte_spot (suc d) ls m))
          → cond s (byte_spot (suc (suc d)) ls n)
          (cond b (spot (suc d) (suc n)) (byte_spot (suc (suc d)) ls (n - suc (length (line_part l)))))
          ≡ lowered k
          (cond s (byte_spot (suc d) ls n)
          (cond b (spot d (suc n)) (byte_spot (suc d) ls (n - suc (length (line_part l))))))
      go true b ih = ih n
      go false true ih = sym (lowered_below k d (suc n) h)
      go false false ih = ih (n - suc (length (line_part l)))

  -- the last card of lines that are a line lower
  last_lower : (z : Spot) (d : ℕ) (ls : List Line) → k ≤ d
      → last_spot (lowered k z) (suc d) ls ≡ lowered k (last_spot z d ls)
  unfolding last_spot
  last_lower z d [] h = refl
  last_lower z d (l ∷ ls) h =
      ap (λ (y : Spot). last_spot y (suc (suc d)) ls) (go (starred l))
      ∙ last_lower (cond (starred l) z (spot d (last_column (length l)))) (suc d) ls (omega arith)
    where
      go : (s : Bool) → cond s (lowered k z) (spot (suc d) (last_column (length l)))
          ≡ lowered k (cond s z (spot d (last_column (length l))))
      go true = refl
      go false = sym (lowered_below k d (last_column (length l)) h)

module _ (c : Line) (star : starred c ≡ true) where
  -- a byte of the joined text, with the comment behind the lines x
  byte_commented : (d : ℕ) (x y : List Line) (n : ℕ) → 0 < d + length x
      → byte_spot d (x ++ (c ∷ y)) n ≡ lowered (d + length x) (byte_spot d (x ++ y) n)
  unfolding byte_spot
  byte_commented d [] y n h =
      let here : d + 0 ≡ d = omega arith in
      rw (star, here) (byte_lower d (omega arith) d y n (omega arith))
  byte_commented d (l ∷ x) y n h =
      go (starred l) (ltb n (length (line_part l))) (λ m. byte_commented (suc d) x y m (omega arith))
    where
      long : d + suc (length x) ≡ suc d + length x
      long = omega arith

      go : (s b : Bool)
          → ((m : ℕ) → byte_spot (suc d) (x ++ (c ∷ y)) m
          ≡ lowered (suc d + length x) (byte_spot (suc d) (x ++ y) m))
          → cond s (byte_spot (suc d) (x ++ (c ∷ y)) n)
          (cond b (spot d (suc n)) (byte_spot (suc d) (x ++ (c ∷ y)) (n - suc (length (line_part l)))))
          ≡ lowered (d + suc (length x))
          (cond s (byte_spot (suc d) (x ++ y) n)
          (cond b (spot d (suc n)) (byte_spot (suc d) (x ++ y) (n - suc (length (line_part l))))))
      go true b ih = rw long (ih n)
      go false true ih = sym (lowered_above (d + suc (length x)) (spot d (suc n)) (omega arith))
      go false false ih = rw long (ih (n - suc (length (line_part l))))

  -- the comment itself is no card
  last_over : (z : Spot) (d : ℕ) (y : List Line) → last_spot z d (c ∷ y) ≡ last_spot z (suc d) y
  unfolding last_spot
  last_over z d y = ap (λ (s : Bool). last_spot (cond s z (spot d (last_column (length c)))) (suc d) y) star

  -- the last card, with the comment behind the lines x
  last_commented : (z : Spot) (d : ℕ) (x y : List Line) → z.down < d + length x
      → last_spot z d (x ++ (c ∷ y)) ≡ lowered (d + length x) (last_spot z d (x ++ y))
  unfolding last_spot
  last_commented z d [] y h =
      let here : d + 0 ≡ d = omega arith in
      let kept : lowered d z ≡ z = lowered_above d z (omega arith) in
      rw here (last_over z d y ∙ ap (λ (s : Spot). last_spot s (suc d) y) (sym kept)
      ∙ last_lower d (omega arith) z d y (omega arith))
  last_commented z d (l ∷ x) y h =
      let long : d + suc (length x) ≡ suc d + length x = omega arith in
      rw long (last_commented (cond (starred l) z (spot d (last_column (length l)))) (suc d) x y (go (starred l)))
    where
      go : (s : Bool) → (cond s z (spot d (last_column (length l)))).down < suc d + length x
      go true = omega arith
      go false = omega arith

  -- every place
  pub spot_commented : (x y : List Line) (p : Place) → 0 < length x
      → spot_of (x ++ (c ∷ y)) p ≡ lowered (length x) (spot_of (x ++ y) p)
  spot_commented x y AtStart h = sym (lowered_above (length x) first_byte h)
  spot_commented x y (AtToken n) h =
      let same : 0 + length x ≡ length x = omega arith in
      rw same at (byte_commented 0 x y n (omega arith))
  spot_commented x y AtEnd h =
      let same : 0 + length x ≡ length x = omega arith in
      rw same at (last_commented first_byte 0 x y (omega arith))
