-- The lines of a text's statements are among its own, and the spots of a statement among its lines.
use Prim.Native.Nat.{ℕ, suc, ◌+◌, ◌-◌, ◌<◌, ◌≤◌}
use mathlib.Core.Path.{◌≡◌, refl, sym, ap, subst, ◌∙◌}
use mathlib.Core.Bool.{Bool, true, false, cond}
use mathlib.Core.List.{List, [], ◌∷◌, ◌++◌, append-nil}
use native.Mathlib.Omega.{arith}
use lib.Dec.{eqb, ltb}
use lib.ListN.{length, length-append}
use borrow.Author.Tests.{ltb-true}
use Rattle.laws.specs.Every.{Every}
use Rattle.laws.proofs.Every.{every_left}
use Rattle.laws.proofs.Tests.{cond_ind}
use Rattle.deck.specs.Lines.{Line, lines_of, starred, passed}
use Rattle.deck.specs.Reading.{Statement, State, fresh, inside, leaves_open, goes_on, just_closed, after, ended}
use Rattle.deck.specs.Reading.{left, reading, closed_in, state_after}
use Rattle.deck.specs.Joined.{line_part}
use Rattle.deck.specs.Next.{spread}
use Rattle.deck.specs.Spots.{spot, first_byte, byte_spot, last_column, last_spot, spot_of}
use Rattle.deck.specs.declared.Place.{Place}
use Rattle.deck.specs.declared.Place.TheVariants.{AtStart, AtToken, AtEnd}
use Rattle.deck.specs.declared.Spot.{Spot}
use Rattle.deck.proofs.Cutting.{spread_snoc, lines_spread}
use Rattle.deck.proofs.Local.{reading_append}
use Rattle.deck.proofs.Parts.{part_le}

-- ---- a statement: it has lines, these end before line b, and they have at most w bytes, a byte 10 behind each
module _ (b w : ℕ) where
  abbrev pub Covered : Statement → Type 0
  Covered s = (s.first + length s.lines ≤ b) × (0 < length s.lines) × (spread s.lines ≤ w)

  -- one that is open covers the lines up to line n, and with v bytes more it has at most w
  abbrev OpenCovered : State → ℕ → ℕ → Type 0
  OpenCovered fresh n v = v ≤ w
  OpenCovered (inside f ls) n v = (f + length ls ≡ n) × (0 < length ls) × (spread ls + v ≤ w)

  -- a line more
  line_covered : (f n v : ℕ) (ls : List Line) (l : Line) → f + length ls ≡ n → spread ls + (length l + 1 + v) ≤ w
      → (f + length (ls ++ (l ∷ [])) ≡ suc n) × (0 < length (ls ++ (l ∷ []))) × (spread (ls ++ (l ∷ [])) + v ≤ w)
  line_covered f n v ls l h k =
      let long = length-append ls (l ∷ []) in
      (omega (arith, long), omega (arith, long), omega (arith, spread_snoc ls l))

  -- all of a reading
  reading_covered : (s : State) (n : ℕ) (ls : List Line) → n + length ls ≤ b → OpenCovered s n (spread ls)
      → Every Covered (reading s n ls)
  unfolding reading left after ended spread
  reading_covered fresh n [] h o = tt
  reading_covered (inside f cs) n [] h o = ((omega (arith, o.0), o.1, omega (arith, o.2)), tt)
  reading_covered fresh n (l ∷ ls) h o =
      go (passed l) (leaves_open l) (λ s o. reading_covered s (suc n) ls (omega arith) o)
    where
      go : (p d : Bool) → ((s : State) → OpenCovered s (suc n) (spread ls) → Every Covered (reading s (suc n) ls))
          → Every Covered
          (cond p [] (just_closed d n (l ∷ [])) ++ reading (cond p fresh (goes_on d n (l ∷ []))) (suc n) ls)
      go true d ih = ih fresh (omega arith)
      go false true ih = ih (inside n (l ∷ [])) (omega arith, omega arith, omega arith)
      go false false ih = ((omega arith, omega arith, omega arith), ih fresh (omega arith))
  reading_covered (inside f cs) n (l ∷ ls) h o =
      go (leaves_open l) (λ s o. reading_covered s (suc n) ls (omega arith) o)
    where
      more : (f + length (cs ++ (l ∷ [])) ≡ suc n) × (0 < length (cs ++ (l ∷ [])))
          × (spread (cs ++ (l ∷ [])) + spread ls ≤ w)
      more = line_covered f n (spread ls) cs l o.0 (omega (arith, o.2))

      go : (d : Bool) → ((s : State) → OpenCovered s (suc n) (spread ls) → Every Covered (reading s (suc n) ls))
          → Every Covered (just_closed d f (cs ++ (l ∷ [])) ++ reading (goes_on d f (cs ++ (l ∷ []))) (suc n) ls)
      go true ih = ih (inside f (cs ++ (l ∷ []))) more
      go false ih =
          ((omega (arith, more.0), more.1, omega (arith, more.2)), ih fresh (omega (arith, more.2)))

-- of a text
pub text_covered : (t : List ℕ)
    → Every (Covered (1 + length (lines_of t)) (length t + 1)) (reading fresh 1 (lines_of t))
text_covered t =
    reading_covered (1 + length (lines_of t)) (length t + 1) fresh 1 (lines_of t) (omega arith) (lines_spread t)

-- of the statements that lines close
pub closed_covered : (pre : List Line) → Every (Covered (1 + length pre) (spread pre)) (closed_in fresh 1 pre)
closed_covered pre =
    let still = reading (state_after fresh 1 pre) (1 + length pre) [] in
    let parts : reading fresh 1 pre ≡ closed_in fresh 1 pre ++ still =
    ap (reading fresh 1) (sym (append-nil pre)) ∙ reading_append fresh 1 pre [] in
    let all = reading_covered (1 + length pre) (spread pre) fresh 1 pre (omega arith) (omega arith) in
    every_left _ (closed_in fresh 1 pre) still (subst (Every (Covered (1 + length pre) (spread pre))) parts all)

-- ---- a spot stands among the lines

-- a byte of the joined text
byte_within : (d : ℕ) (ls : List Line) (n : ℕ) → 0 < d + length ls → (byte_spot d ls n).down < d + length ls
unfolding byte_spot
byte_within d [] n h = omega arith
byte_within d (l ∷ ls) n h =
    go (starred l) (ltb n (length (line_part l))) (λ m. byte_within (suc d) ls m (omega arith))
  where
    go : (s b : Bool) → ((m : ℕ) → (byte_spot (suc d) ls m).down < suc d + length ls)
        → (cond s (byte_spot (suc d) ls n)
        (cond b (spot d (suc n)) (byte_spot (suc d) ls (n - suc (length (line_part l)))))
        ).down < d + suc (length ls)
    go true b ih = omega (arith, ih n)
    go false true ih = omega arith
    go false false ih = omega (arith, ih (n - suc (length (line_part l))))

-- the last card
last_within : (z : Spot) (d : ℕ) (ls : List Line) → z.down < d + length ls → (last_spot z d ls).down < d + length ls
unfolding last_spot
last_within z d [] h = h
last_within z d (l ∷ ls) h =
    let next = cond (starred l) z (spot d (last_column (length l))) in
    let long : d + suc (length ls) ≡ suc d + length ls = omega arith in
    rw long (last_within next (suc d) ls (go (starred l)))
  where
    go : (s : Bool) → (cond s z (spot d (last_column (length l)))).down < suc d + length ls
    go true = omega arith
    go false = omega arith

-- every place
pub spot_within : (ls : List Line) (p : Place) → 0 < length ls → (spot_of ls p).down < length ls
spot_within ls AtStart h = h
spot_within ls (AtToken n) h = let w = byte_within 0 ls n (omega arith) in omega arith
spot_within ls AtEnd h = let w = last_within first_byte 0 ls (omega arith) in omega arith

-- also of no lines
pub spot_few : (ls : List Line) (p : Place) → (spot_of ls p).down ≤ length ls
unfolding byte_spot last_spot
spot_few [] AtStart = omega arith
spot_few [] (AtToken n) = omega arith
spot_few [] AtEnd = omega arith
spot_few (l ∷ ls) p = let w = spot_within (l ∷ ls) p (omega arith) in omega arith

-- ---- its column is no larger than they are long
byte_column : (d : ℕ) (ls : List Line) (n : ℕ) → (byte_spot d ls n).column ≤ spread ls + 1
unfolding byte_spot spread
byte_column d [] n = omega arith
byte_column d (l ∷ ls) n =
    go (starred l) (ltb n (length (line_part l))) (λ e. ltb-true n (length (line_part l)) e)
    (λ m. byte_column (suc d) ls m)
  where
    go : (s b : Bool) → (b ≡ true → n < length (line_part l))
        → ((m : ℕ) → (byte_spot (suc d) ls m).column ≤ spread ls + 1)
        → (cond s (byte_spot (suc d) ls n)
        (cond b (spot d (suc n)) (byte_spot (suc d) ls (n - suc (length (line_part l)))))
        ).column ≤ length l + 1 + spread ls + 1
    go true b h ih = omega (arith, ih n)
    go false true h ih = omega (arith, h refl, part_le l)
    go false false h ih = omega (arith, ih (n - suc (length (line_part l))))

-- of the last card
last_column_holds : (m : ℕ) (z : Spot) (d : ℕ) (ls : List Line) → z.column ≤ m → spread ls + 1 ≤ m
    → (last_spot z d ls).column ≤ m
unfolding last_spot spread
last_column_holds m z d [] h k = h
last_column_holds m z d (l ∷ ls) h k =
    last_column_holds m (cond (starred l) z (spot d (last_column (length l)))) (suc d) ls (go (starred l)) (omega arith)
  where
    go : (s : Bool) → (cond s z (spot d (last_column (length l)))).column ≤ m
    go true = h
    go false = cond_ind (λ (c : ℕ). c ≤ m) (eqb (length l) 0) 1 (length l) (λ _. omega arith) (λ _. omega arith)

-- of every place
pub spot_column : (ls : List Line) (p : Place) → (spot_of ls p).column ≤ spread ls + 1
spot_column ls AtStart = omega arith
spot_column ls (AtToken n) = byte_column 0 ls n
spot_column ls AtEnd = last_column_holds (spread ls + 1) first_byte 0 ls (omega arith) (omega arith)
