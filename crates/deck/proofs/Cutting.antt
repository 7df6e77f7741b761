-- Laws of lines over the bytes of a text.
use Prim.Native.Nat.{ℕ, zero, suc, ◌+◌, ◌-◌, ◌≤◌, ◌<◌, zero-le, suc-le-suc}
use mathlib.Core.Path.{◌≡◌, refl, sym, ap, subst, ◌∙◌}
use mathlib.Core.Bool.{Bool, true, false, cond}
use mathlib.Core.List.{List, [], ◌∷◌, ◌++◌}
use mathlib.Core.Logic.{⊎_elim}
use native.Mathlib.Numerals.{one-add}
use native.Mathlib.Nat.{add-zero, not-suc-le-zero}
use native.Mathlib.Omega.{arith}
use lib.ListN.{length, get_or, take, drop, drop_of_length-le, length-drop, length-take, length-append}
use lib.Seq.{drop-drop, take-suc, length-take-le, take-length, take-append-le}
use lib.Dec.{eqb, ltb}
use Rattle.std.specs.Prelude.{Option, Some, None, MatchOption, position}
use Rattle.std.specs.List.{position_or_len}
use Rattle.std.proofs.lemmas.List.Recursion.{is_position_or_len}
use borrow.Author.Tests.{ne_eqb, ltb-false}
use Rattle.laws.specs.Every.{Every}
use Rattle.laws.proofs.Tests.{lt_or_ge, cond_ind}
use Rattle.deck.specs.Lines.{Line, cut, lines_of, kept, trimmed, starred}
use Rattle.deck.specs.Next.{width, spread}
use Rattle.deck.specs.Ahead.{LineAt}

-- ---- the bytes before the first byte 10

-- that many stand before the place of the first, or all where there is none
width_position : (t : List ℕ) → width t ≡ position_or_len (λ (b : ℕ). eqb b 10) t
unfolding width
width_position t = is_position_or_len width (λ (b : ℕ). eqb b 10) refl (λ b t. rw one-add refl) t

-- they are no more than all
pub width_le : (t : List ℕ) → width t ≤ length t
unfolding width
width_le [] = zero-le
width_le (b ∷ t) = go (eqb b 10) (width_le t)
  where
    go : (f : Bool) → width t ≤ length t → cond f 0 (suc (width t)) ≤ suc (length t)
    go true h = zero-le
    go false h = suc-le-suc h

-- as a search finds it
pub width_found : (t : List ℕ) (r : Option ℕ) → r ≡ position (λ (b : ℕ). eqb b 10) t
    → MatchOption r (width t ≡ length t) (λ i. width t ≡ i)
width_found t r e = subst (λ r. MatchOption r (width t ≡ length t) (λ i. width t ≡ i)) (sym e) (go _ refl)
  where
    go : (n : ℕ) → position_or_len (λ (b : ℕ). eqb b 10) t ≡ n
        → MatchOption (cond (ltb n (length t)) (Some n) None) (width t ≡ length t) (λ i. width t ≡ i)
    go n q =
        cond_ind (λ r. MatchOption r (width t ≡ length t) (λ i. width t ≡ i)) (ltb n (length t)) (Some n) None
        (λ _. width_position t ∙ q)
        (λ h. let few = ltb-false n (length t) h in omega (arith, width_position t, q, width_le t))

-- what is left of a text from a place to its end
pub rest_whole : (t : List ℕ) (i : ℕ) → take (length t - i) (drop i t) ≡ drop i t
rest_whole t i = rw (← (length-drop i t)) (take-length (drop i t))

-- ---- the length of a line, trailing spaces aside

-- a last byte that is a space is set aside
trimmed_space : (l : Line) → trimmed (l ++ (32 ∷ [])) ≡ trimmed l
unfolding trimmed
trimmed_space [] = refl
trimmed_space (b ∷ l) = ap (kept (eqb b 32)) (trimmed_space l)

-- what stands before a kept byte is kept
kept_suc : (t : Bool) (n : ℕ) → kept t (suc n) ≡ suc (suc n)
kept_suc true n = refl
kept_suc false n = refl

-- a last byte that is another is kept
trimmed_other : (l : Line) (b : ℕ) → (b ≡ 32 → ⊥) → trimmed (l ++ (b ∷ [])) ≡ suc (length l)
unfolding trimmed
trimmed_other [] b e = rw (ne_eqb _ _ e)
trimmed_other (a ∷ l) b e = rw (trimmed_other l b e) (kept_suc (eqb a 32) (length l))

-- trailing spaces aside a line is no longer
kept_le : (f : Bool) (n m : ℕ) → n ≤ m → kept f n ≤ suc m
kept_le true zero m h = zero-le
kept_le true (suc n) m h = suc-le-suc h
kept_le false n m h = suc-le-suc h

pub trimmed_le : (l : Line) → trimmed l ≤ length l
unfolding trimmed
trimmed_le [] = zero-le
trimmed_le (b ∷ l) = kept_le (eqb b 32) (trimmed l) (length l) (trimmed_le l)

-- of nothing nothing is set aside
pub front_none : (l : Line) → length l < 1 → l ≡ take (trimmed l) l
unfolding trimmed
front_none [] h = refl
front_none (b ∷ l) h = absurd (omega arith)

-- ---- a line that has a last byte
module _ (l : Line) (some : 0 < length l) where
  -- it is that byte behind the others
  last : l ≡ take (length l - 1) l ++ (get_or l (length l - 1) 0 ∷ [])
  last =
      let n : suc (length l - 1) ≡ length l = omega arith in
      sym (take-length l) ∙ ap (λ (k : ℕ). take k l) (sym n) ∙ take-suc l (length l - 1) 0 (omega arith)

  -- a space there is set aside
  pub front_space : get_or l (length l - 1) 0 ≡ 32
      → take (trimmed (take (length l - 1) l)) (take (length l - 1) l) ≡ take (trimmed l) l
  front_space e =
      let front = take (length l - 1) l in
      let h : trimmed front ≤ length front = trimmed_le front in
      sym
      (ap (λ (k : Line). take (trimmed k) k) (last ∙ ap (λ (b : ℕ). front ++ (b ∷ [])) e)
      ∙ ap (λ (n : ℕ). take n (front ++ (32 ∷ []))) (trimmed_space front)
      ∙ take-append-le (trimmed front) front (32 ∷ []) h)

  -- another byte there is kept
  pub front_other : (get_or l (length l - 1) 0 ≡ 32 → ⊥) → l ≡ take (trimmed l) l
  front_other e =
      let n : trimmed l ≡ length l =
      ap trimmed last ∙ trimmed_other (take (length l - 1) l) _ e
      ∙ omega (arith, length-take-le (length l - 1) l (omega arith)) in
      sym (ap (λ (k : ℕ). take k l) n ∙ take-length l)

-- ---- an empty line is no comment
pub starred_none : (l : Line) → length l ≡ 0 → false ≡ starred l
starred_none [] h = refl
starred_none (b ∷ l) h = absurd (omega arith)

-- ---- lines from a place on

-- the first line of a text ends at the first byte 10, and the others stand behind that
lines_cons : (t : List ℕ) → 0 < length t → lines_of t ≡ take (width t) t ∷ lines_of (drop (suc (width t)) t)
unfolding lines_of width
lines_cons [] h = absurd (not-suc-le-zero h)
lines_cons (b ∷ []) h = go (eqb b 10)
  where
    go : (f : Bool) → cut f b [] ≡ take (cond f 0 1) (b ∷ []) ∷ lines_of (drop (suc (cond f 0 1)) (b ∷ []))
    go true = refl
    go false = refl
lines_cons (b ∷ c ∷ t) h = go (eqb b 10) (lines_cons (c ∷ t) (omega arith))
  where
    n : ℕ
    n = width (c ∷ t)

    go : (f : Bool) → lines_of (c ∷ t) ≡ take n (c ∷ t) ∷ lines_of (drop (suc n) (c ∷ t))
        → cut f b (lines_of (c ∷ t)) ≡ take (cond f 0 (suc n)) (b ∷ c ∷ t) ∷ lines_of
        (drop (suc (cond f 0 (suc n))) (b ∷ c ∷ t))
    go true e = refl
    go false e = ap (cut false b) e

-- the bytes from a place to the end of its line
pub line_at : (t : List ℕ) (at e : ℕ) → at < length t → e ≡ at + width (drop at t)
    → LineAt t at (take (e - at) (drop at t)) × (e ≡ at + length (take (e - at) (drop at t)))
line_at t at e h q =
    let w = width (drop at t) in
    let l : length (drop at t) ≡ length t - at = length-drop at t in
    let wl : w ≤ length (drop at t) = width_le (drop at t) in
    let d : e - at ≡ w = omega arith in
    let n : length (take (e - at) (drop at t)) ≡ e - at = simp length-take (omega arith) in
    let m : at + length (take (e - at) (drop at t)) + 1 ≡ at + suc w = omega arith in (
      record {
        some = h;
        upto = omega arith;
        lines = rw (m, d, ← (drop-drop (suc w) at t)) (lines_cons (drop at t) (omega arith));
      },
      omega arith,
    )

-- behind the end there are no lines
pub lines_end : (t : List ℕ) (at : ℕ) → length t ≤ at → lines_of (drop at t) ≡ []
unfolding lines_of
lines_end t at h = rw (drop_of_length-le t h)

module _ (t : List ℕ) (at : ℕ) (l : Line) (ls : List Line) (q : lines_of (drop at t) ≡ l ∷ ls) where
  -- where a line is there are bytes
  pub lines_some : at < length t
  lines_some = ⊎_elim (λ h. h) (λ h. let z : ◌≡◌ {A = ℕ} 0 1 = cc (q, lines_end t at h) in absurd (omega arith))
      (lt_or_ge at (length t))

  -- the lines behind a line are those from its end on
  pub lines_tail : lines_of (drop (at + length l + 1) t) ≡ ls
  lines_tail =
      let a = (line_at t at (at + width (drop at t)) lines_some refl).0 in
      let here = take (at + width (drop at t) - at) (drop at t) in
      let e : here ≡ l = cc (q, a.lines) in
      let others : lines_of (drop (at + length here + 1) t) ≡ ls = cc (q, a.lines) in
      rw e at others

-- where lines are there are bytes
pub lines_bytes : (t : List ℕ) (at : ℕ) → 0 < length (lines_of (drop at t)) → at < length t
lines_bytes t at h =
    ⊎_elim (λ b. b) (λ b. let z = ap length (lines_end t at b) in absurd (omega arith)) (lt_or_ge at (length t))

-- the first line of the lines from a place on stands there
pub line_stands : (t : List ℕ) (s : ℕ) (l : Line) (ls : List Line) → lines_of (drop s t) ≡ l ∷ ls
    → (take (length l) (drop s t) ≡ l) × (s + length l ≤ length t)
line_stands t s l ls q =
    let e = s + width (drop s t) in
    let a = line_at t s e (lines_some t s l ls q) refl in
    let h : l ≡ take (e - s) (drop s t) = cc (sym q ∙ a.0.lines) in
    let n : length l ≡ e - s = ap length h ∙ omega (arith, a.1) in
    (ap (λ (m : ℕ). take m (drop s t)) n ∙ sym h, omega (arith, a.0.upto, ap length h))

-- ---- the bytes of lines, a byte 10 behind each

pub spread_append : (x y : List Line) → spread (x ++ y) ≡ spread x + spread y
unfolding spread
spread_append [] y = omega arith
spread_append (l ∷ x) y = omega (arith, spread_append x y)

-- one line more
pub spread_snoc : (x : List Line) (l : Line) → spread (x ++ (l ∷ [])) ≡ spread x + length l + 1
unfolding spread
spread_snoc x l = omega (arith, spread_append x (l ∷ []))

-- no fewer than the lines
pub spread_many : (ls : List Line) → length ls ≤ spread ls
unfolding spread
spread_many [] = omega arith
spread_many (l ∷ ls) = omega (arith, spread_many ls)

-- the first n lines have no more than all
pub spread_take : (n : ℕ) (ls : List Line) → spread (take n ls) ≤ spread ls
unfolding spread
spread_take zero ls = omega arith
spread_take (suc n) [] = omega arith
spread_take (suc n) (l ∷ ls) = omega (arith, spread_take n ls)

-- a text's lines have at most one byte more than the text
pub lines_spread : (t : List ℕ) → spread (lines_of t) ≤ length t + 1
unfolding spread lines_of
lines_spread [] = omega arith
lines_spread (b ∷ t) = go (eqb b 10) (lines_of t) (lines_spread t)
  where
    go : (e : Bool) (ls : List Line) → spread ls ≤ length t + 1 → spread (cut e b ls) ≤ suc (length t) + 1
    go true ls h = omega arith
    go false [] h = omega arith
    go false (l ∷ ls) h = omega arith

-- behind some of the lines from a place on stand the others
pub lines_behind : (t : List ℕ) (at : ℕ) (front rest : List Line) → lines_of (drop at t) ≡ front ++ rest
    → lines_of (drop (at + spread front) t) ≡ rest
unfolding spread
lines_behind t at [] rest q = rw add-zero q
lines_behind t at (l ∷ front) rest q =
    let n : at + length l + 1 + spread front ≡ at + (length l + 1 + spread front) = omega arith in
    rw (← n) (lines_behind t (at + length l + 1) front rest (lines_tail t at l (front ++ rest) q))

-- ---- lines of two parts

-- lines behind a first line stay behind it
cut_append : (f : Bool) (b : ℕ) (l : Line) (ls ms : List Line) → cut f b ((l ∷ ls) ++ ms) ≡ cut f b (l ∷ ls) ++ ms
cut_append true b l ls ms = refl
cut_append false b l ls ms = refl

-- behind a byte 10 the lines begin anew
pub lines_append : (x y : List ℕ) → lines_of (x ++ (10 ∷ y)) ≡ lines_of (x ++ (10 ∷ [])) ++ lines_of y
unfolding lines_of
lines_append [] y = refl
lines_append (b ∷ x) y =
    let e = lines_cons (x ++ (10 ∷ [])) (simp length-append (omega arith)) in
    ap (cut (eqb b 10) b) (lines_append x y ∙ ap (λ (ls : List Line). ls ++ lines_of y) e)
    ∙ cut_append (eqb b 10) b _ _ (lines_of y)
    ∙ ap (λ (ls : List Line). cut (eqb b 10) b ls ++ lines_of y) (sym e)

-- where the last line lacks its byte 10, the lines are the same with it
pub lines_lacking : (x : List ℕ) (b : ℕ) → (b ≡ 10 → ⊥)
    → lines_of ((x ++ (b ∷ [])) ++ (10 ∷ [])) ≡ lines_of (x ++ (b ∷ []))
unfolding lines_of
lines_lacking [] b e = rw (ne_eqb _ _ e)
lines_lacking (a ∷ x) b e = ap (cut (eqb a 10) a) (lines_lacking x b e)

-- bytes without a byte 10, and one behind them, are one line
pub lines_whole : (l : Line) → Every (λ (x : ℕ). x ≡ 10 → ⊥) l → lines_of (l ++ (10 ∷ [])) ≡ l ∷ []
unfolding lines_of
lines_whole [] h = refl
lines_whole (b ∷ l) h = rw (ne_eqb b 10 h.0, lines_whole l h.1)
