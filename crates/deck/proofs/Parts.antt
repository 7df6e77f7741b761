-- Laws of a line's part, of the joined text, and of the faults 11, 12 and 13.
use Prim.Native.Nat.{ℕ, suc, ◌+◌, ◌-◌, ◌*◌, ◌≤◌, ◌<◌}
use mathlib.Core.Path.{◌≡◌, refl, sym, ap, ◌∙◌}
use mathlib.Core.Bool.{Bool, true, false, cond, ◌&&◌, ◌||◌}
use mathlib.Core.Logic.{⊎_elim}
use mathlib.Core.List.{List, [], ◌∷◌, ◌++◌, append-nil}
use native.Mathlib.Omega.{arith}
use lib.Dec.{eqb, leb, ltb}
use lib.Pointwise.{pointwise}
use Rattle.std.specs.Prelude.{Option, Some, None, MatchOption, unwrap_or}
use Rattle.std.specs.Borrow.{Bor}
use lib.ListN.{length, get_or, take, drop, drop_of_length-le, length-append}
use lib.Seq.{drop-cons, length-take-le, take-length}
use Rattle.std.proofs.lemmas.List.{get_or-take, take-take}
use borrow.Author.Tests.{le-leb, leb-true, ltb-false}
use Rattle.limits.specs.Limits.{most_cards, card_bytes}
use Rattle.laws.proofs.Tests.{cond_ind, and_true, not_both, lt_or_ge}
use Rattle.deck.specs.Lines.{Line, trimmed, dots_at, dotted}
use Rattle.deck.specs.Joined.{line_part, joined}
use Rattle.deck.specs.declared.Place.TheVariants.{AtStart}
use Rattle.deck.specs.Faults.{none, flaw, any_long, size_flaw}
use Rattle.deck.specs.Codes.{size_code, flaw_of, spaced, joined_room}
use Rattle.deck.proofs.Cutting.{trimmed_le}

-- a line's part is no longer than the line
pub part_le : (l : Line) → length (line_part l) ≤ length l
unfolding line_part
part_le l =
    let h : trimmed l - 3 ≤ length l = omega (arith, trimmed_le l) in
    cond_ind (λ (p : List ℕ). length p ≤ length l) (dotted l) (take (trimmed l - 3) l) l
    (λ _. omega (arith, length-take-le (trimmed l - 3) l h)) (λ _. omega arith)

-- three points need three places
pub dots_three : (l : Line) (n : ℕ) → dots_at l n ≡ true → 3 ≤ n
dots_three l n e = leb-true 3 n (and_true _ _ e).0

module _ (l : Line) where
  -- the line's front of the part's length is the part
  pub part_take : take (length (line_part l)) l ≡ line_part l
  unfolding line_part
  part_take =
      cond_ind (λ (p : List ℕ). take (length p) l ≡ p) (dotted l) (take (trimmed l - 3) l) l
      (λ _. ap (λ (k : ℕ). take k l) (length-take-le (trimmed l - 3) l (omega (arith, trimmed_le l))))
      (λ _. take-length l)

  -- with dots it ends in front of them
  pub part_dotted : dotted l ≡ true → length (line_part l) ≡ trimmed l - 3
  unfolding line_part
  part_dotted d = rw d (length-take-le (trimmed l - 3) l (omega (arith, trimmed_le l)))

-- ---- the closing dots

-- three points at a list's end stand before the place behind it
dots_end : (k : List ℕ) → pointwise eqb (drop (length k - 3) k) (46 ∷ 46 ∷ 46 ∷ []) ≡ dots_at k (length k)
dots_end k = ⊎_elim (few k) many (lt_or_ge (length k) 3)
  where
    never : (b : Bool) → (b && false) ≡ false
    never true = refl
    never false = refl

    few : (k : List ℕ) → length k < 3
        → pointwise eqb (drop (length k - 3) k) (46 ∷ 46 ∷ 46 ∷ []) ≡ dots_at k (length k)
    few [] h = refl
    few (a ∷ []) h = never (eqb a 46)
    few (a ∷ b ∷ []) h = rw (never (eqb b 46)) (never (eqb a 46))
    few (a ∷ b ∷ c ∷ k) h = absurd (omega arith)

    turned : (x y z : Bool) → (x && (y && (z && true))) ≡ (z && (y && x))
    turned true true true = refl
    turned true true false = refl
    turned true false true = refl
    turned true false false = refl
    turned false true true = refl
    turned false true false = refl
    turned false false true = refl
    turned false false false = refl

    many : 3 ≤ length k → pointwise eqb (drop (length k - 3) k) (46 ∷ 46 ∷ 46 ∷ []) ≡ dots_at k (length k)
    many h =
        let n = length k in
        let a : suc (n - 3) ≡ n - 2 = omega arith in
        let b : suc (n - 2) ≡ n - 1 = omega arith in
        let c : suc (n - 1) ≡ n = omega arith in
        let from : (i j : ℕ) → suc i ≡ j → i < n → drop i k ≡ get_or k i 0 ∷ drop j k =
        λ i j e m. rw (← e) (drop-cons k i 0 m) in
        let last : drop (n - 3) k
        ≡ get_or k (n - 3) 0 ∷ get_or k (n - 2) 0 ∷ get_or k (n - 1) 0 ∷ [] =
        from (n - 3) (n - 2) a (omega arith)
        ∙ ap (λ (r : List ℕ). get_or k (n - 3) 0 ∷ r) (from (n - 2) (n - 1) b (omega arith)
        ∙ ap (λ (r : List ℕ). get_or k (n - 2) 0 ∷ r) (from (n - 1) n c (omega arith)
        ∙ ap (λ (r : List ℕ). get_or k (n - 1) 0 ∷ r) (drop_of_length-le k (omega arith)))) in
        ap (λ (r : List ℕ). pointwise eqb r (46 ∷ 46 ∷ 46 ∷ [])) last ∙ rw (le-leb 3 n h)
        (turned (eqb (get_or k (n - 3) 0) 46) (eqb (get_or k (n - 2) 0) 46) (eqb (get_or k (n - 1) 0) 46))

-- they stand at the same places of a list that begins alike
dots_within : (l : List ℕ) (n : ℕ) → dots_at (take n l) n ≡ dots_at l n
dots_within l n = go (leb 3 n) refl
  where
    go : (b : Bool) → leb 3 n ≡ b
        → (b && (eqb (get_or (take n l) (n - 1) 0) 46
        && (eqb (get_or (take n l) (n - 2) 0) 46 && eqb (get_or (take n l) (n - 3) 0) 46)))
        ≡ (b && (eqb (get_or l (n - 1) 0) 46 && (eqb (get_or l (n - 2) 0) 46 && eqb (get_or l (n - 3) 0) 46)))
    go true e =
        let h = leb-true 3 n e in
        rw (
          get_or-take n l (n - 1) 0 (omega arith),
          get_or-take n l (n - 2) 0 (omega arith),
          get_or-take n l (n - 3) 0 (omega arith),
        )
    go false e = refl

-- so a line ends in them where its front without trailing spaces does
pub dots_front : (l : Line)
    → pointwise eqb (drop (length (take (trimmed l) l) - 3) (take (trimmed l) l)) (46 ∷ 46 ∷ 46 ∷ []) ≡ dotted l
unfolding dotted
dots_front l =
    let h : trimmed l ≤ length l = trimmed_le l in
    dots_end (take (trimmed l) l)
    ∙ ap (λ (n : ℕ). dots_at (take (trimmed l) l) n) (length-take-le (trimmed l) l h)
    ∙ dots_within l (trimmed l)

-- the front before them
pub front_dots : (l : Line) (r : Option (Bor Line))
    → MatchOption r (dotted l ≡ false)
    (λ x. (dotted l ≡ true) × (x.now ≡ take (length (take (trimmed l) l) - 3) (take (trimmed l) l))
    × (length x.now + 3 ≡ length (take (trimmed l) l)))
    → MatchOption r (dotted l ≡ false) (λ x. (dotted l ≡ true) × (x.now ≡ take (trimmed l - 3) l))
front_dots l None h = h
front_dots l (Some x) h =
    let n = length-take-le (trimmed l) l (trimmed_le l) in
    let less : trimmed l - 3 ≤ trimmed l = omega arith in
    (h.0, h.1 ∙ rw n (take-take (trimmed l - 3) (trimmed l) l less))

-- in front of the dots, or all
pub part_undotted : (l : Bor Line) (r : Option (Bor Line))
    → MatchOption r (dotted l.now ≡ false)
    (λ front. (dotted l.now ≡ true) × (front.now ≡ take (trimmed l.now - 3) l.now))
    → (unwrap_or r l).now ≡ line_part l.now
unfolding line_part
part_undotted l None h = rw h
part_undotted l (Some front) h = rw h.0 h.1

-- ---- the joined text

-- it is its first part, and the others each behind a space
pub joined_cons : (l : Line) (ls : List Line) → joined (l ∷ ls) ≡ line_part l ++ spaced ls
unfolding joined spaced
joined_cons l [] = sym (append-nil (line_part l))
joined_cons l (m ∷ ls) = ap (λ (x : List ℕ). line_part l ++ (32 ∷ x)) (joined_cons m ls)

-- no line is long: the first is not, and none of the others is
any_first : (l : Line) (ls : List Line) → any_long (l ∷ ls) ≡ false → (length l ≤ card_bytes) × (any_long ls ≡ false)
unfolding any_long
any_first l ls e = go (ltb card_bytes (length l)) refl e
  where
    go : (b : Bool) → ltb card_bytes (length l) ≡ b → (b || any_long ls) ≡ false
        → (length l ≤ card_bytes) × (any_long ls ≡ false)
    go true q f = absurd (not_both refl f)
    go false q f = (ltb-false card_bytes (length l) q, f)

-- the further parts, by their count
spaced_short : (ls : List Line) → any_long ls ≡ false → length (spaced ls) ≤ length ls * suc card_bytes
unfolding spaced
spaced_short [] e = omega arith
spaced_short (l ∷ ls) e =
    let f = any_first l ls e in
    simp length-append (omega (arith, part_le l, f.0, spaced_short ls f.1))

-- few lines, and none is long
joined_few : (ls : List Line) → length ls ≤ most_cards → any_long ls ≡ false → length (joined ls) ≤ joined_room
unfolding joined
joined_few [] h e = omega arith
joined_few (l ∷ ls) h e =
    let f = any_first l ls e in
    rw (joined_cons l ls) (simp length-append (omega (arith, part_le l, f.0, spaced_short ls f.1)))

-- where no fault 11, 12 or 13 stands the joined text is short
pub joined_short : (cards : List Line) (closed : Bool) → size_flaw cards closed ≡ none
    → length (joined cards) ≤ joined_room
unfolding size_flaw
joined_short cards false e = let z : ◌≡◌ {A = ℕ} 0 1 = cc in absurd (omega arith)
joined_short cards true e = go (ltb most_cards (length cards)) (any_long cards) refl refl e
  where
    go : (many long : Bool) → ltb most_cards (length cards) ≡ many → any_long cards ≡ long
        → cond many (flaw 12 AtStart) (cond long (flaw 13 AtStart) none) ≡ none → length (joined cards) ≤ joined_room
    go true long m n f = let z : ◌≡◌ {A = ℕ} 0 1 = cc in absurd (omega arith)
    go false true m n f = let z : ◌≡◌ {A = ℕ} 0 1 = cc in absurd (omega arith)
    go false false m n f = joined_few cards (ltb-false most_cards (length cards) m) n

-- ---- the fault for size is that of the code
pub size_flaw_holds : (cards : List Line) (closed : Bool)
    → size_flaw cards closed ≡ flaw_of closed (size_code (length cards) closed (any_long cards))
unfolding size_flaw
size_flaw_holds cards false = refl
size_flaw_holds cards true = go (ltb most_cards (length cards)) (any_long cards)
  where
    go : (many long : Bool)
        → cond many (flaw 12 AtStart) (cond long (flaw 13 AtStart) none) ≡ flaw_of true (cond many 12 (cond long 13 0))
    go true long = refl
    go false true = refl
    go false false = refl
