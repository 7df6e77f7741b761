-- A token is cut by the bytes from its place on, up to the next space: what stands before it, or behind the space, does
-- not matter. So it is cut alike from a joined text and from the card that it stands on.
use Prim.Native.Nat.{ℕ, ◌+◌, ◌≤◌, ◌<◌}
use mathlib.Core.Path.{◌≡◌, refl, sym, ap, subst, ◌∙◌}
use mathlib.Core.Bool.{Bool, true, false, cond, ◌||◌, ◌&&◌}
use mathlib.Core.List.{List, [], ◌∷◌, ◌++◌}
use mathlib.Core.Logic.{⊎_elim}
use native.Mathlib.Omega.{arith}
use native.Mathlib.Nat.{add-zero}
use borrow.Author.Tests.{lt-leb}
use lib.Dec.{eqb, leb, ltb}
use lib.ListN.{length, get_or, take, drop, length-drop, length-append}
use lib.Seq.{drop-drop, drop-append-le, get_or-drop}
use Rattle.laws.specs.Runs.{front_run, EndOrSpace}
use Rattle.laws.proofs.Tests.{bool_cases, not_both}
use Rattle.laws.proofs.Runs.{run_end, run_short, run_take, run_apart, head_apart, inside}
use Rattle.limits.specs.Limits.{name_bytes, exponent_digits}
use Rattle.faults.specs.declared.Fault.TheVariants.{StrayByte, LongName, Malformed, OutOfRange}
use Rattle.tokens.specs.declared.Token.TheVariants.{Name, Mark, Number, Bad}
use Rattle.tokens.specs.declared.Cut.{Cut}
use Rattle.tokens.specs.Bytes.{is_space, is_letter, is_digit, is_point, is_word, is_mark, digits_at, word_at}
use Rattle.tokens.specs.Number.{Digits, plain_digits, point_digits, digits_from, decimal, number_with}
use Rattle.tokens.specs.Number.{Exponent, exponent, wrong, sign_end, exponent_of, exponent_from, in_range}
use Rattle.tokens.specs.Number.{scaled, ranged_number}
use Rattle.tokens.specs.Token.{cut_of, bad_at, number_end, number_cut, name_at, token_at, cut_at}
use Rattle.tokens.specs.Symbol.{symbol_named}
use Rattle.tokens.specs.Seen.{token, seen_of, seen_at}

-- the first of a list is that of its front
front_head : (x r : List ℕ) → 0 < length x → get_or (x ++ r) 0 0 ≡ get_or x 0 0
front_head [] r h = absurd (omega arith)
front_head (b ∷ x) r h = refl

-- a token by its first byte
abbrev by_first : List ℕ → ℕ → ℕ → Cut
by_first s i b =
    cond (is_letter b) (name_at s i)
    (cond (is_digit b || is_point b) (number_cut s i)
    (cond (is_mark b) (cut_of (Mark b) i (i + 1)) (bad_at StrayByte i)))

-- where that stands in the text and is no space
seen_first : (s : List ℕ) (i : ℕ) → i < length s → is_space (get_or s i 0) ≡ false
    → seen_at s i ≡ seen_of s (by_first s i (get_or s i 0)).token
unfolding cut_at token_at
seen_first s i h solid = rw (run_end is_space s i solid, lt-leb (length s) i h)

-- from place i of s the bytes are u, and then a space or nothing; from place j of t they are u, and nothing more
module _ (s t : List ℕ) (i j : ℕ) (u r : List ℕ) (here : drop i s ≡ u ++ r) (there : drop j t ≡ u)
    (a : EndOrSpace r) where
  -- ---- the same place in both: so many bytes further on
  record Same (m n : ℕ) : Type 0 where
    further : ℕ
    within : further ≤ length u
    in_s : m ≡ i + further
    in_t : n ≡ j + further

  same_first : Same i j
  same_first = record { further = 0; within = omega arith; in_s = omega arith; in_t = omega arith }

  -- what stands from there on
  here_on : {m n : ℕ} (q : Same m n) → drop m s ≡ drop q.further u ++ r
  here_on {m} {n} q =
      let k = q.further in
      ap (λ (x : ℕ). drop x s) q.in_s
      ∙ sym (drop-drop k i s) ∙ ap (drop k) here ∙ drop-append-le k u r q.within

  there_on : {m n : ℕ} (q : Same m n) → drop n t ≡ drop q.further u
  there_on {m} {n} q =
      let k = q.further in ap (λ (x : ℕ). drop x t) q.in_t ∙ sym (drop-drop k j t) ∙ ap (drop k) there

  module _ (p : ℕ → Bool) (z : p 32 ≡ false) where
    -- runs are the same there
    run_same : {m n : ℕ} → Same m n → front_run p (drop m s) ≡ front_run p (drop n t)
    run_same {m} {n} q =
        ap (front_run p) (here_on q) ∙ run_apart p z (drop q.further u) r a ∙ ap (front_run p) (sym (there_on q))

    -- and the places behind them
    run_on : {m n : ℕ} → Same m n → Same (m + length (front_run p (drop m s))) (n + length (front_run p (drop n t)))
    run_on {m} {n} q =
        let k = q.further in
        let w = length (front_run p (drop n t)) in
        let same = ap length (run_same q) in
        let long = ap (λ (l : List ℕ). length (front_run p l)) (there_on q) in
        record {
          further = k + w;
          within = omega (arith, long, run_short p (drop k u), length-drop k u, q.within);
          in_s = omega (arith, same, q.in_s);
          in_t = omega (arith, q.in_t);
        }

    module _ (o : p 0 ≡ false) where
      -- what is read there passes the test, or not
      read_same : {m n : ℕ} → Same m n → p (get_or s m 0) ≡ p (get_or t n 0)
      read_same {m} {n} q =
          let first : get_or s m 0 ≡ get_or (drop m s) 0 0 =
          ap (λ (x : ℕ). get_or s x 0) (sym (add-zero m)) ∙ sym (get_or-drop m s 0 0) in
          let second : get_or t n 0 ≡ get_or (drop n t) 0 0 =
          ap (λ (x : ℕ). get_or t x 0) (sym (add-zero n)) ∙ sym (get_or-drop n t 0 0) in
          ap p (first ∙ ap (λ (l : List ℕ). get_or l 0 0) (here_on q))
          ∙ head_apart p o z (drop q.further u) r a
          ∙ ap p (sym (second ∙ ap (λ (l : List ℕ). get_or l 0 0) (there_on q)))

      -- where it passes there is a next place
      read_on : {m n : ℕ} → Same m n → p (get_or t n 0) ≡ true → Same (m + 1) (n + 1)
      read_on {m} {n} q e =
          let k = q.further in
          let l = inside p t n o e in
          record {
            further = k + 1;
            within = omega (arith, l, ap length (there_on q), length-drop n t, length-drop k u, q.within);
            in_s = omega (arith, q.in_s);
            in_t = omega (arith, q.in_t);
          }

  -- ---- digits
  record SameDigits (m n : Digits) : Type 0 where
    amount : m.amount ≡ n.amount
    after : m.after ≡ n.after
    count : m.count ≡ n.count
    end : Same m.end n.end

  -- behind a run w of digits in both
  point_same : (w : List ℕ) {m n : ℕ} → Same m n
      → SameDigits (cond (is_point (get_or s m 0)) (point_digits w (digits_at s (m + 1)) (m + 1)) (plain_digits w m))
      (cond (is_point (get_or t n 0)) (point_digits w (digits_at t (n + 1)) (n + 1)) (plain_digits w n))
  point_same w {m} {n} q =
      rw (read_same is_point refl refl q) (⊎_elim pointed plain (bool_cases (is_point (get_or t n 0))))
    where
      pointed : is_point (get_or t n 0) ≡ true
          → SameDigits (cond (is_point (get_or t n 0)) (point_digits w (digits_at s (m + 1)) (m + 1))
          (plain_digits w m))
          (cond (is_point (get_or t n 0)) (point_digits w (digits_at t (n + 1)) (n + 1)) (plain_digits w n))
      pointed e =
          let next = read_on is_point refl refl q e in
          let run = run_same is_digit refl next in
          rw e
          (record {
            amount = ap (λ (f : List ℕ). decimal 0 (w ++ f)) run;
            after = ap length run;
            count = ap (λ (f : List ℕ). length w + length f) run;
            end = run_on is_digit refl next;
          })

      plain : is_point (get_or t n 0) ≡ false
          → SameDigits (cond (is_point (get_or t n 0)) (point_digits w (digits_at s (m + 1)) (m + 1))
          (plain_digits w m))
          (cond (is_point (get_or t n 0)) (point_digits w (digits_at t (n + 1)) (n + 1)) (plain_digits w n))
      plain e = rw e (record { amount = refl; after = refl; count = refl; end = q })

  digits_same : SameDigits (digits_from s i) (digits_from t j)
  unfolding digits_from
  digits_same =
      let run = run_same is_digit refl same_first in
      let next = run_on is_digit refl same_first in
      rw run (point_same (digits_at t j) (rw run at next))

  -- ---- the exponent
  abbrev SameExponent : Exponent → Exponent → Type 0
  SameExponent wrong wrong = Unit {0}
  SameExponent wrong (exponent b e n) = ⊥
  SameExponent (exponent b e m) wrong = ⊥
  SameExponent (exponent b e m) (exponent c f n) = (b ≡ c) × (e ≡ f) × Same m n

  -- the place behind a sign
  abbrev is_sign : ℕ → Bool
  is_sign b = eqb b 43 || eqb b 45

  sign_same : {m n : ℕ} → Same m n → Same (sign_end s m) (sign_end t n)
  sign_same {m} {n} q =
      rw (read_same is_sign refl refl q) (go (is_sign (get_or t n 0)) (λ e. read_on is_sign refl refl q e))
    where
      go : (b : Bool) → (b ≡ true → Same (m + 1) (n + 1)) → Same (cond b (m + 1) m) (cond b (n + 1) n)
      go true f = f refl
      go false f = q

  -- one or two digits behind it
  power_same : (b : Bool) (d : List ℕ) (m n : ℕ) → Same (m + length d) (n + length d)
      → SameExponent (exponent_of b d m) (exponent_of b d n)
  power_same b d m n q = go (leb 1 (length d) && leb (length d) exponent_digits)
    where
      go : (c : Bool)
          → SameExponent (cond c (exponent b (decimal 0 d) (m + length d)) wrong)
          (cond c (exponent b (decimal 0 d) (n + length d)) wrong)
      go true = (refl, refl, q)
      go false = tt

  -- an E is read as 69, a minus as 45
  abbrev is_e : ℕ → Bool
  is_e b = eqb b 69

  abbrev is_dash : ℕ → Bool
  is_dash b = eqb b 45

  exponent_same : {m n : ℕ} → Same m n → SameExponent (exponent_from s m) (exponent_from t n)
  unfolding exponent_from
  exponent_same {m} {n} q =
      rw (read_same is_e refl refl q) (go (is_e (get_or t n 0)) (λ e. read_on is_e refl refl q e))
    where
      go : (b : Bool) → (b ≡ true → Same (m + 1) (n + 1))
          → SameExponent
          (cond b (exponent_of (is_dash (get_or s (m + 1) 0)) (digits_at s (sign_end s (m + 1))) (sign_end s (m + 1)))
          (exponent false 0 m))
          (cond b (exponent_of (is_dash (get_or t (n + 1) 0)) (digits_at t (sign_end t (n + 1))) (sign_end t (n + 1)))
          (exponent false 0 n))
      go true f =
          let next = f refl in
          let sign = sign_same next in
          let run = run_same is_digit refl sign in
          let dash = is_dash (get_or t (n + 1) 0) in
          let power = power_same dash (digits_at t (sign_end t (n + 1))) (sign_end s (m + 1)) (sign_end t (n + 1))
          (rw run at (run_on is_digit refl sign)) in
          subst (λ (b : Bool). SameExponent (exponent_of b (digits_at s (sign_end s (m + 1))) (sign_end s (m + 1)))
          (exponent_of dash (digits_at t (sign_end t (n + 1))) (sign_end t (n + 1))))
          (sym (read_same is_dash refl refl next))
          (subst (λ (d : List ℕ). SameExponent (exponent_of dash d (sign_end s (m + 1)))
          (exponent_of dash (digits_at t (sign_end t (n + 1))) (sign_end t (n + 1)))) (sym run) power)
      go false f = (refl, refl, q)

  -- ---- tokens

  -- a number's, in range or not
  ranged_same : (m up down : ℕ) → seen_of s (ranged_number m up down) ≡ seen_of t (ranged_number m up down)
  unfolding ranged_number
  ranged_same m up down = go (in_range m up down)
    where
      go : (b : Bool) → seen_of s (cond b (Number (scaled m up down)) (Bad OutOfRange))
          ≡ seen_of t (cond b (Number (scaled m up down)) (Bad OutOfRange))
      go true = refl
      go false = refl

  value_same : (m n : Digits) → SameDigits m n → (b : Bool) (e : ℕ)
      → seen_of s (number_with m b e) ≡ seen_of t (number_with n b e)
  value_same m n d true e = rw (d.amount, d.after) (ranged_same n.amount 0 (e + n.after))
  value_same m n d false e = rw (d.amount, d.after) (ranged_same n.amount e n.after)

  -- what ends it
  is_tail : ℕ → Bool
  is_tail b = is_word b || is_point b

  end_same : (m n : Digits) → SameDigits m n → (x y : Exponent) → SameExponent x y
      → seen_of s (number_end s i m x).token ≡ seen_of t (number_end t j n y).token
  unfolding is_tail
  end_same m n d wrong wrong q = refl
  end_same m n d wrong (exponent b e y) q = absurd q
  end_same m n d (exponent b e x) wrong q = absurd q
  end_same m n d (exponent b e x) (exponent c f y) q =
      rw (q.0, q.1, read_same is_tail refl refl q.2) (go (is_tail (get_or t y 0)) (value_same m n d c f))
    where
      go : (z : Bool) → seen_of s (number_with m c f) ≡ seen_of t (number_with n c f)
          → seen_of s (cond z (bad_at Malformed i) (cut_of (number_with m c f) i x)).token
          ≡ seen_of t (cond z (bad_at Malformed j) (cut_of (number_with n c f) j y)).token
      go true e = refl
      go false e = e

  number_same : seen_of s (number_cut s i).token ≡ seen_of t (number_cut t j).token
  unfolding number_cut
  number_same =
      let d = digits_same in
      go (eqb (digits_from s i).count 0) (eqb (digits_from t j).count 0)
      (ap (λ (n : ℕ). eqb n 0) d.count) _ _
      (end_same (digits_from s i) (digits_from t j) d (exponent_from s (digits_from s i).end)
      (exponent_from t (digits_from t j).end) (exponent_same d.end))
    where
      go : (y z : Bool) → y ≡ z → (v w : Cut) → seen_of s v.token ≡ seen_of t w.token
          → seen_of s (cond y (bad_at Malformed i) v).token ≡ seen_of t (cond z (bad_at Malformed j) w).token
      go true true q v w e = refl
      go true false q v w e = absurd (not_both refl q)
      go false true q v w e = absurd (not_both refl (sym q))
      go false false q v w e = e

  name_same : seen_of s (name_at s i).token ≡ seen_of t (name_at t j).token
  unfolding name_at
  name_same =
      let run = run_same is_word refl same_first in
      let left : take (length (word_at t j)) (drop i s) ≡ word_at t j =
      ap (λ (w : List ℕ). take (length w) (drop i s)) (sym run) ∙ run_take is_word (drop i s) ∙ run in
      rw run (go (ltb name_bytes (length (word_at t j))) (left ∙ sym (run_take is_word (drop j t))))
    where
      go : (z : Bool) → take (length (word_at t j)) (drop i s) ≡ take (length (word_at t j)) (drop j t)
          → seen_of s
          (cond z (bad_at LongName i) (cut_of (Name i (length (word_at t j))) i (i + length (word_at t j)))).token
          ≡ seen_of t
          (cond z (bad_at LongName j) (cut_of (Name j (length (word_at t j))) j (j + length (word_at t j)))).token
      go true e = refl
      go false e = ap (λ (w : List ℕ). token (symbol_named w)) e

  -- ---- the token by its first byte
  module _ (some : 0 < length u) where
    -- which is the same in both
    first_same : get_or s i 0 ≡ get_or t j 0
    first_same =
        ap (λ (x : ℕ). get_or s x 0) (sym (add-zero i)) ∙ sym (get_or-drop i s 0 0)
        ∙ ap (λ (l : List ℕ). get_or l 0 0) here ∙ front_head u r some ∙ ap (λ (l : List ℕ). get_or l 0 0) (sym there)
        ∙ get_or-drop j t 0 0 ∙ ap (λ (x : ℕ). get_or t x 0) (add-zero j)

    inside_s : i < length s
    inside_s = omega (arith, ap length here, length-append u r, length-drop i s)

    inside_t : j < length t
    inside_t = omega (arith, ap length there, length-drop j t)

    by_first_holds : (b : ℕ) → seen_of s (by_first s i b).token ≡ seen_of t (by_first t j b).token
    by_first_holds b = go (is_letter b) (is_digit b || is_point b) (is_mark b)
      where
        go : (l f m : Bool)
            → seen_of s
            (cond l (name_at s i)
            (cond f (number_cut s i) (cond m (cut_of (Mark b) i (i + 1)) (bad_at StrayByte i)))).token
            ≡ seen_of t
            (cond l (name_at t j)
            (cond f (number_cut t j) (cond m (cut_of (Mark b) j (j + 1)) (bad_at StrayByte j)))).token
        go true f m = name_same
        go false true m = number_same
        go false false true = refl
        go false false false = refl

    -- THE TOKEN that begins with a byte that is no space is cut alike
    pub cut_local : is_space (get_or s i 0) ≡ false → seen_at s i ≡ seen_at t j
    cut_local solid =
        seen_first s i inside_s solid
        ∙ ap (λ (b : ℕ). seen_of s (by_first s i b).token) first_same
        ∙ by_first_holds (get_or t j 0)
        ∙ sym (seen_first t j inside_t (rw (← first_same) solid))
