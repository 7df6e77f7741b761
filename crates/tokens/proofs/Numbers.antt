-- The parts of a number, from what its pieces ensure.
use Prim.Native.Nat.{ℕ, zero-le, ◌+◌, ◌-◌, ◌*◌, ◌^◌, ◌<◌, ◌≤◌, min}
use mathlib.Core.Path.{◌≡◌, refl, sym, ap, subst, ◌∙◌}
use mathlib.Core.Bool.{true, false, ◌&&◌, ◌||◌, cond}
use mathlib.Core.List.{List, [], ◌∷◌}
use mathlib.Core.Logic.{◌⊎◌, ⊎_elim}
use native.Mathlib.Nat.{pow-suc, pow-le-pow_right, lt_of_lt_of_le, mul-le-mul_right, mul_assoc, mul_comm, one-mul}
use native.Mathlib.Nat.{mul-one, zero-add}
use native.Mathlib.Omega.{arith}
use borrow.Author.Tests.{eq-eqb, ne_eqb, le-leb, lt-leb, leb-true}
use lib.Dec.{eqb, leb, lit<}
use lib.IntN.{pos}
use lib.Ieee.{Float, binary64, mul, div, of_int}
use lib.ListN.{length, get_or, drop, length-drop}
use Rattle.std.specs.Prelude.{Option, Some, None}
use Rattle.laws.proofs.Tests.{cond_ind, and_true, lt_or_ge}
use Rattle.laws.proofs.Runs.{run_short, run_run, all_pass}
use Rattle.laws.specs.Runs.{front_run}
use Rattle.limits.specs.Limits.{most_digits, most_tens, exponent_digits}
use Rattle.faults.specs.declared.Fault.TheVariants.{Malformed, OutOfRange}
use Rattle.tokens.specs.declared.number.Decimal.{Decimal}
use Rattle.tokens.specs.declared.number.Mantissa.{Mantissa}
use Rattle.tokens.specs.declared.Cut.{Cut}
use Rattle.tokens.specs.declared.Token.{Token}
use Rattle.tokens.specs.declared.Token.TheVariants.{Number, Bad}
use Rattle.tokens.specs.declared.number.Power.{Power}
use Rattle.tokens.specs.Bytes.{digits_at, is_digit, is_word, is_point}
use Rattle.tokens.specs.Number.{decimal, Digits, plain_digits, point_digits, digits_from}
use Rattle.tokens.specs.Number.{Exponent, exponent, wrong, sign_end, exponent_of, exponent_from, ten_to, scaled}
use Rattle.tokens.specs.Number.{in_range, ranged_number}
use Rattle.tokens.specs.Token.{cut_of, bad_at, number_end, number_cut}
use Rattle.tokens.specs.Capped.{cap, decimal_at, capped, power_of}
use Rattle.tokens.proofs.Decimals.{decimal_cap, decimal_append}

-- what was added is what is left
less : (p n : ℕ) → p + n - p ≡ n
less p n = omega arith

-- ---- the value

-- out of range is 17
pub out_of_range : (m up down : ℕ) → in_range m up down ≡ false → Bad OutOfRange ≡ ranged_number m up down
unfolding ranged_number
out_of_range m up down h = rw h

-- m is over the most
too_large : (m up down : ℕ) → most_digits < m → in_range m up down ≡ false
too_large m up down h = rw (lt-leb m most_digits h)

-- k is too far from 0
too_far : (m up down : ℕ) → m ≤ most_digits → most_tens < (up - down) + (down - up) → in_range m up down ≡ false
too_far m up down h k = ⊎_elim high low (lt_or_ge (down + most_tens) up)
  where
    high : down + most_tens < up → in_range m up down ≡ false
    high l = rw (le-leb m most_digits h, lt-leb up (down + most_tens) l)

    low : up ≤ down + most_tens → in_range m up down ≡ false
    low l =
        let d : up + most_tens < down = omega arith in
        rw (le-leb m most_digits h, le-leb up (down + most_tens) l, lt-leb down (up + most_tens) d)

-- one of them is
pub far : (m up down k : ℕ) → k ≡ (up - down) + (down - up)
    → ◌⊎◌ (most_digits < m) ((m ≤ most_digits) × (most_tens < k))
    → in_range m up down ≡ false
far m up down k e h = ⊎_elim (too_large m up down) (λ d. too_far m up down d.0 (omega (arith, d.1))) h

-- neither is
in_range_holds : (m up down : ℕ) → m ≤ most_digits → up ≤ down + most_tens → down ≤ up + most_tens
    → in_range m up down ≡ true
in_range_holds m up down h k l =
    rw (le-leb m most_digits h, le-leb up (down + most_tens) k, le-leb down (up + most_tens) l)

module _ (m up down k : ℕ) (x : Float) (h : m ≤ most_digits) (apart : k ≡ (up - down) + (down - up))
    (near : k ≤ most_tens) (power : x ≡ ten_to k) where
  -- here m and k are in range
  good : in_range m up down ≡ true
  good = in_range_holds m up down h (omega arith) (omega arith)

  -- k of 0 or more: one multiplication
  pub number_up : down ≤ up → Number (mul binary64 (of_int binary64 (pos m)) x) ≡ ranged_number m up down
  unfolding ranged_number scaled
  number_up l = let e : k ≡ up - down = omega arith in rw (good, le-leb down up l, power, e)

  -- k below 0: one division
  pub number_down : up < down → Number (div binary64 (of_int binary64 (pos m)) x) ≡ ranged_number m up down
  unfolding ranged_number scaled
  number_down l = let e : k ≡ down - up = omega arith in rw (good, lt-leb down up l, power, e)

-- the cap is not seen: below it stands m itself, and what is held down is out of range
cap_unseen : (m up down : ℕ) → ranged_number (min cap m) up down ≡ ranged_number m up down
cap_unseen m up down = ⊎_elim over (λ g. ap (λ (x : ℕ). ranged_number x up down) (same g)) (lt_or_ge most_digits m)
  where
    same : m ≤ most_digits → min cap m ≡ m
    same h = omega arith

    over : most_digits < m → ranged_number (min cap m) up down ≡ ranged_number m up down
    over h = sym (out_of_range (min cap m) up down (too_large (min cap m) up down (omega arith)))
        ∙ out_of_range m up down (too_large m up down h)

-- ---- the digits

-- the place behind digits that were read
pub ends : {d e : Decimal} → d ≡ e → d.end ≡ e.end
ends e = ap (λ (x : Decimal). x.end) e

-- their value
pub values : {d e : Decimal} → d ≡ e → d.value ≡ e.value
values e = ap (λ (x : Decimal). x.value) e

-- the byte behind them
pub behinds : (s : List ℕ) (from a : ℕ) (d : Decimal) → d ≡ decimal_at s from a → d.behind ≡ get_or s d.end 0
behinds s from a d e = rw e refl

-- digits, a point, and digits again
pub with_point : (s : List ℕ) (at : ℕ) (d e : Decimal) → d ≡ decimal_at s at 0 → d.behind ≡ 46
    → e ≡ decimal_at s (d.end + 1) d.value
    → ◌≡◌ {A = Mantissa}
    (record {
      value = e.value;
      after = e.end - (d.end + 1);
      count = e.end - (at + 1);
      end = e.end;
      behind = e.behind;
    })
    (capped s (digits_from s at))
unfolding digits_from
with_point s at d e p q r =
    let w = digits_at s at in
    let f = digits_at s (at + length w + 1) in
    let end = at + length w + 1 + length f in
    let q' : get_or s (at + length w) 0 ≡ 46 = rw p at q in
    let value = decimal_cap (decimal 0 w) f ∙ ap (min cap) (sym (decimal_append 0 w f)) in
    let after = less (at + length w + 1) (length f) in
    let count : end - (at + 1) ≡ length w + length f = omega arith in
    rw (r, p, eq-eqb _ 46 q')
    (λ k. record { value = value k; after = after k; count = count k; end = end; behind = get_or s end 0 })

-- digits alone
pub no_point : (s : List ℕ) (at : ℕ) (d : Decimal) → d ≡ decimal_at s at 0 → (d.behind ≡ 46 → ⊥)
    → ◌≡◌ {A = Mantissa} (record { value = d.value; after = 0; count = d.end - at; end = d.end; behind = d.behind })
    (capped s (digits_from s at))
unfolding digits_from
no_point s at d p q =
    let w = digits_at s at in
    let end = at + length w in
    let q' : get_or s end 0 ≡ 46 → ⊥ = rw p at q in
    rw (p, ne_eqb _ 46 q')
    (λ k.
    record {
      value = min cap (decimal 0 w);
      after = 0;
      count = less at
          (length w) k;
      end = end;
      behind = get_or s end 0;
    })

-- a digit is at most 9
digit_small : (x : ℕ) → is_digit x ≡ true → x - 48 ≤ 9
digit_small x t = omega (arith, leb-true x 57 (and_true (leb 48 x) (leb x 57) t).1)

-- n digits behind a number are below the next number with n zeros
decimal_small : (a : ℕ) (xs : List ℕ) → front_run is_digit xs ≡ xs → decimal a xs < (a + 1) * 10 ^ length xs
unfolding decimal
decimal_small a [] e = rw mul-one (omega arith)
decimal_small a (x ∷ xs) e =
    let t = all_pass is_digit x xs e in
    let h : a * 10 + (x - 48) + 1 ≤ (a + 1) * 10 = omega (arith, digit_small x t.0) in
    rw (pow-suc 10 (length xs), mul_comm (10 ^ length xs) 10, ← (mul_assoc (a + 1) 10 (10 ^ length xs)))
    (lt_of_lt_of_le (decimal_small (a * 10 + (x - 48)) xs t.1) (mul-le-mul_right (10 ^ length xs) h))

-- so an exponent of few digits is not held down
exponent_small : (s : List ℕ) (i : ℕ) → length (digits_at s i) ≤ exponent_digits
    → decimal 0 (digits_at s i) < 10 ^ exponent_digits
exponent_small s i h =
    lt_of_lt_of_le
    (rw (one-mul (10 ^ length (digits_at s i))) at (decimal_small 0 (digits_at s i) (run_run is_digit (drop i s))))
    (pow-le-pow_right (lit< tt) h)

-- ---- the exponent

-- as code holds it
abbrev pub power : ℕ → ℕ → ℕ → ℕ → Power
power u d e b = record { up = u; down = d; end = e; behind = b }

-- its letter stands at `at`, its digits from `from`
module _ (s : List ℕ) (at from : ℕ) (d : Decimal) (letter : get_or s at 0 ≡ 69) (sign : from ≡ sign_end s (at + 1))
    (read : d ≡ decimal_at s from 0) where
  -- how many digits the exponent has
  count : d.end - from ≡ length (digits_at s (sign_end s (at + 1)))
  count = rw (read, ← sign) (less from (length (digits_at s from)))

  -- none, or too many
  pub no_exponent : ◌⊎◌ (d.end - from ≡ 0) ((d.end - from ≡ 0 → ⊥) × (exponent_digits < d.end - from))
      → None ≡ power_of s (exponent_from s at)
  unfolding exponent_from
  no_exponent h = ⊎_elim no_digit too_many h
    where
      no_digit : d.end - from ≡ 0 → None ≡ power_of s (exponent_from s at)
      no_digit z =
          let l : length (digits_at s (sign_end s (at + 1))) < 1 = omega (arith, count) in
          rw (eq-eqb _ 69 letter, lt-leb 1 _ l)

      too_many : (d.end - from ≡ 0 → ⊥) × (exponent_digits < d.end - from) → None ≡ power_of s (exponent_from s at)
      too_many z =
          let n = length (digits_at s (sign_end s (at + 1))) in
          let l : exponent_digits < n = omega (arith, count, z.1) in
          rw (eq-eqb _ 69 letter, le-leb 1 n (omega arith), lt-leb n exponent_digits l)

  -- one or two digits, by the byte behind the letter
  few_digits : (d.end - from ≡ 0 → ⊥) → d.end - from ≤ exponent_digits
      → exponent (eqb (get_or s (at + 1) 0) 45) d.value d.end ≡ exponent_from s at
  unfolding exponent_from
  few_digits z h =
      let w = digits_at s (sign_end s (at + 1)) in
      let l : length w ≤ exponent_digits = omega (arith, count) in
      let v : min cap (decimal 0 w) ≡ decimal 0 w = omega (arith, exponent_small s (sign_end s (at + 1)) l) in
      rw (
        eq-eqb _ 69 letter,
        le-leb 1 (length w) (omega (arith, count)),
        le-leb (length w) exponent_digits l,
        read,
        sign,
        v,
      )

  -- behind a minus
  pub digits_minus : (d.end - from ≡ 0 → ⊥) → d.end - from ≤ exponent_digits → get_or s (at + 1) 0 ≡ 45
      → Some (power 0 d.value d.end d.behind) ≡ power_of s (exponent_from s at)
  digits_minus z h e = rw (← (few_digits z h), eq-eqb _ 45 e, behinds s from 0 d read)

  -- behind a plus or no sign
  pub digits_plus : (d.end - from ≡ 0 → ⊥) → d.end - from ≤ exponent_digits → (get_or s (at + 1) 0 ≡ 45 → ⊥)
      → Some (power d.value 0 d.end d.behind) ≡ power_of s (exponent_from s at)
  digits_plus z h e = rw (← (few_digits z h), ne_eqb _ 45 e, behinds s from 0 d read)

-- no letter, no exponent
pub no_letter : (s : List ℕ) (at b : ℕ) → b ≡ get_or s at 0 → (b ≡ 69 → ⊥)
    → Some (power 0 0 at b) ≡ power_of s (exponent_from s at)
unfolding exponent_from
no_letter s at b e h = rw (ne_eqb _ 69 (λ f. h (e ∙ f)), e)

-- ---- the number, by the exponent as it is held
abbrev pub end_of : List ℕ → ℕ → Digits → Option Power → Cut
end_of s at m (Some p) =
    cond (is_word p.behind || is_point p.behind) (bad_at Malformed at)
    (cut_of (ranged_number m.amount p.up (p.down + m.after)) at p.end)
end_of s at m None = bad_at Malformed at

-- it is the number that the definition gives
end_held : (s : List ℕ) (at : ℕ) (m : Digits) (e : Exponent) → end_of s at m (power_of s e) ≡ number_end s at m e
end_held s at m (exponent true e stop) = refl
end_held s at m (exponent false e stop) = rw zero-add
end_held s at m wrong = refl

-- m is its digits as they are held
module _ (s : List ℕ) (at : ℕ) (m : Mantissa) (read : m ≡ capped s (digits_from s at)) where
  -- a number without digits is bad
  pub empty : m.count ≡ 0 → bad_at Malformed at ≡ number_cut s at
  unfolding number_cut
  empty h = rw (eq-eqb _ 0 (rw read at h))

  -- from what stands behind the digits to the number
  pub through : (m.count ≡ 0 → ⊥) → (p : Option Power) → p ≡ power_of s (exponent_from s m.end)
      → end_of s at (digits_from s at) p ≡ number_cut s at
  unfolding number_cut
  through z p q =
      rw (ne_eqb _ 0 (rw read at z), q, read)
      (end_held s at (digits_from s at) (exponent_from s (digits_from s at).end))

  module _ (p : Power) where
    -- a letter, digit or point behind it makes it bad
    pub tail_after : (is_word p.behind || is_point p.behind) ≡ true
        → bad_at Malformed at ≡ end_of s at (digits_from s at) (Some p)
    tail_after h = rw h

    -- otherwise its value decides
    pub no_tail : (is_word p.behind || is_point p.behind) ≡ false → (t : Token)
        → t ≡ ranged_number m.value p.up (p.down + m.after)
        → cut_of t at p.end ≡ end_of s at (digits_from s at) (Some p)
    no_tail h t q = rw (h, q, read, cap_unseen)

-- ---- the counts are small

-- a run of digits is no longer than the text
digits_short : (s : List ℕ) (i : ℕ) → length (digits_at s i) ≤ length s
digits_short s i = omega (arith, run_short is_digit (drop i s), length-drop i s)

-- so the count behind the point is not either
pub after_short : (s : List ℕ) (at : ℕ) (m : Mantissa) → m ≡ capped s (digits_from s at) → m.after ≤ length s
unfolding digits_from
after_short s at m e =
    let p = at + length (digits_at s at) in
    rw e
    (cond_ind (λ (d : Digits). d.after ≤ length s) (is_point (get_or s p 0))
    (point_digits (digits_at s at) (digits_at s (p + 1)) (p + 1))
    (plain_digits (digits_at s at) p) (λ _. digits_short s (p + 1)) (λ _. zero-le))

-- an exponent's value is small
abbrev Small : Exponent → Type 0
Small (exponent minus e stop) = e < 10 ^ exponent_digits
Small wrong = Unit {0}

-- for it has few digits
exponent_few : (s : List ℕ) (at : ℕ) → Small (exponent_from s at)
unfolding exponent_from
exponent_few s at =
    let from = sign_end s (at + 1) in
    let w = digits_at s from in
    let minus = eqb (get_or s (at + 1) 0) 45 in
    cond_ind Small (eqb (get_or s at 0) 69) (exponent_of minus w from) (exponent false 0 at)
    (λ _. cond_ind Small (leb 1 (length w) && leb (length w) exponent_digits)
    (exponent minus (decimal 0 w) (from + length w)) wrong
    (λ t. exponent_small s from
    (leb-true (length w) exponent_digits (and_true (leb 1 (length w)) (leb (length w) exponent_digits) t).1)) (λ _. tt))
    (λ _. lit< tt)

-- and so it is where it is held
abbrev SmallDown : Option Power → Type 0
SmallDown (Some p) = p.down < 10 ^ exponent_digits
SmallDown None = Unit {0}

-- for it is the same value, or 0
small_held : (s : List ℕ) (e : Exponent) → Small e → SmallDown (power_of s e)
small_held s (exponent true e stop) h = h
small_held s (exponent false e stop) h = lit< tt
small_held s wrong h = tt

-- so the sum with the count behind the point fits
pub down_small : (s : List ℕ) (at : ℕ) (p : Power) → Some p ≡ power_of s (exponent_from s at)
    → p.down < 10 ^ exponent_digits
down_small s at p q = subst SmallDown (sym q) (small_held s (exponent_from s at) (exponent_few s at))
