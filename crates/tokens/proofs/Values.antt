-- The value of a number: both operands are exact, so the result is the f64 nearest to m times 10 to the k, and it is
-- finite. On the way to 10 to the k each product is exact too.
use Prim.Native.Nat.{ℕ, zero, suc, ◌+◌, ◌-◌, ◌*◌, ◌^◌, ◌≤◌, ◌<◌}
use mathlib.Core.Path.{◌≡◌, refl, sym, ap, subst, ◌∙◌}
use mathlib.Core.Bool.{Bool, true, false, not, ◌&&◌, cond, true≢false}
use mathlib.Core.Logic.{⊎_elim}
use native.Mathlib.Nat.{mul-one, mul_assoc, mul_comm, mul_left_comm, mul-mul-mul_comm, mul-pos}
use native.Mathlib.Nat.{le_trans, le_of_eq, lt_of_le_of_lt, lt_of_lt_of_le, mul-le-mul_left, mul-le-mul_right}
use native.Mathlib.Nat.{pow-suc, pow-le-pow_right, one-le-pow}
use native.Mathlib.Omega.{arith}
use borrow.Author.Tests.{ne_eqb, leb-true}
use lib.Dec.{T, leb, ltb, lit<, lit≤}
use lib.IntN.{pos}
use lib.Ieee.{Float, nan, inf, fin, Format, binary64, prec, emax, low, up, down, round, units, odd, mul, div, of_int}
use lib.Ieee.{fits, le}
use lib.Pow.{pow-add, pow_mono, shl_lt}
use lib.Ieee.Exact.{HasValue, round_exact}
use lib.Ieee.Back.{round_whole}
use lib.Ieee.Fits.{down_pos, round_is, mul-fits, div-fits}
use lib.Ieee.Scale.{round_same, finite}
use lib.Ieee.Order.{round_mono}
use lib.Ieee.Positive.{first_pos}
use Rattle.laws.proofs.Tests.{bool_cases, cond_ind, and_true}
use Rattle.limits.specs.Limits.{most_digits, most_tens}
use Rattle.tokens.specs.Number.{ten_to, scaled, in_range}

-- ---- the operands are exact

-- m is at most 2 ^ 53, so an f64 holds it
pub whole_exact : (m : ℕ) → m ≤ most_digits → HasValue (of_int binary64 (pos m)) false m 1
unfolding of_int
whole_exact m h = round_whole binary64 false m (le_trans h (lit≤ tt))

-- 10 ^ k is 5 ^ k, doubled k times
fives : (k : ℕ) → 10 ^ k ≡ 5 ^ k * 2 ^ k
fives zero = refl
fives (suc k) =
    pow-suc 10 k
    ∙ ap (λ (x : ℕ). x * 10) (fives k)
    ∙ mul-mul-mul_comm (5 ^ k) (2 ^ k) 5 2
    ∙ sym (ap (λ (x : ℕ). x * (2 ^ k * 2)) (pow-suc 5 k))
    ∙ sym (ap (λ (x : ℕ). 5 ^ suc k * x) (pow-suc 2 k))

-- up to mostTens 5 ^ k has no more binary digits than an f64 keeps
fives_fit : (k : ℕ) → k ≤ most_tens → 5 ^ k < 2 ^ prec binary64
fives_fit k h = lt_of_le_of_lt (pow-le-pow_right (lit< tt) h) (lit< tt)

-- so an f64 holds each power of ten up to 10 ^ mostTens
pub ten_exact : (k : ℕ) → k ≤ most_tens → HasValue (ten_to k) false (10 ^ k) 1
unfolding ten_to of_int
ten_exact k h =
    let l = low binary64 in
    let small = fives_fit k h in
    let reach : prec binary64 + (k + l) ≤ l + suc (emax binary64) = omega arith in
    let fine = lt_of_lt_of_le (shl_lt (prec binary64) (k + l) small) (pow_mono reach) in
    let same : 10 ^ k * 2 ^ l ≡ 5 ^ k * 2 ^ (k + l) * 1 =
    ap (λ (x : ℕ). x * 2 ^ l) (fives k)
    ∙ mul_assoc (5 ^ k) (2 ^ k) (2 ^ l)
    ∙ ap (λ (x : ℕ). 5 ^ k * x) (sym (pow-add 2 k l))
    ∙ sym (mul-one (5 ^ k * 2 ^ (k + l))) in
    round_exact binary64 false (10 ^ k) 1 (5 ^ k) (k + l) (lit< tt) small fine same

-- ---- the product and the quotient of exact operands, rounded once

-- the fraction of a product
cross_mul : (P Q a b E D : ℕ) → P * 1 ≡ a * E → Q * 1 ≡ b * D → P * Q * 1 ≡ a * b * (E * D)
cross_mul P Q a b E D p q =
    mul-one (P * Q)
    ∙ ap (λ (x : ℕ). x * Q) (sym (mul-one P) ∙ p)
    ∙ ap (λ (x : ℕ). a * E * x) (sym (mul-one Q) ∙ q)
    ∙ simp (mul_assoc, mul_left_comm)

-- a product of whole numbers that are held exactly is rounded once
mul_round : (f : Format) (x y : Float) (a b : ℕ) → HasValue x false a 1 → HasValue y false b 1
    → mul f x y ≡ round f false (a * b) 1
unfolding mul
mul_round f nan y a b h k = absurd h
mul_round f (inf s) y a b h k = absurd h
mul_round f (fin true m e) y a b h k = absurd (true≢false h.0)
mul_round f (fin false m e) nan a b h k = absurd k
mul_round f (fin false m e) (inf t) a b h k = absurd k
mul_round f (fin false m e) (fin true n d) a b h k = absurd (true≢false k.0)
mul_round f (fin false m e) (fin false n d) a b h k =
    round_same f false (m * up e * (n * up d)) (down e * down d) (a * b) 1 (mul-pos (down_pos e) (down_pos d)) (lit< tt)
    (cross_mul (m * up e) (n * up d) a b (down e) (down d) h.1 k.1)

-- TEN TIMES a power of ten is the next one, and an f64 holds the product exactly
pub ten_times : (k : ℕ) → k < most_tens
    → (mul binary64 (ten_to k) (ten_to 1) ≡ ten_to (suc k))
    × HasValue (mul binary64 (ten_to k) (ten_to 1)) false (10 ^ suc k) 1
unfolding ten_to of_int
ten_times k h =
    let next : mul binary64 (ten_to k) (ten_to 1) ≡ ten_to (suc k) =
    mul_round binary64 (ten_to k) (ten_to 1) (10 ^ k) 10 (ten_exact k (omega arith)) (ten_exact 1 (lit≤ tt))
    ∙ ap (λ (x : ℕ). round binary64 false x 1) (sym (pow-suc 10 k)) in
    (next, subst (λ (x : Float). HasValue x false (10 ^ suc k) 1) (sym next) (ten_exact (suc k) h))

-- the fraction of a quotient
cross_div : (P Q a b E D : ℕ) → P * 1 ≡ a * E → Q * 1 ≡ b * D → P * D * b ≡ a * (Q * E)
cross_div P Q a b E D p q =
    let r : a * E * D * b ≡ a * (b * D * E) = simp (mul_assoc, mul_comm, mul_left_comm) in
    ap (λ (x : ℕ). x * D * b) (sym (mul-one P) ∙ p) ∙ r ∙ ap (λ (x : ℕ). a * (x * E)) (sym (sym (mul-one Q) ∙ q))

-- a quotient of them is rounded once
div_round : (f : Format) (x y : Float) (a b : ℕ) → 0 < b → HasValue x false a 1 → HasValue y false b 1
    → div f x y ≡ round f false a b
unfolding div
div_round f nan y a b B h k = absurd h
div_round f (inf s) y a b B h k = absurd h
div_round f (fin true m e) y a b B h k = absurd (true≢false h.0)
div_round f (fin false m e) nan a b B h k = absurd k
div_round f (fin false m e) (inf t) a b B h k = absurd k
div_round f (fin false m e) (fin true n d) a b B h k = absurd (true≢false k.0)
div_round f (fin false m e) (fin false n d) a b B h k =
    let N : 0 < n * up d = subst (λ (z : ℕ). 0 < z) (sym k.1 ∙ mul-one (n * up d)) (mul-pos B (down_pos d)) in
    rw (ne_eqb n 0 (λ z. omega (arith, first_pos n (up d) N)))
    (round_same f false (m * up e * down d) (n * up d * down e) a b (mul-pos N (down_pos e)) B
    (cross_div (m * up e) (n * up d) a b (down e) (down d) h.1 k.1))

-- for k of 0 or more: m times 10 ^ k, rounded once
product : (m k : ℕ) → m ≤ most_digits → k ≤ most_tens
    → mul binary64 (of_int binary64 (pos m)) (ten_to k) ≡ round binary64 false (m * 10 ^ k) 1
product m k h l = mul_round binary64 (of_int binary64 (pos m)) (ten_to k) m (10 ^ k) (whole_exact m h) (ten_exact k l)

-- otherwise: m over 10 ^ -k, rounded once
quotient : (m k : ℕ) → m ≤ most_digits → k ≤ most_tens
    → div binary64 (of_int binary64 (pos m)) (ten_to k) ≡ round binary64 false m (10 ^ k)
quotient m k h l =
    div_round binary64 (of_int binary64 (pos m)) (ten_to k) m (10 ^ k) (one-le-pow k 10 (lit< tt)) (whole_exact m h)
    (ten_exact k l)

-- ---- what is rounded is finite where it is at most a finite value

-- no NaN, and not below every number
abbrev plain : Float → Bool
plain nan = false
plain (inf s) = not s
plain (fin s m e) = true

-- a number written with an odd factor is plain
odd_plain : (d q k l : ℕ) → T (plain (odd d false q k l))
unfolding odd
odd_plain d zero k l = tt
odd_plain d (suc q) k l = tt

-- so is a multiple of the smallest value
units_plain : (f : Format) (q k : ℕ) → T (plain (units f false q k))
unfolding units
units_plain f q k =
    cond_ind (λ (z : Float). T (plain z)) (ltb (q * 2 ^ k) (2 ^ (low f + suc (emax f))))
    (odd (suc (prec f)) false q k (low f)) (inf false)
    (λ _. odd_plain (suc (prec f)) q k (low f)) (λ _. tt)

-- so is what was rounded
round_plain : (f : Format) (a c : ℕ) → T (plain (round f false a c))
round_plain f a c = subst (λ (z : Float). T (plain z)) (sym (round_is f false a c)) (units_plain f _ _)

-- what is plain and at most a finite number is finite
finite_under : (x y : Float) → T (plain x) → T (finite y) → T (le x y) → T (finite x)
unfolding le
finite_under nan y p q h = absurd p
finite_under (inf true) y p q h = absurd p
finite_under (inf false) nan p q h = absurd q
finite_under (inf false) (inf t) p q h = absurd q
finite_under (inf false) (fin t n d) p q h = absurd h
finite_under (fin s m e) y p q h = tt

-- the largest product
abbrev largest : ℕ
largest = most_digits * 10 ^ most_tens

-- what is at most that is finite
round_finite : (a c : ℕ) → 0 < c → a ≤ largest * c → T (finite (round binary64 false a c))
round_finite a c C h =
    finite_under (round binary64 false a c) (round binary64 false largest 1) (round_plain binary64 a c)
    (unfold round in tt)
    (round_mono binary64 a c largest 1 C (lit< tt) (le_trans (le_of_eq (mul-one a)) h))

-- the product is finite
product_finite : (m k : ℕ) → m ≤ most_digits → k ≤ most_tens
    → T (finite (mul binary64 (of_int binary64 (pos m)) (ten_to k)))
product_finite m k h l =
    rw (product m k h l)
    (round_finite (m * 10 ^ k) 1 (lit< tt)
    (le_trans (mul-le-mul_right (10 ^ k) h)
    (le_trans (mul-le-mul_left most_digits (pow-le-pow_right (lit< tt) l)) (lit≤ tt))))

-- so is the quotient
quotient_finite : (m k : ℕ) → m ≤ most_digits → k ≤ most_tens
    → T (finite (div binary64 (of_int binary64 (pos m)) (ten_to k)))
quotient_finite m k h l =
    let C : 1 ≤ 10 ^ k = one-le-pow k 10 (lit< tt) in
    let one : largest ≤ largest * 10 ^ k = le_trans (le_of_eq (sym (mul-one largest))) (mul-le-mul_left largest C) in
    rw (quotient m k h l) (round_finite m (10 ^ k) C (le_trans (le_trans h (lit≤ tt)) one))

-- ---- the value of a number in range

-- m and k are in range
pub range : (m up down : ℕ) → in_range m up down ≡ true
    → (m ≤ most_digits) × (up ≤ down + most_tens) × (down ≤ up + most_tens)
range m up down t =
    let a = and_true (leb m most_digits) (leb up (down + most_tens) && leb down (up + most_tens)) t in
    let b = and_true (leb up (down + most_tens)) (leb down (up + most_tens)) a.1 in
    (leb-true m most_digits a.0, leb-true up (down + most_tens) b.0, leb-true down (up + most_tens) b.1)

-- the f64 nearest to m times 10 to the up less down
pub scaled_round : (m up down : ℕ) → in_range m up down ≡ true
    → scaled m up down ≡ cond (leb down up) (round binary64 false (m * 10 ^ (up - down)) 1)
    (round binary64 false m (10 ^ (down - up)))
unfolding scaled
scaled_round m up down t =
    let r = range m up down t in
    ⊎_elim (λ b. rw b (product m (up - down) r.0 (omega arith)))
    (λ b. rw b (quotient m (down - up) r.0 (omega arith))) (bool_cases (leb down up))

-- it is finite, and an f64
pub scaled_fine : (m up down : ℕ) → in_range m up down ≡ true
    → T (finite (scaled m up down)) × T (fits binary64 (scaled m up down))
unfolding scaled
scaled_fine m up down t =
    let r = range m up down t in
    let x = of_int binary64 (pos m) in
    cond_ind (λ (z : Float). T (finite z) × T (fits binary64 z)) (leb down up) (mul binary64 x (ten_to (up - down)))
    (div binary64 x (ten_to (down - up)))
    (λ _. (product_finite m (up - down) r.0 (omega arith), mul-fits binary64 x (ten_to (up - down))))
    (λ _. (quotient_finite m (down - up) r.0 (omega arith), div-fits binary64 x (ten_to (down - up))))
