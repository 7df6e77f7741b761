-- What every cut gives: a good token lies inside the text, the next place is behind it, and it is what its kind says.
use Prim.Native.Nat.{ℕ, ◌+◌, ◌≤◌, ◌<◌}
use mathlib.Core.Path.{◌≡◌, refl, ap}
use mathlib.Core.Bool.{Bool, true, false, ◌||◌, ◌&&◌}
use mathlib.Core.List.{List}
use native.Mathlib.Omega.{arith}
use borrow.Author.Tests.{ltb-false, leb-false, le-leb, eqb-false}
use lib.Dec.{T, eqb, leb, ltb}
use lib.ListN.{length, get_or}
use lib.Ieee.{binary64, fits}
use lib.Ieee.Scale.{finite}
use Rattle.laws.proofs.Tests.{cond_ind}
use Rattle.laws.proofs.Runs.{inside, run_more, run_room}
use Rattle.limits.specs.Limits.{name_bytes, exponent_digits}
use Rattle.faults.specs.declared.Fault.TheVariants.{StrayByte, LongName, Malformed, OutOfRange}
use Rattle.tokens.specs.declared.Token.{Token}
use Rattle.tokens.specs.declared.Token.TheVariants.{Name, Mark, Number, End, Bad}
use Rattle.tokens.specs.declared.Cut.{Cut}
use Rattle.tokens.specs.Bytes.{is_letter, is_digit, is_point, is_mark, is_word, word_at, digits_at, spaces_at}
use Rattle.tokens.specs.Number.{decimal, Digits, plain_digits, point_digits, digits_from}
use Rattle.tokens.specs.Number.{Exponent, exponent, wrong, sign_end, exponent_of, exponent_from, scaled, in_range}
use Rattle.tokens.specs.Number.{ranged_number, number_with}
use Rattle.tokens.specs.Token.{cut_of, bad_at, number_end, number_cut, name_at, token_at, cut_at}
use Rattle.tokens.proofs.Values.{scaled_fine}

-- a good token of the text s: the next place is behind lo, and not past the end
pub record Inside (s : List ℕ) (lo next : ℕ) : Type 0 where
  pub onward : lo < next
  pub room : next ≤ length s

-- a name has not too many bytes, and ends where the next place is
pub record NameIn (p n next : ℕ) : Type 0 where
  pub few : n ≤ name_bytes
  pub ends : next ≡ p + n

-- what holds of a cut from lo on, by its token
abbrev pub Sound : List ℕ → ℕ → Token → ℕ → Type 0
Sound s lo (Name p n) next = Inside s lo next × NameIn p n next
Sound s lo (Mark b) next = Inside s lo next × (is_mark b ≡ true)
Sound s lo (Number x) next = Inside s lo next × T (finite x) × T (fits binary64 x)
Sound s lo End next = Unit {0}
Sound s lo (Bad fault) next = Unit {0}

-- ---- numbers: the digits and the exponent end inside the text

-- the digits, with a byte for each
digits_room : (s : List ℕ) (at : ℕ) → at ≤ length s
    → (at + (digits_from s at).count ≤ (digits_from s at).end) × ((digits_from s at).end ≤ length s)
unfolding digits_from
digits_room s at h =
    let w = digits_at s at in
    let p = at + length w in
    let r : p ≤ length s = run_room is_digit s at h in
    cond_ind (λ (d : Digits). (at + d.count ≤ d.end) × (d.end ≤ length s)) (is_point (get_or s p 0))
    (point_digits w (digits_at s (p + 1)) (p + 1)) (plain_digits w p)
    (λ e. let l : p < length s = inside is_point s p refl e in (omega arith, run_room is_digit s (p + 1) (omega arith)))
    (λ _. (omega arith, r))

-- the sign
sign_room : (s : List ℕ) (i : ℕ) → i ≤ length s → (i ≤ sign_end s i) × (sign_end s i ≤ length s)
sign_room s i h =
    let sign : ℕ → Bool = λ b. eqb b 43 || eqb b 45 in
    cond_ind (λ (e : ℕ). (i ≤ e) × (e ≤ length s)) (sign (get_or s i 0)) (i + 1) i
    (λ e. let l = inside sign s i refl e in (omega arith, omega arith)) (λ _. (omega arith, h))

-- an exponent ends between two places
abbrev Stops : ℕ → ℕ → Exponent → Type 0
Stops lo hi (exponent minus e stop) = (lo ≤ stop) × (stop ≤ hi)
Stops lo hi wrong = Unit {0}

-- so it does inside the text
exponent_room : (s : List ℕ) (i : ℕ) → i ≤ length s → Stops i (length s) (exponent_from s i)
unfolding exponent_from
exponent_room s i h =
    let P : Exponent → Type 0 = Stops i (length s) in
    let from = sign_end s (i + 1) in
    let w = digits_at s from in
    let minus = eqb (get_or s (i + 1) 0) 45 in
    cond_ind P (eqb (get_or s i 0) 69) (exponent_of minus w from) (exponent false 0 i)
    (λ e.
    let l = inside (λ (b : ℕ). eqb b 69) s i refl e in
    let g = sign_room s (i + 1) (omega arith) in
    cond_ind P (leb 1 (length w) && leb (length w) exponent_digits)
    (exponent minus (decimal 0 w) (from + length w)) wrong
    (λ _. (omega arith, run_room is_digit s from g.1)) (λ _. tt))
    (λ _. (omega arith, h))

module _ (s : List ℕ) (lo : ℕ) where
  -- what holds of a cut
  abbrev Good : Cut → Type 0
  Good c = Sound s lo c.token c.next

  -- a value in range is finite and an f64
  value_sound : (m up down next : ℕ) → Inside s lo next → Sound s lo (ranged_number m up down) next
  unfolding ranged_number
  value_sound m up down next i =
      cond_ind (λ (t : Token). Sound s lo t next) (in_range m up down) (Number (scaled m up down)) (Bad OutOfRange)
      (λ t. let f = scaled_fine m up down t in (i, f.0, f.1)) (λ _. tt)

  -- with either sign of the exponent
  signed_sound : (m : Digits) (minus : Bool) (e next : ℕ) → Inside s lo next → Sound s lo (number_with m minus e) next
  signed_sound m true e next i = value_sound m.amount 0 (e + m.after) next i
  signed_sound m false e next i = value_sound m.amount e m.after next i

  -- the whole number, from its digits and its exponent
  end_sound : (at : ℕ) (m : Digits) (e : Exponent) → lo < m.end → Stops m.end (length s) e
      → Good (number_end s at m e)
  end_sound at m wrong h r = tt
  end_sound at m (exponent minus e stop) h r =
      cond_ind Good (is_word (get_or s stop 0) || is_point (get_or s stop 0)) (bad_at Malformed at)
      (cut_of (number_with m minus e) at stop) (λ _. tt)
      (λ _. signed_sound m minus e stop (record { onward = omega arith; room = r.1 }))

  -- a number has a digit, so it is behind its place
  number_sound : (at : ℕ) → lo ≤ at → at ≤ length s → Good (number_cut s at)
  unfolding number_cut
  number_sound at h k =
      let m = digits_from s at in
      let r = digits_room s at k in
      cond_ind Good (eqb m.count 0) (bad_at Malformed at) (number_end s at m (exponent_from s m.end)) (λ _. tt)
      (λ z.
      let some : m.count ≡ 0 → ⊥ = eqb-false m.count 0 z in
      end_sound at m (exponent_from s m.end) (omega arith) (exponent_room s m.end r.1))

  -- a name has a letter, so it is too
  name_sound : (at : ℕ) → lo ≤ at → at < length s → is_letter (get_or s at 0) ≡ true → Good (name_at s at)
  unfolding name_at
  name_sound at h k l =
      let n = length (word_at s at) in
      let letter : is_word (get_or s at 0) ≡ true = rw l in
      let more = ap length (run_more is_word s at refl letter) in
      cond_ind Good (ltb name_bytes n) (bad_at LongName at) (cut_of (Name at n) at (at + n)) (λ _. tt)
      (λ t. (
        record { onward = omega arith; room = run_room is_word s at (omega arith) },
        record { few = ltb-false name_bytes n t; ends = refl },
      ))

  -- each token that can start at a place
  token_sound : (at : ℕ) → lo ≤ at → Good (token_at s at)
  unfolding token_at
  token_sound at h =
      let b = get_or s at 0 in
      cond_ind Good (leb (length s) at) (cut_of End at at) _ (λ _. tt)
      (λ e.
      let l : at < length s = leb-false (length s) at e in
      cond_ind Good (is_letter b) (name_at s at) _ (λ t. name_sound at h l t)
      (λ _. cond_ind Good (is_digit b || is_point b) (number_cut s at) _ (λ _. number_sound at h (omega arith))
      (λ _. cond_ind Good (is_mark b) (cut_of (Mark b) at (at + 1)) (bad_at StrayByte at)
      (λ t. (record { onward = omega arith; room = omega arith }, t)) (λ _. tt))))

-- every cut is sound
pub cut_sound : (s : List ℕ) (from : ℕ) → Sound s from (cut_at s from).token (cut_at s from).next
unfolding cut_at
cut_sound s from = token_sound s from (from + length (spaces_at s from)) (omega arith)

-- from the end on there is only the end
pub cut_end : (s : List ℕ) (from : ℕ) → length s ≤ from → (cut_at s from).token ≡ End
unfolding cut_at token_at
cut_end s from h =
    let at = from + length (spaces_at s from) in
    let k : length s ≤ at = omega arith in
    rw (le-leb (length s) at k)
