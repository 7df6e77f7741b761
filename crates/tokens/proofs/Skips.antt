-- Skipping good tokens leads from one to the next.
use Prim.Native.Nat.{ℕ, zero, suc, ◌+◌, ◌<◌}
use mathlib.Core.Path.{◌≡◌, refl, sym, ap, subst, ◌∙◌}
use mathlib.Core.Bool.{Bool, true, false, cond, ◌||◌, ◌&&◌}
use mathlib.Core.List.{List}
use native.Mathlib.Omega.{arith}
use borrow.Author.Tests.{lt-leb, lt-ltb}
use lib.Dec.{eqb, leb, ltb}
use lib.ListN.{length, get_or}
use Rattle.limits.specs.Limits.{name_bytes, exponent_digits}
use Rattle.faults.specs.declared.Fault.{Fault}
use Rattle.faults.specs.declared.Fault.TheVariants.{StrayByte, LongName, Malformed}
use Rattle.tokens.specs.declared.Token.{Token}
use Rattle.tokens.specs.declared.Token.TheVariants.{Name, Mark, Number, End, Bad}
use Rattle.tokens.specs.declared.Cut.{Cut}
use Rattle.tokens.specs.Bytes.{is_letter, is_digit, is_point, is_word, is_mark, digits_at, word_at, spaces_at}
use Rattle.tokens.specs.Number.{Digits, plain_digits, point_digits, digits_from, Exponent, exponent, wrong, sign_end}
use Rattle.tokens.specs.Number.{exponent_from, decimal, number_with}
use Rattle.tokens.specs.Token.{cut_of, bad_at, number_end, number_cut, name_at, token_at, cut_at}
use Rattle.tokens.specs.Row.{Row, ahead, no_token, row_from, row_of}
use Rattle.tokens.specs.Skips.{digits_end, point_end, power_end, token_end, place_behind}
use Rattle.tokens.proofs.RowPlaces.{cut_place, cut_inside}

-- ---- a search, one token at a time

-- at the token
pub behind_here : (s : List ℕ) (left from at : ℕ) → left ≡ 0 → at ≡ from + length (spaces_at s from)
    → at ≡ place_behind left s from
unfolding place_behind
behind_here s left from at z e = rw z e

-- at one before it
pub behind_next : (s : List ℕ) (left less from at next : ℕ) → left ≡ suc less → at ≡ from + length (spaces_at s from)
    → next ≡ token_end s at → place_behind less s next ≡ place_behind left s from
unfolding place_behind
behind_next s left less from at next z e f = rw (z, f, e) refl

-- ---- where a good token ends

-- a cut ends at n, or is bad
abbrev EndsAt : ℕ → Cut → Type 0
EndsAt n c = ((fault : Fault) → c.token ≡ Bad fault → ⊥) → c.next ≡ n

bad_ends : (n : ℕ) (fault : Fault) (at : ℕ) → EndsAt n (bad_at fault at)
bad_ends n fault at h = absurd (h fault refl)

-- of either branch
either_ends : (n : ℕ) (b : Bool) (c d : Cut) → EndsAt n c → EndsAt n d → EndsAt n (cond b c d)
either_ends n true c d p q = p
either_ends n false c d p q = q

module _ (s : List ℕ) (at : ℕ) where
  -- a name
  name_ends : EndsAt (at + length (word_at s at)) (name_at s at)
  unfolding name_at
  name_ends =
      let n = length (word_at s at) in
      either_ends (at + n) (ltb name_bytes n) (bad_at LongName at) (cut_of (Name at n) at (at + n))
      (bad_ends (at + n) LongName at)
      (λ _. refl)

  -- the digits of a number
  digits_end_holds : (digits_from s at).end ≡ point_end s (digits_end s at)
  unfolding digits_from
  digits_end_holds = go (is_point (get_or s (digits_end s at) 0))
    where
      go : (b : Bool)
          → (cond b (point_digits (digits_at s at) (digits_at s (digits_end s at + 1)) (digits_end s at + 1))
          (plain_digits (digits_at s at) (digits_end s at))).end
          ≡ cond b (digits_end s (digits_end s at + 1)) (digits_end s at)
      go true = refl
      go false = refl

  -- its exponent
  abbrev StopsAt : ℕ → Exponent → Type 0
  StopsAt n wrong = Unit {0}
  StopsAt n (exponent b e stop) = stop ≡ n

  power_ends : (q : ℕ) → StopsAt (power_end s q) (exponent_from s q)
  unfolding exponent_from
  power_ends q =
      go (eqb (get_or s q 0) 69) (leb 1 (length d) && leb (length d) exponent_digits)
    where
      d : List ℕ
      d = digits_at s (sign_end s (q + 1))

      go : (b c : Bool)
          → StopsAt (cond b (digits_end s (sign_end s (q + 1))) q)
          (cond b (cond c (exponent (eqb (get_or s (q + 1) 0) 45) (decimal 0 (digits_at s (sign_end s (q + 1))))
          (sign_end s (q + 1) + length (digits_at s (sign_end s (q + 1))))) wrong) (exponent false 0 q))
      go true true = refl
      go true false = tt
      go false c = refl

  -- a number
  end_ends : (n : ℕ) (m : Digits) (x : Exponent) → StopsAt n x → EndsAt n (number_end s at m x)
  end_ends n m wrong h = bad_ends n Malformed at
  end_ends n m (exponent b e stop) h =
      either_ends n (is_word (get_or s stop 0) || is_point (get_or s stop 0)) (bad_at Malformed at)
      (cut_of (number_with m b e) at stop) (bad_ends n Malformed at) (λ _. h)

  number_ends : EndsAt (power_end s (point_end s (digits_end s at))) (number_cut s at)
  unfolding number_cut
  number_ends =
      let m = digits_from s at in
      let n = power_end s (point_end s (digits_end s at)) in
      let stops : StopsAt n (exponent_from s m.end) =
      subst (λ (q : ℕ). StopsAt (power_end s q) (exponent_from s m.end)) digits_end_holds (power_ends m.end) in
      either_ends n (eqb m.count 0) (bad_at Malformed at) (number_end s at m (exponent_from s m.end))
      (bad_ends n Malformed at)
      (end_ends n m (exponent_from s m.end) stops)

  -- any token that begins in the text
  token_ends : at < length s → EndsAt (token_end s at) (token_at s at)
  unfolding token_at token_end
  token_ends h =
      rw (lt-leb (length s) at h, lt-ltb at (length s) h)
      (go (is_letter (get_or s at 0)) (is_digit (get_or s at 0) || is_point (get_or s at 0)) (is_mark (get_or s at 0)))
    where
      go : (l f m : Bool)
          → EndsAt
          (cond l (at + length (word_at s at)) (cond f (power_end s (point_end s (digits_end s at))) (at + 1)))
          (cond l (name_at s at)
          (cond f (number_cut s at) (cond m (cut_of (Mark (get_or s at 0)) at (at + 1)) (bad_at StrayByte at))))
      go true f m = name_ends
      go false true m = number_ends
      go false false true = λ _. refl
      go false false false = bad_ends (at + 1) StrayByte at

-- so a cut that is neither the end nor bad ends where its token does
cut_next : (s : List ℕ) (from : ℕ) → ((cut_at s from).token ≡ End → ⊥)
    → ((fault : Fault) → (cut_at s from).token ≡ Bad fault → ⊥)
    → (cut_at s from).next ≡ token_end s (from + length (spaces_at s from))
unfolding cut_at
cut_next s from more good =
    let at = from + length (spaces_at s from) in
    token_ends s at (subst (λ (n : ℕ). n < length s) (cut_place s from) (cut_inside s from more)) good

-- ---- THE PLACE of a token of a row is found by skipping those before it

-- a token before a row
ahead_place : (s : List ℕ) (t : Token) (at : ℕ) (r : Row) (place : ℕ → ℕ) → place 0 ≡ at
    → (((fault : Fault) → t ≡ Bad fault → ⊥) → (t ≡ End → ⊥) → (i : ℕ) → i < length r.tokens
    → (get_or r.tokens i no_token).at ≡ place (suc i))
    → (i : ℕ) → i < length (ahead s t at r).tokens → (get_or (ahead s t at r).tokens i no_token).at ≡ place i
ahead_place s (Name p n) at r place z f zero h = sym z
ahead_place s (Name p n) at r place z f (suc i) h =
    f (λ c e. let y : ◌≡◌ {A = ℕ} 0 1 = cc in omega arith) (λ e. let y : ◌≡◌ {A = ℕ} 0 1 = cc in omega arith) i
    (omega arith)
ahead_place s (Mark b) at r place z f zero h = sym z
ahead_place s (Mark b) at r place z f (suc i) h =
    f (λ c e. let y : ◌≡◌ {A = ℕ} 0 1 = cc in omega arith) (λ e. let y : ◌≡◌ {A = ℕ} 0 1 = cc in omega arith) i
    (omega arith)
ahead_place s (Number x) at r place z f zero h = sym z
ahead_place s (Number x) at r place z f (suc i) h =
    f (λ c e. let y : ◌≡◌ {A = ℕ} 0 1 = cc in omega arith) (λ e. let y : ◌≡◌ {A = ℕ} 0 1 = cc in omega arith) i
    (omega arith)
ahead_place s End at r place z f i h = absurd (omega arith)
ahead_place s (Bad fault) at r place z f i h = absurd (omega arith)

from_place : (f : ℕ) (s : List ℕ) (from i : ℕ) → i < length (row_from f s from).tokens
    → (get_or (row_from f s from).tokens i no_token).at ≡ place_behind i s from
unfolding row_from place_behind
from_place zero s from i h = absurd (omega arith)
from_place (suc f) s from i h =
    let c = cut_at s from in
    ahead_place s c.token c.at (row_from f s c.next) (λ (k : ℕ). place_behind k s from)
    (sym (cut_place s from))
    (λ good more k l. from_place f s c.next k l ∙ ap (place_behind k s) (cut_next s from more good))
    i h

-- of the whole row
pub place_of_token : (s : List ℕ) (i : ℕ) → i < length (row_of s).tokens
    → (get_or (row_of s).tokens i no_token).at ≡ place_behind i s 0
unfolding row_of
place_of_token s i h = from_place (suc (length s)) s 0 i h
