-- Where the tokens of a row stand: each is cut again from its own place; they rise; a bad one stands behind them all.
use Prim.Native.Nat.{ℕ, zero, suc, ◌+◌, ◌≤◌, ◌<◌}
use mathlib.Core.Path.{◌≡◌, refl, sym, ap, subst, ◌∙◌}
use mathlib.Core.Bool.{Bool, true, false, cond, ◌||◌}
use mathlib.Core.List.{List, [], ◌∷◌}
use mathlib.Core.Logic.{⊎_elim}
use native.Mathlib.Omega.{arith}
use borrow.Author.Tests.{le-leb}
use lib.Dec.{eqb, leb, ltb}
use lib.ListN.{length, get_or, drop}
use lib.Seq.{drop-drop}
use Rattle.laws.specs.Every.{Every}
use Rattle.laws.proofs.Tests.{bool_cases, lt_or_ge}
use Rattle.laws.specs.Runs.{front_run}
use Rattle.laws.proofs.Runs.{run_more, run_behind}
use Rattle.limits.specs.Limits.{name_bytes}
use Rattle.faults.specs.declared.Fault.TheVariants.{StrayByte, LongName, Malformed}
use Rattle.tokens.specs.declared.Token.{Token}
use Rattle.tokens.specs.declared.Token.TheVariants.{Name, Mark, Number, End, Bad}
use Rattle.tokens.specs.declared.Cut.{Cut}
use Rattle.tokens.specs.Bytes.{is_space, is_letter, is_digit, is_point, is_word, is_mark, spaces_at, word_at}
use Rattle.tokens.specs.Number.{Exponent, exponent, wrong, Digits, digits_from, exponent_from, number_with}
use Rattle.tokens.specs.Token.{cut_of, bad_at, number_end, number_cut, name_at, token_at, cut_at}
use Rattle.tokens.specs.Row.{Placed, Close, all_good, bad, Row, ahead, no_token, row_from, row_of}
use Rattle.tokens.specs.Seen.{Seen, token, ill, seen_of, seen_at}
use Rattle.tokens.proofs.Sound.{Inside, Sound, cut_sound}

-- ---- a cut is at its token's first byte

-- of either branch
either_at : (b : Bool) (c d : Cut) {at : ℕ} → c.at ≡ at → d.at ≡ at → (cond b c d).at ≡ at
either_at true c d p q = p
either_at false c d p q = q

name_at_holds : (s : List ℕ) (at : ℕ) → (name_at s at).at ≡ at
unfolding name_at
name_at_holds s at =
    let n = length (word_at s at) in
    either_at (ltb name_bytes n) (bad_at LongName at) (cut_of (Name at n) at (at + n)) refl refl

end_at : (s : List ℕ) (at : ℕ) (m : Digits) (x : Exponent) → (number_end s at m x).at ≡ at
end_at s at m wrong = refl
end_at s at m (exponent b e stop) =
    either_at (is_word (get_or s stop 0) || is_point (get_or s stop 0)) (bad_at Malformed at)
    (cut_of (number_with m b e) at stop) refl refl

number_at : (s : List ℕ) (at : ℕ) → (number_cut s at).at ≡ at
unfolding number_cut
number_at s at =
    let m = digits_from s at in
    let x = exponent_from s m.end in
    either_at (eqb m.count 0) (bad_at Malformed at) (number_end s at m x) refl (end_at s at m x)

token_at_holds : (s : List ℕ) (at : ℕ) → (token_at s at).at ≡ at
unfolding token_at
token_at_holds s at =
    let b = get_or s at 0 in
    let marked = cond (is_mark b) (cut_of (Mark b) at (at + 1)) (bad_at StrayByte at) in
    let figure = cond (is_digit b || is_point b) (number_cut s at) marked in
    let named = cond (is_letter b) (name_at s at) figure in
    either_at (leb (length s) at) (cut_of End at at) named refl
    (either_at (is_letter b) (name_at s at) figure (name_at_holds s at)
    (either_at (is_digit b || is_point b) (number_cut s at) marked (number_at s at)
    (either_at (is_mark b) (cut_of (Mark b) at (at + 1)) (bad_at StrayByte at) refl refl)))

module _ (s : List ℕ) (from : ℕ) where
  -- behind the spaces
  pub cut_place : (cut_at s from).at ≡ from + length (spaces_at s from)
  unfolding cut_at
  cut_place = token_at_holds s (from + length (spaces_at s from))

  -- where none stands
  no_spaces : spaces_at s (cut_at s from).at ≡ []
  no_spaces =
      ap (λ (n : ℕ). front_run is_space (drop n s)) cut_place
      ∙ ap (front_run is_space) (sym (drop-drop (length (spaces_at s from)) from s))
      ∙ run_behind is_space (drop from s)

  -- so it is cut again from there
  cut_again : cut_at s (cut_at s from).at ≡ cut_at s from
  unfolding cut_at
  cut_again =
      let at = (cut_at s from).at in
      let same : at + length (spaces_at s at) ≡ from + length (spaces_at s from) =
      omega (arith, ap length no_spaces, cut_place) in
      ap (token_at s) same

  -- what is no end stands before the end
  pub cut_inside : ((cut_at s from).token ≡ End → ⊥) → (cut_at s from).at < length s
  unfolding cut_at token_at
  cut_inside h =
      let at = from + length (spaces_at s from) in
      ⊎_elim (λ l. omega (arith, cut_place)) (λ g. absurd (h (rw (le-leb (length s) at g)))) (lt_or_ge at (length s))

  -- and is no space
  cut_solid : (cut_at s from).at < length s → is_space (get_or s (cut_at s from).at 0) ≡ false
  cut_solid h =
      let at = (cut_at s from).at in
      ⊎_elim (λ e. absurd (some (run_more is_space s at refl e))) (λ e. e) (bool_cases (is_space (get_or s at 0)))
    where
      some : {b : ℕ} {l : List ℕ} → spaces_at s (cut_at s from).at ≡ b ∷ l → ⊥
      some e = let z = sym no_spaces ∙ e in let y : ◌≡◌ {A = ℕ} 0 1 = cc in omega arith

-- ---- a place in a text at which a cut shows x
pub record Stood (s : List ℕ) (at : ℕ) (x : Seen) : Type 0 where
  pub inside : at < length s
  pub solid : is_space (get_or s at 0) ≡ false
  pub seen : seen_at s at ≡ x

-- so is that of each cut that is no end
cut_stood : (s : List ℕ) (from : ℕ) → ((cut_at s from).token ≡ End → ⊥)
    → Stood s (cut_at s from).at (seen_of s (cut_at s from).token)
cut_stood s from h =
    let l = cut_inside s from h in
    record {
      inside = l;
      solid = cut_solid s from l;
      seen = ap (λ (c : Cut). seen_of s c.token) (cut_again s from);
    }

-- ---- a row: its tokens stand from b on, each behind the one before, and so does a bad one behind them
abbrev pub RowThere : List ℕ → ℕ → List Placed → Close → Type 0
RowThere s b [] all_good = Unit {0}
RowThere s b [] (bad code at) = (b ≤ at) × Stood s at (ill code)
RowThere s b (q ∷ qs) c = (b ≤ q.at) × Stood s q.at (token q.symbol) × RowThere s (suc q.at) qs c

-- from an earlier place on
there_earlier : (s : List ℕ) (a b : ℕ) (qs : List Placed) (c : Close) → a ≤ b → RowThere s b qs c → RowThere s a qs c
there_earlier s a b [] all_good h w = tt
there_earlier s a b [] (bad code at) h w = (omega (arith, w.0), w.1)
there_earlier s a b (q ∷ qs) c h w = (omega (arith, w.0), w.1, w.2)

-- a token before a row
ahead_there : (s : List ℕ) (from : ℕ) (t : Token) (at next : ℕ) (r : Row) → from ≤ at
    → ((t ≡ End → ⊥) → Stood s at (seen_of s t)) → Sound s at t next
    → (Inside s at next → RowThere s next r.tokens r.close)
    → RowThere s from (ahead s t at r).tokens (ahead s t at r).close
ahead_there s from (Name p n) at next r h w x f = (
  h,
  w (λ e. let z : ◌≡◌ {A = ℕ} 0 1 = cc in omega arith),
  there_earlier s (suc at) next r.tokens r.close (omega (arith, x.0.onward)) (f x.0),
)
ahead_there s from (Mark b) at next r h w x f = (
  h,
  w (λ e. let z : ◌≡◌ {A = ℕ} 0 1 = cc in omega arith),
  there_earlier s (suc at) next r.tokens r.close (omega (arith, x.0.onward)) (f x.0),
)
ahead_there s from (Number v) at next r h w x f = (
  h,
  w (λ e. let z : ◌≡◌ {A = ℕ} 0 1 = cc in omega arith),
  there_earlier s (suc at) next r.tokens r.close (omega (arith, x.0.onward)) (f x.0),
)
ahead_there s from End at next r h w x f = tt
ahead_there s from (Bad fault) at next r h w x f = (h, w (λ e. let z : ◌≡◌ {A = ℕ} 0 1 = cc in omega arith))

from_there : (f : ℕ) (s : List ℕ) (from : ℕ) → RowThere s from (row_from f s from).tokens (row_from f s from).close
unfolding row_from
from_there zero s from = tt
from_there (suc f) s from =
    let c = cut_at s from in
    ahead_there s from c.token c.at c.next (row_from f s c.next) (omega (arith, cut_place s from))
    (cut_stood s from)
    (subst (λ (x : Cut). Sound s c.at x.token x.next) (cut_again s from) (cut_sound s c.at))
    (λ _. from_there f s c.next)

-- THE ROW of a text
pub row_there : (s : List ℕ) → RowThere s 0 (row_of s).tokens (row_of s).close
unfolding row_of
row_there s = from_there (suc (length s)) s 0

-- ---- what that says of its tokens
module _ (s : List ℕ) where
  -- each stands
  pub token_stood : (b : ℕ) (qs : List Placed) (c : Close) → RowThere s b qs c → (i : ℕ) → i < length qs
      → (b ≤ (get_or qs i no_token).at) × Stood s (get_or qs i no_token).at (token (get_or qs i no_token).symbol)
  token_stood b [] c w i h = absurd (omega arith)
  token_stood b (q ∷ qs) c w zero h = (w.0, w.1)
  token_stood b (q ∷ qs) c w (suc i) h =
      let m = token_stood (suc q.at) qs c w.2 i (omega arith) in (omega (arith, w.0, m.0), m.1)

  -- they rise
  pub tokens_rise : (b : ℕ) (qs : List Placed) (c : Close) → RowThere s b qs c → (i j : ℕ) → i < j → j < length qs
      → (get_or qs i no_token).at < (get_or qs j no_token).at
  tokens_rise b [] c w i j h k = absurd (omega arith)
  tokens_rise b (q ∷ qs) c w i zero h k = absurd (omega arith)
  tokens_rise b (q ∷ qs) c w zero (suc j) h k =
      let m = token_stood (suc q.at) qs c w.2 j (omega arith) in omega (arith, m.0)
  tokens_rise b (q ∷ qs) c w (suc i) (suc j) h k =
      tokens_rise (suc q.at) qs c w.2 i j (omega arith) (omega arith)

  -- a bad one stands, behind them all
  pub bad_stood : (b : ℕ) (qs : List Placed) (code at : ℕ) → RowThere s b qs (bad code at)
      → (b ≤ at) × Stood s at (ill code) × Every (λ (q : Placed). q.at < at) qs
  bad_stood b [] code at w = (w.0, w.1, tt)
  bad_stood b (q ∷ qs) code at w =
      let m = bad_stood (suc q.at) qs code at w.2 in
      (omega (arith, w.0, m.0), m.1, (omega (arith, m.0), m.2))
