-- The names that the statements of a text set are spelled out: the bytes of each key are those of its name.
use Prim.Native.Nat.{ℕ, zero, suc, ◌+◌, ◌-◌, ◌*◌, ◌/◌, ◌%◌, ◌≤◌, ◌<◌}
use mathlib.Core.Path.{◌≡◌, refl, ap}
use mathlib.Core.Bool.{Bool, true, false, ◌||◌}
use mathlib.Core.List.{List, [], ◌∷◌, ◌++◌, map}
use native.Mathlib.Nat.{sub-zero}
use native.Mathlib.Omega.{arith}
use borrow.Author.Tests.{ltb-false}
use lib.Dec.{eqb, leb, ltb}
use lib.ListN.{length, get_or, take, drop, replicate}
use Rattle.laws.specs.Runs.{front_run}
use Rattle.laws.specs.Every.{Every}
use Rattle.laws.proofs.Every.{every_right}
use Rattle.laws.proofs.Runs.{all_pass, run_run, run_take}
use Rattle.laws.proofs.Tests.{cond_ind}
use Rattle.limits.specs.Limits.{name_bytes}
use Rattle.bits.specs.Low.{low_bytes, low_word}
use Rattle.faults.specs.declared.Fault.TheVariants.{StrayByte, LongName, Malformed, OutOfRange}
use Rattle.tokens.specs.declared.Token.{Token}
use Rattle.tokens.specs.declared.Token.TheVariants.{Name as Named, Mark, Number, End, Bad}
use Rattle.tokens.specs.declared.Cut.{Cut}
use Rattle.tokens.specs.Bytes.{is_letter, is_digit, is_point, is_mark, is_word, word_at, spaces_at}
use Rattle.tokens.specs.Number.{Digits, digits_from, Exponent, exponent, wrong, exponent_from, scaled, in_range}
use Rattle.tokens.specs.Number.{ranged_number, number_with}
use Rattle.tokens.specs.Token.{cut_of, bad_at, number_end, number_cut, name_at, token_at, cut_at}
use Rattle.tokens.specs.Symbol.{Symbol, mark, number, name, word, key_of}
use Rattle.tokens.specs.Row.{Row, ahead, row_from, row_of, symbols}
use Rattle.tokens.specs.Values.{Name}
use Rattle.tokens.proofs.Words.{symbol_ind}
use Rattle.tokens.proofs.Keys.{key_below}
use Rattle.drafts.specs.Tree.{Constant, Says}
use Rattle.grammar.specs.Grammar.{Many, one, more}
use Rattle.grammar.specs.Grammar.{Derives, of_constants, of_assignment, of_state, of_header, of_ending}
use Rattle.sheet.specs.Sheet.{says, Numbered, said}
use Rattle.sheet.specs.Reader.{sheet_of}
use Rattle.blocks.specs.Members.{settings_by}
use Rattle.meaning.specs.EverySlot.{Spelled}
use Rattle.meaning.proofs.EachSaid.{each_said}

-- ---- the bytes of a key

-- where all members are letters and digits, the first is a byte
first_byte : (x : ℕ) (xs : List ℕ) → front_run is_word (x ∷ xs) ≡ x ∷ xs → x < 256
unfolding front_run low_word
first_byte x xs e = let t = (all_pass is_word x xs e).0 in omega (arith, key_below (x ∷ []) (rw t))

-- the low bytes of 0 are zeros
bytes_none : (w : ℕ) → low_bytes w 0 ≡ replicate w 0
unfolding low_bytes
bytes_none zero = refl
bytes_none (suc w) = ap (λ (l : List ℕ). 0 ∷ l) (bytes_none w)

-- those of a key are its name's letters and digits, filled up with zeros
bytes_filled : (n : List ℕ) (w : ℕ) → front_run is_word n ≡ n → length n ≤ w
    → low_bytes w (key_of n) ≡ n ++ replicate (w - length n) 0
unfolding low_bytes low_word
bytes_filled [] w t h = rw (sub-zero w) (bytes_none w)
bytes_filled (x ∷ n) zero t h = absurd (omega arith)
bytes_filled (x ∷ n) (suc w) t h =
    let b = first_byte x n t in
    let low : (x + 256 * low_word n) % 256 ≡ x = omega arith in
    let high : (x + 256 * low_word n) / 256 ≡ low_word n = omega arith in
    let left : suc w - suc (length n) ≡ w - length n = omega arith in
    rw (low, high, left)
    (ap (λ (l : List ℕ). x ∷ l) (bytes_filled n w (all_pass is_word x n t).1 (omega arith)))

-- so a name is spelled out by its key
spelled_key : (n : List ℕ) → Name n → Spelled (key_of n)
spelled_key n a =
    record { name = n; is_name = a; key = refl; filled = bytes_filled n 8 a.spelled (omega (arith, a.few)) }

-- ---- rows of tokens

-- of a token: where it is a name token, its bytes are a name
abbrev NamedIn : List ℕ → Token → Type 0
NamedIn s (Named p n) = Name (take n (drop p s))
NamedIn s (Mark b) = Unit {0}
NamedIn s (Number x) = Unit {0}
NamedIn s End = Unit {0}
NamedIn s (Bad code) = Unit {0}

module _ (s : List ℕ) where
  -- of a cut
  abbrev Good : Cut → Type 0
  Good c = NamedIn s c.token

  -- a number is no name: by m and k
  ranged_good : (m up down : ℕ) → NamedIn s (ranged_number m up down)
  unfolding ranged_number
  ranged_good m up down =
      cond_ind (NamedIn s) (in_range m up down) (Number (scaled m up down)) (Bad OutOfRange) (λ _. tt) (λ _. tt)

  -- by the sign of the exponent
  signed_good : (m : Digits) (minus : Bool) (e : ℕ) → NamedIn s (number_with m minus e)
  signed_good m true e = ranged_good m.amount 0 (e + m.after)
  signed_good m false e = ranged_good m.amount e m.after

  -- by what stands behind the digits
  end_good : (at : ℕ) (m : Digits) (e : Exponent) → Good (number_end s at m e)
  end_good at m wrong = tt
  end_good at m (exponent minus e stop) =
      cond_ind Good (is_word (get_or s stop 0) || is_point (get_or s stop 0)) (bad_at Malformed at)
      (cut_of (number_with m minus e) at stop) (λ _. tt) (λ _. signed_good m minus e)

  -- by the digits
  number_good : (at : ℕ) → Good (number_cut s at)
  unfolding number_cut
  number_good at =
      let m = digits_from s at in
      cond_ind Good (eqb m.count 0) (bad_at Malformed at) (number_end s at m (exponent_from s m.end)) (λ _. tt)
      (λ _. end_good at m (exponent_from s m.end))

  -- a name has letters and digits, and not too many
  name_good : (at : ℕ) → Good (name_at s at)
  unfolding name_at
  name_good at =
      let n = length (word_at s at) in
      cond_ind Good (ltb name_bytes n) (bad_at LongName at) (cut_of (Named at n) at (at + n)) (λ _. tt)
      (λ t. rw (run_take is_word (drop at s))
      (record { spelled = run_run is_word (drop at s); few = ltb-false name_bytes n t }))

  -- each cut, by its first byte
  cut_good : (from : ℕ) → Good (cut_at s from)
  unfolding cut_at token_at
  cut_good from =
      let at = from + length (spaces_at s from) in
      let b = get_or s at 0 in
      cond_ind Good (leb (length s) at) (cut_of End at at) _ (λ _. tt)
      (λ _. cond_ind Good (is_letter b) (name_at s at) _ (λ _. name_good at)
      (λ _. cond_ind Good (is_digit b || is_point b) (number_cut s at) _ (λ _. number_good at)
      (λ _. cond_ind Good (is_mark b) (cut_of (Mark b) at (at + 1)) (bad_at StrayByte at) (λ _. tt) (λ _. tt))))

-- of what the grammar sees: a name is spelled out
abbrev SpelledToken : Symbol → Type 0
SpelledToken (mark b) = Unit {0}
SpelledToken (number x) = Unit {0}
SpelledToken (name k) = Spelled k
SpelledToken (word w) = Unit {0}

-- of a row
abbrev SpelledRow : Row → Type 0
SpelledRow r = Every SpelledToken (symbols r.tokens)

-- by its first token
ahead_spelled : (s : List ℕ) (t : Token) (at : ℕ) (r : Row) → NamedIn s t → SpelledRow r → SpelledRow (ahead s t at r)
ahead_spelled s (Named p n) at r a h =
    let part = take n (drop p s) in (symbol_ind part SpelledToken (λ _. tt) (spelled_key part a), h)
ahead_spelled s (Mark b) at r a h = (tt, h)
ahead_spelled s (Number x) at r a h = (tt, h)
ahead_spelled s End at r a h = tt
ahead_spelled s (Bad code) at r a h = tt

-- from any place on
from_spelled : (f : ℕ) (s : List ℕ) (i : ℕ) → SpelledRow (row_from f s i)
unfolding row_from
from_spelled zero s i = tt
from_spelled (suc f) s i =
    let c = cut_at s i in
    ahead_spelled s c.token c.at (row_from f s c.next) (cut_good s i) (from_spelled f s c.next)

-- each name of a row
row_spelled : (s : List ℕ) → SpelledRow (row_of s)
unfolding row_of
row_spelled s = from_spelled (suc (length s)) s 0

-- ---- statements

-- each name that it sets is spelled out
abbrev SpelledSays : Says → Type 0
SpelledSays x = Every Spelled (settings_by x)

-- constants
many_spelled : {w : List Symbol} {cs : List Constant} → Many w cs → Every SpelledToken w
    → Every Spelled (map (λ (c : Constant). c.key) cs)
many_spelled (one a) r = (r.0, tt)
many_spelled (more {w = w} {s = s} a b) r =
    (r.0, many_spelled b (every_right SpelledToken w (mark 44 ∷ s) r.1.1).1)

-- by the grammar
says_spelled : {d : ℕ} {w : List Symbol} {x : Says} → Derives d w x → Every SpelledToken w → SpelledSays x
says_spelled (of_constants h a) r = many_spelled a r.1
says_spelled (of_assignment a) r = (r.0, tt)
says_spelled (of_state a b) r = (r.0, tt)
says_spelled (of_header k os is) r = tt
says_spelled of_ending r = tt

-- EACH NAME that a statement of a text sets is spelled out
pub spelled_text : (text : List ℕ)
    → Every (λ (s : Numbered). Every Spelled (settings_by s.says)) (said (sheet_of text))
spelled_text = each_said SpelledSays (λ s x a. says_spelled a (row_spelled s))
