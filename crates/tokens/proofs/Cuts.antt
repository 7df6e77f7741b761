-- A cut, from what its pieces ensure.
use Prim.Native.Nat.{ℕ, ◌+◌, ◌<◌, ◌≤◌}
use mathlib.Core.Path.{◌≡◌, refl, ap}
use mathlib.Core.Bool.{true, false, ◌&&◌, ◌||◌}
use mathlib.Core.List.{List}
use mathlib.Core.Logic.{⊎_elim}
use native.Mathlib.Omega.{arith}
use borrow.Author.Tests.{lt-ltb, le-ltb, le-leb, lt-leb, leb-true, eqb-true, ne_eqb}
use lib.Dec.{eqb, leb}
use lib.ListN.{length, get_or}
use Rattle.laws.proofs.Tests.{and_true, or_true}
use Rattle.limits.specs.Limits.{name_bytes}
use Rattle.faults.specs.declared.Fault.TheVariants.{StrayByte, LongName}
use Rattle.tokens.specs.declared.Cut.{Cut}
use Rattle.tokens.specs.declared.Token.TheVariants.{Name, Mark, End}
use Rattle.tokens.specs.Bytes.{is_letter, is_digit, is_point, is_mark, word_at, spaces_at}
use Rattle.tokens.specs.Names.{name_count}
use Rattle.tokens.specs.Token.{cut_of, bad_at, number_cut, name_at, token_at, cut_at}

-- ---- the name, with the count of its letters and digits
module _ (s : List ℕ) (at n : ℕ) (read : n ≡ name_count s at) where
  -- too many
  pub name_long : name_bytes < n → bad_at LongName at ≡ name_at s at
  unfolding name_at
  name_long h =
      let l : name_bytes < length (word_at s at) = omega arith in rw (lt-ltb name_bytes (length (word_at s at)) l)

  -- a name
  pub name_fine : n ≤ name_bytes → cut_of (Name at n) at (at + n) ≡ name_at s at
  unfolding name_at
  name_fine h =
      let e : n ≡ length (word_at s at) = omega arith in
      let l : length (word_at s at) ≤ name_bytes = omega arith in
      rw (e, le-ltb name_bytes (length (word_at s at)) l)

-- ---- the token, by its first byte

-- no mark begins a number
mark_no_figure : (b : ℕ) → is_mark b ≡ true → (is_digit b || is_point b) ≡ false
mark_no_figure b m =
    ⊎_elim (λ e. below (omega (arith, eqb-true b 47 e)) (λ f. omega (arith, eqb-true b 47 e))) others
    (or_true (eqb b 47) _ m)
  where
    below : b < 48 → (b ≡ 46 → ⊥) → (is_digit b || is_point b) ≡ false
    below h n = rw (lt-leb 48 b h, ne_eqb b 46 n)

    equals : b ≡ 61 → (is_digit b || is_point b) ≡ false
    equals e = rw e refl

    block : (leb 40 b && leb b 45) ≡ true → (is_digit b || is_point b) ≡ false
    block t = let h = leb-true b 45 (and_true (leb 40 b) (leb b 45) t).1 in below (omega arith) (λ e. omega arith)

    others : (eqb b 61 || (leb 40 b && leb b 45)) ≡ true → (is_digit b || is_point b) ≡ false
    others t = ⊎_elim (λ e. equals (eqb-true b 61 e)) block (or_true (eqb b 61) _ t)

module _ (s : List ℕ) (from at : ℕ) (read : at ≡ from + length (spaces_at s from)) where
  -- the spaces are passed
  begins : token_at s at ≡ cut_at s from
  unfolding cut_at
  begins = ap (token_at s) read

  -- no byte is left
  pub at_end : length s ≤ at → cut_of End at at ≡ cut_at s from
  unfolding token_at
  at_end h = rw (← begins, le-leb (length s) at h)

  -- a byte is there
  module _ (b : ℕ) (within : at < length s) (here : b ≡ get_or s at 0) where
    -- a letter begins a name
    pub at_letter : is_letter b ≡ true → (c : Cut) → c ≡ name_at s at → c ≡ cut_at s from
    unfolding token_at
    at_letter l c e = rw (← begins, lt-leb (length s) at within, ← here, l) e

    module _ (no_letter : is_letter b ≡ false) where
      pub at_figure : (is_digit b || is_point b) ≡ true → (c : Cut) → c ≡ number_cut s at → c ≡ cut_at s from
      unfolding token_at
      at_figure f c e = rw (← begins, lt-leb (length s) at within, ← here, no_letter, f) e

      -- a mark is no figure
      pub at_mark : is_mark b ≡ true → cut_of (Mark b) at (at + 1) ≡ cut_at s from
      unfolding token_at
      at_mark m = rw (← begins, lt-leb (length s) at within, ← here, no_letter, mark_no_figure b m, m)

      pub at_other : is_mark b ≡ false → (is_digit b || is_point b) ≡ false → (c : Cut) → c ≡ bad_at StrayByte at
          → c ≡ cut_at s from
      unfolding token_at
      at_other m f c e = rw (← begins, lt-leb (length s) at within, ← here, no_letter, f, m) e
