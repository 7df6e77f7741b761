-- Laws of rows as code holds them: a row is held by as many kinds and arguments as it has tokens, and read back whole.
use Prim.Native.Nat.{ℕ, zero, suc, ◌<◌}
use mathlib.Core.Path.{◌≡◌, refl, ap}
use mathlib.Core.List.{List, [], ◌∷◌, map}
use native.Mathlib.Omega.{arith}
use borrow.Author.Tests.{lt-ltb}
use lib.Dec.{T}
use lib.ListN.{length, get_or}
use lib.Ieee.{binary64, fits}
use lib.Ieee.Bits.{of_bits-to_bits}
use Rattle.tokens.specs.Symbol.{Symbol, mark, number, name, word}
use Rattle.tokens.specs.Kinds.{last_word_kind}
use Rattle.tokens.specs.Held.{symbol_kind, arg_of, symbol_of, held_row}
use Rattle.tokens.proofs.Words.{symbol_word}

-- as many tokens as kinds
pub held_length : (ks us : List ℕ) → length us ≡ length ks → length (held_row ks us) ≡ length ks
unfolding held_row
held_length [] us h = refl
held_length (k ∷ ks) [] h = absurd (omega arith)
held_length (k ∷ ks) (a ∷ us) h = ap suc (held_length ks us (omega arith))

-- the token at a place is that of the two numbers there; past the end it is the mark 0
pub held_at : (ks us : List ℕ) (i : ℕ) → length us ≡ length ks
    → get_or (held_row ks us) i (mark 0) ≡ symbol_of (get_or ks i 0) (get_or us i 0)
unfolding held_row
held_at [] [] i h = refl
held_at [] (a ∷ us) i h = absurd (omega arith)
held_at (k ∷ ks) [] i h = absurd (omega arith)
held_at (k ∷ ks) (a ∷ us) zero h = refl
held_at (k ∷ ks) (a ∷ us) (suc i) h = held_at ks us i (omega arith)

-- a token that two numbers can hold: a number that binary64 has, a mark whose byte is above the other kinds
abbrev pub Holds : Symbol → Type 0
Holds (mark b) = last_word_kind < b
Holds (number x) = T (fits binary64 x)
Holds (name k) = Unit {0}
Holds (word w) = Unit {0}

abbrev pub AllHold : List Symbol → Type 0
AllHold [] = Unit {0}
AllHold (t ∷ ts) = Holds t × AllHold ts

-- it comes back
symbol_back : (t : Symbol) → Holds t → symbol_of (symbol_kind t) (arg_of t) ≡ t
symbol_back (mark b) h = rw (lt-ltb last_word_kind b h)
symbol_back (number x) h = ap number (of_bits-to_bits binary64 x h)
symbol_back (name k) h = refl
symbol_back (word w) h = symbol_word w 0

-- and so does the row
pub held_back : (ts : List Symbol) → AllHold ts → held_row (map symbol_kind ts) (map arg_of ts) ≡ ts
unfolding held_row
held_back [] h = refl
held_back (t ∷ ts) h = rw (symbol_back t h.0, held_back ts h.1)
