-- Any two outcomes that the contract of an open entry allows are equal.
use Prim.Native.Nat.{ℕ}
use mathlib.Core.Path.{sym, ◌∙◌}
use mathlib.Core.List.{List}
use lib.Ieee.{Float}
use Rattle.laws.specs.Agree.{Agree}
use Rattle.bits.specs.Contract.{Widens, Indexes, ReadsByte, ReadsShort, ReadsWord, TakesLeast, LeavesRoom}
use Rattle.bits.specs.Contract.{GetsLow, PutsBytes, PutsLow, PutsEight, PutsAt, GivesFloat, GivesBits}

-- ---- numbers of lists
pub wide : (byte : ℕ) → Agree (Widens byte)
wide byte r s p q = p.0 ∙ sym q.0

pub index : (x : ℕ) → Agree (Indexes x)
index x r s p q = p.0 ∙ sym q.0

pub byte_at : (s : List ℕ) (i : ℕ) → Agree (ReadsByte s i)
byte_at l i r s p q = p ∙ sym q

pub short_at : (s : List ℕ) (i : ℕ) → Agree (ReadsShort s i)
short_at l i r s p q = p.0 ∙ sym q.0

pub word_at : (s : List ℕ) (i : ℕ) → Agree (ReadsWord s i)
word_at l i r s p q = p ∙ sym q

pub put : {A : Type 0} (s : List A) (i : ℕ) (v : A) → Agree (PutsAt s i v)
put s i v a b p q = p ∙ sym q

-- ---- numbers as bytes
pub least : (x y : ℕ) → Agree (TakesLeast x y)
least x y r s p q = p ∙ sym q

pub room : (end at n : ℕ) → Agree (LeavesRoom end at n)
room end at n r s p q = p ∙ sym q

pub get_low : (part : List ℕ) (n : ℕ) → Agree (GetsLow part n)
get_low part n r s p q = p.0 ∙ sym q.0

pub put_bytes : (buf : List ℕ) (at : ℕ) (from : List ℕ) → Agree (PutsBytes buf at from)
put_bytes buf at from a b p q = p ∙ sym q

pub put_low : (buf : List ℕ) (at n v : ℕ) → Agree (PutsLow buf at n v)
put_low buf at n v a b p q = p ∙ sym q

pub put_eight : (buf : List ℕ) (at v : ℕ) → Agree (PutsEight buf at v)
put_eight buf at v a b p q = p ∙ sym q

-- ---- floats as their bits
pub float_of : (bits : ℕ) → Agree (GivesFloat bits)
float_of bits r s p q = p ∙ sym q

pub bits_of : (x : Float) → Agree (GivesBits x)
bits_of x r s p q = p ∙ sym q
