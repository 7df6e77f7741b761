-- What the open entries promise: r is the answer, b the buffer afterwards.
use Rattle.std.specs.Prelude.{ℕ, ◌-◌, ◌<◌, ◌^◌, min, ◌≡◌, List, get_or, set, take, Float}
use Rattle.std.proofs.lemmas.List.Edits.{sets}
use Rattle.std.specs.Float.{binary64}
use Rattle.std.specs.Float.Ieee.{to_bits, of_bits}
use Rattle.bits.specs.Low.{low_bytes, low_word}

-- ---- numbers of lists

-- `wide`: the same number as the byte
abbrev pub Widens : ℕ → ℕ → Type 0
Widens byte r = (r ≡ byte) × (r < 256)

-- `index`: the same number as that of two bytes
abbrev pub Indexes : ℕ → ℕ → Type 0
Indexes x r = (r ≡ x) × (r < 65536)

-- `byte_at`: the byte at place i, 0 past the end
abbrev pub ReadsByte : List ℕ → ℕ → ℕ → Type 0
ReadsByte s i r = r ≡ get_or s i 0

-- `short_at`: the number of two bytes at place i, 0 past the end
abbrev pub ReadsShort : List ℕ → ℕ → ℕ → Type 0
ReadsShort s i r = (r ≡ get_or s i 0) × (r < 65536)

-- `word_at`: the number of eight bytes at place i, 0 past the end
abbrev pub ReadsWord : List ℕ → ℕ → ℕ → Type 0
ReadsWord s i r = r ≡ get_or s i 0

-- `put`: this value stands at place i, if there is one; the others are as lent
abbrev pub PutsAt : {A : Type 0} → List A → ℕ → A → List A → Type 0
PutsAt s i v s' = s' ≡ set s i v

-- ---- numbers as bytes

-- `least`: the lesser of two numbers
abbrev pub TakesLeast : ℕ → ℕ → ℕ → Type 0
TakesLeast x y r = r ≡ min x y

-- `room`: how many of n places from a place on stand before an end
abbrev pub LeavesRoom : ℕ → ℕ → ℕ → ℕ → Type 0
LeavesRoom end at n r = r ≡ min (end - at) n

-- `get_low`: the number that the first n bytes are, or as many as there are; of more than eight the first eight
abbrev pub GetsLow : List ℕ → ℕ → ℕ → Type 0
GetsLow part n r = (r ≡ low_word (take (min n 8) part)) × (r < 256 ^ min n 8)

-- `put_bytes`: these bytes stand from a place on, as far as there are places; the others are as lent
abbrev pub PutsBytes : List ℕ → ℕ → List ℕ → List ℕ → Type 0
PutsBytes buf at from b = b ≡ sets buf at from

-- `put_low`: the n lowest bytes of v stand from a place on, as far as there are places; the others are as lent
abbrev pub PutsLow : List ℕ → ℕ → ℕ → ℕ → List ℕ → Type 0
PutsLow buf at n v b = b ≡ sets buf at (low_bytes n v)

-- `put_eight`: the eight lowest bytes of v, likewise
abbrev pub PutsEight : List ℕ → ℕ → ℕ → List ℕ → Type 0
PutsEight buf at v b = b ≡ sets buf at (low_bytes 8 v)

-- ---- floats as their bits

-- `float_of`: the float of a bit pattern; all patterns of a NaN are the one NaN
abbrev pub GivesFloat : ℕ → Float → Type 0
GivesFloat bits r = r ≡ of_bits binary64 bits

-- `bits_of`: the bit pattern of a float; a NaN has one pattern
abbrev pub GivesBits : Float → ℕ → Type 0
GivesBits x r = r ≡ to_bits binary64 x
