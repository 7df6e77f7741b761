-- A number as a list of bytes, low first.
use Rattle.std.specs.Prelude.{ℕ, zero, suc, ◌+◌, ◌*◌, ◌/◌, ◌%◌, List, [], ◌∷◌}

-- the n lowest bytes of v
unfoldable pub low_bytes : ℕ → ℕ → List ℕ
low_bytes zero v = []
low_bytes (suc n) v = v % 256 ∷ low_bytes n (v / 256)

-- the number that bytes are, low first
unfoldable pub low_word : List ℕ → ℕ
low_word [] = 0
low_word (b ∷ bs) = b + 256 * low_word bs
