-- A name as code reads it: its letters and digits are counted up to one more than a name may have, which is too many
-- already.
use Rattle.std.specs.Prelude.{ℕ, ◌+◌, min, List, length}
use Rattle.limits.specs.Limits.{name_bytes}
use Rattle.tokens.specs.Bytes.{word_at}

-- the count
abbrev pub name_count : List ℕ → ℕ → ℕ
name_count s at = min (name_bytes + 1) (length (word_at s at))
