-- The listing as code writes it: by a verdict's number and counts, from the bytes of a fault list or from the order
-- that was handed out. Every read past an end gives 0.
use Rattle.std.specs.Prelude.{ℕ, ◌+◌, ◌*◌, ◌<◌, cond, List, ◌∷◌, ◌++◌, eqb, length, get_or}
use Rattle.limits.specs.Limits.{fault_bytes}
use Rattle.laws.specs.Text.{bytes}
use Rattle.laws.specs.Places.{gather}
use Rattle.records.specs.Record.{field}
use Rattle.listing_text.specs.Listing.{line, line4}

-- line and code of fault i of a list, line and column of its place
abbrev pub fault_at : List ℕ → ℕ → List ℕ
fault_at list i =
    let o = i * fault_bytes in
    line4 (field list o 2) (field list (o + 2) 1) (field list (o + 4) 2) (field list (o + 6) 2)

-- the first line of ordered unit i
abbrev pub ordered_at : List ℕ → ℕ → List ℕ
ordered_at order i = line (get_or order i 0)

-- two letters, a space and a number
abbrev pub head : ℕ → ℕ → ℕ → List ℕ
head a b n = a ∷ b ∷ 32 ∷ line n

-- OK and the count, then the lines of so many statements; otherwise NO and the number, then the faults
unfoldable pub written : ℕ → ℕ → ℕ → List ℕ → List ℕ → List ℕ
written number count statements faults order =
    cond (eqb number 0) ((bytes "OK " ++ line count) ++ gather (ordered_at order) statements 0)
    ((bytes "NO " ++ line number) ++ gather (fault_at faults) count 0)

-- what is to be written from a place on ends at a place that is a number of the machine
abbrev pub InReach : List ℕ → ℕ → Type 0
InReach what at = at + length what < 0x4000_0000_0000_0000
