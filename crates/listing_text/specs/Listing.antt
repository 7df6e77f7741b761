-- The listing: the verdict on a line, then the first line of each ordered statement, or of each fault line and code,
-- and line and column of its place.
use Rattle.std.specs.Prelude.{ℕ, zero, suc, ◌+◌, ◌/◌, ◌%◌, cond, List, [], ◌∷◌, ◌++◌, ltb, length}
use Rattle.limits.specs.Limits.{fault_room, program_room}
use Rattle.laws.specs.Text.{bytes}
use Rattle.laws.specs.Lists.{concat_map}
use Rattle.sheet.specs.Sheet.{Fault}
use Rattle.translator.specs.Verdict.{Decision, refused, faulty, translated, verdict_of}

-- a number in decimal digits, with at most f of them
unfoldable pub figures_in : ℕ → ℕ → List ℕ
figures_in zero n = []
figures_in (suc f) n =
    let r = figures_in f (n / 10) ++ ((48 + n % 10) ∷ []) in
    cond (ltb n 10) ((48 + n) ∷ []) r

-- n is below 10 to the n + 1, so it has at most n + 1 digits
abbrev pub figures : ℕ → List ℕ
figures n = figures_in (suc n) n

-- a line of one number, and of four with a space between, each closed by byte 10
abbrev pub line : ℕ → List ℕ
line n = figures n ++ (10 ∷ [])

abbrev pub line2 : ℕ → ℕ → List ℕ
line2 m n = figures m ++ (32 ∷ line n)

abbrev pub line4 : ℕ → ℕ → ℕ → ℕ → List ℕ
line4 k l m n = figures k ++ (32 ∷ (figures l ++ (32 ∷ line2 m n)))

-- line and code of a fault, line and column of its place
abbrev pub fault_line4 : Fault → List ℕ
fault_line4 f = line4 f.line f.code f.place f.column

-- OK and the record count, then the first line of each ordered statement; otherwise NO and the number, then the faults
unfoldable pub listing_of : Decision → List ℕ
listing_of (refused n) = bytes "NO " ++ line n
listing_of (faulty n fs) = bytes "NO " ++ (line n ++ concat_map fault_line4 fs)
listing_of (translated rs ls) = bytes "OK " ++ (line (length rs) ++ concat_map line ls)

-- the listing program lends faultRoom and programRoom bytes
unfoldable pub listing : List ℕ → List ℕ
listing text = listing_of (verdict_of text fault_room program_room)
