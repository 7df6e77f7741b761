-- A text is a list of bytes. Its lines, and what a line is by itself.
use Rattle.std.specs.Prelude.{ℕ, zero, suc, ◌-◌, Bool, true, false, ◌&&◌, ◌||◌, List, [], ◌∷◌, get_or, eqb, leb}

abbrev pub Line : Type 0
Line = List ℕ

-- byte b in front of what the rest was cut into; a byte 10 ends an empty line
abbrev pub cut : Bool → ℕ → List Line → List Line
cut true b ls = [] ∷ ls
cut false b [] = (b ∷ []) ∷ []
cut false b (l ∷ ls) = (b ∷ l) ∷ ls

-- lines end at byte 10, which is no part of them; a last line without it counts if it isn't empty
unfoldable pub lines_of : List ℕ → List Line
lines_of [] = []
lines_of (b ∷ t) = cut (eqb b 10) b (lines_of t)

-- one more byte in front of a line of which n bytes are kept: a space in front of nothing kept goes too
abbrev pub kept : Bool → ℕ → ℕ
kept true zero = zero
kept true (suc n) = suc (suc n)
kept false n = suc n

-- the length of a line, trailing spaces aside
unfoldable pub trimmed : Line → ℕ
trimmed [] = 0
trimmed (b ∷ l) = kept (eqb b 32) (trimmed l)

-- three points stand before place n
abbrev pub dots_at : Line → ℕ → Bool
dots_at l n = leb 3 n && (eqb (get_or l (n - 1) 0) 46 && (eqb (get_or l (n - 2) 0) 46 && eqb (get_or l (n - 3) 0) 46))

-- the last three bytes, trailing spaces aside, are `...`
unfoldable pub dotted : Line → Bool
dotted l = dots_at l (trimmed l)

-- a first byte * always makes a comment, only spaces (or nothing) make a blank
abbrev pub starred : Line → Bool
starred l = eqb (get_or l 0 0) 42

abbrev pub blank : Line → Bool
blank l = eqb (trimmed l) 0

-- on a fresh line both are passed over at any length
unfoldable pub passed : Line → Bool
passed l = starred l || blank l
