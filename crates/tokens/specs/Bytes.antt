-- Which bytes are what, and the longest run of bytes of a kind. Beside each number stands its character.
use Rattle.std.specs.Prelude.{ℕ, List, Bool, ◌&&◌, ◌||◌, drop, eqb, leb}
use Rattle.laws.specs.Runs.{front_run}

-- a space
abbrev pub is_space : ℕ → Bool
is_space b = eqb b 32

-- 0 to 9
abbrev pub is_digit : ℕ → Bool
is_digit b = leb 48 b && leb b 57

-- A to Z
abbrev pub is_letter : ℕ → Bool
is_letter b = leb 65 b && leb b 90

-- a point
abbrev pub is_point : ℕ → Bool
is_point b = eqb b 46

-- what a name goes on with: letters and digits
abbrev pub is_word : ℕ → Bool
is_word b = is_letter b || is_digit b

-- the marks: / = and ( ) * + , - which stand side by side
abbrev pub is_mark : ℕ → Bool
is_mark b = eqb b 47 || (eqb b 61 || (leb 40 b && leb b 45))

-- the longest runs of spaces, of digits, and of letters and digits, from a place on
abbrev pub spaces_at : List ℕ → ℕ → List ℕ
spaces_at s i = front_run is_space (drop i s)

abbrev pub digits_at : List ℕ → ℕ → List ℕ
digits_at s i = front_run is_digit (drop i s)

abbrev pub word_at : List ℕ → ℕ → List ℕ
word_at s i = front_run is_word (drop i s)
