-- Line numbers raised and moved, and what two lists share: what demand 3, and that comments change nothing, are said
-- with.
use Rattle.std.specs.Prelude.{ℕ, ◌+◌, ◌≤◌, ◌<◌, ◌≡◌, cond, List, ◌++◌, map, ltb}
use Rattle.laws.specs.Every.{Every}
use Rattle.deck.specs.Reading.{Statement, State, fresh, inside}
use Rattle.deck.specs.Reports.{Report}

-- ---- numbers raised by k
abbrev pub later : ℕ → Statement → Statement
later k s = record { first = k + s.first; lines = s.lines; closed = s.closed }

abbrev pub later_state : ℕ → State → State
later_state k fresh = fresh
later_state k (inside f ls) = inside (k + f) ls

-- a report with the number that g gives for its own
abbrev pub renumber : {A : Type 0} → (ℕ → ℕ) → Report A → Report A
renumber g r = record { line = g r.line; what = r.what }

abbrev pub later_report : {A : Type 0} → ℕ → Report A → Report A
later_report k = renumber (λ (n : ℕ). k + n)

-- ---- a number moved by one line more, which stands behind line n
abbrev pub line_moved : ℕ → ℕ → ℕ
line_moved n k = cond (ltb n k) (k + 1) k

-- ---- what two lists share

-- both begin with the same
pub record Begin {A : Type 0} (front a b : List A) : Type 0 where
  pub rest_old : List A
  pub rest_new : List A
  pub old : a ≡ front ++ rest_old
  pub new : b ≡ front ++ rest_new

-- a list ends with the tail, its numbers raised by n. The tail starts behind line n; what stands before it, the front
-- first, starts on line n at the latest
pub record Ends {A : Type 0} (line : A → ℕ) (raise : ℕ → A → A) (front tail : List A) (n : ℕ) (all : List A) : Type 0
  where
    pub between : List A
    pub parts : all ≡ (front ++ between) ++ map (raise n) tail
    pub before : Every (λ (x : A). line x ≤ n) (front ++ between)
    pub behind : Every (λ (x : A). n < line x) (map (raise n) tail)

-- both begin with the same and end with the same, but that numbers are raised by m in the one and by n in the other
pub record Share {A : Type 0} (line : A → ℕ) (raise : ℕ → A → A) (front tail : List A) (m n : ℕ) (a b : List A) : Type 0
  where
    pub old : Ends line raise front tail m a
    pub new : Ends line raise front tail n b
