-- The order, worked out: place the least statement all of whose used are placed, again and again.
use Rattle.std.specs.Prelude.{◌≡◌, Bool, true, not, cond, ◌&&◌, ◌||◌, List, [], ◌∷◌, ◌++◌, ℕ, zero, suc, ◌<◌, ltb}
use Rattle.laws.specs.Counts.{count, has}

-- f holds of each number below k
unfoldable pub all : ℕ → (ℕ → Bool) → Bool
all zero f = true
all (suc k) f =
    let r = all k f in
    f k && r

-- the least of the k numbers from i on at which f holds; i + k where there is none
unfoldable pub first : (ℕ → Bool) → ℕ → ℕ → ℕ
first f zero i = i
first f (suc k) i =
    let r = first f k (suc i) in
    cond (f i) i r

module _ (n : ℕ) (uses : ℕ → ℕ → Bool) where
  -- i is not placed, and all that it uses is
  unfoldable pub ready : List ℕ → ℕ → Bool
  ready placed i = not (has i placed) && all n (λ j. not (uses i j) || has j placed)

  -- the least that is ready, n where none is
  unfoldable pub least_ready : List ℕ → ℕ
  least_ready placed = first (ready placed) n 0

  -- place the least that is ready, k times or until none is
  unfoldable pub place : ℕ → List ℕ → List ℕ
  place zero placed = placed
  place (suc k) placed =
      let i = least_ready placed in
      let r = place k (placed ++ (i ∷ [])) in
      cond (ltb i n) r placed

  -- all that can be placed
  unfoldable pub order : List ℕ
  order = place n []

  -- left over: a statement that the order lacks
  abbrev pub LeftOver : ℕ → Type 0
  LeftOver i = (i < n) × (count i order ≡ 0)

  -- the same as a test
  abbrev pub left_over : ℕ → Bool
  left_over i = not (has i order)
