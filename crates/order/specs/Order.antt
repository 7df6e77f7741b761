-- The order of n statements, numbered 0 .. n - 1 as they stand in the text, of which `uses i j` says that i uses j:
-- what it means.
use Rattle.std.specs.Prelude.{◌≡◌, Bool, true, false, ◌&&◌, ◌||◌, ◌⊎◌, List, [], ◌∷◌, ℕ, zero, suc, ◌+◌, ◌≤◌, ◌<◌, ltb}
use Rattle.std.specs.Prelude.{length, get_or, take}
use Rattle.laws.specs.Counts.{count, ◌∈◌}

-- a permutation of 0 .. n - 1: each number below n stands in it once, and no other number does
pub record Permutation (n : ℕ) (q : List ℕ) : Type 0 where
  pub within : (i : ℕ) → i < n → count i q ≡ 1
  pub beyond : (i : ℕ) → n ≤ i → count i q ≡ 0

-- dictionary order
infix 4 ◌≼◌
abbrev pub ◌≼◌ : List ℕ → List ℕ → Type 0
[] ≼ m = Unit {0}
(a ∷ l) ≼ [] = ⊥
(a ∷ l) ≼ (b ∷ m) = (a < b) ⊎ ((a ≡ b) × (l ≼ m))

-- f holds of some number below k
unfoldable pub any : ℕ → (ℕ → Bool) → Bool
any zero f = false
any (suc k) f =
    let r = any k f in
    f k || r

module _ (n : ℕ) (uses : ℕ → ℕ → Bool) where
  -- each statement of q stands after all that it uses: what the one at place p uses stands among the p first
  abbrev pub EachAfter : List ℕ → Type 0
  EachAfter q = (p j : ℕ) → p < length q → j < n → uses (get_or q p 0) j ≡ true → j ∈ take p q

  -- a good order, in which every value is set before use: a permutation with each statement after all it uses
  pub record Good (q : List ℕ) : Type 0 where
    pub perm : Permutation n q
    pub after : EachAfter q

  -- the order: a good order that is first of all good ones in dictionary order
  pub record First (q : List ℕ) : Type 0 where
    pub good : Good q
    pub least : (r : List ℕ) → Good r → q ≼ r

  -- i and then the members of l are a chain of statements: each uses the next
  abbrev pub Chain : ℕ → List ℕ → Type 0
  Chain i [] = i < n
  Chain i (j ∷ l) = (i < n) × (uses i j ≡ true) × Chain j l

  -- unsortable: a chain of n + 1 statements starts at i. Repetition is allowed
  abbrev pub Unsortable : ℕ → Type 0
  Unsortable i = (l : List ℕ) × (length (i ∷ l) ≡ n + 1) × Chain i l

  -- the same as a test: a chain of k statements behind i, and with i itself k + 1, starts at i
  unfoldable pub chained : ℕ → ℕ → Bool
  chained zero i = ltb i n
  chained (suc k) i = ltb i n && any n (λ j. uses i j && chained k j)

  -- as a test: a chain of n behind i
  abbrev pub unsortable : ℕ → Bool
  unsortable i = chained n i

  -- no statement is unsortable
  abbrev pub Sortable : Type 0
  Sortable = (i : ℕ) → i < n → unsortable i ≡ false
