-- Postfix, operands left to right: what an expression writes, with names in the places of their slots.
use Rattle.std.specs.Prelude.{ℕ, ◌+◌, max, List, [], ◌∷◌, ◌++◌, Float}
use Rattle.drafts.specs.Tree.{Two, Three, Tree, value, named, time, negated, two, three}
use Rattle.drafts.specs.Tree.{Says, constants, assignment, state, header, ending}

-- push a value, push what a name holds, push TIME, negate, an operation on two values or on three
pub data Item : Type 0 where
  push : Float → Item
  fetch : ℕ → Item
  clock negate : Item
  apply_two : Two → Item
  apply_three : Three → Item

unfoldable pub postfix : Tree → List Item
postfix (value x) = push x ∷ []
postfix (named k) = fetch k ∷ []
postfix time = clock ∷ []
postfix (negated a) = postfix a ++ (negate ∷ [])
postfix (two o a b) = postfix a ++ (postfix b ++ (apply_two o ∷ []))
postfix (three o a b c) = postfix a ++ (postfix b ++ (postfix c ++ (apply_three o ∷ [])))

-- ---- how many values stand at once at most while it runs: operands are worked out from left to right, each above
-- those before it
unfoldable pub peak : Tree → ℕ
peak (value x) = 1
peak (named k) = 1
peak time = 1
peak (negated a) = peak a
peak (two o a b) = max (peak a) (1 + peak b)
peak (three o a b c) = max (peak a) (max (1 + peak b) (2 + peak c))

-- for a statement: constants and the two ends of a block work out nothing
abbrev pub peak_of : Says → ℕ
peak_of (constants cs) = 0
peak_of (assignment k e) = peak e
peak_of (state k i e) = peak e
peak_of (header os is) = 0
peak_of ending = 0
