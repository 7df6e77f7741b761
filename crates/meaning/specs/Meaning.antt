-- The value of an expression. This knows nothing of records or of the machine that runs them.
use Rattle.std.specs.Prelude.{ℕ, cond, List, pos, get_or, Float}
use Rattle.std.specs.Float.{nan, binary64}
use Rattle.std.specs.Float.Ieee.{of_int, add, sub, mul, div, neg, lt, le}
use Rattle.drafts.specs.Tree.{Two, plus, minus, times, over, compar, Three, insw, limit, Tree, value, named, time}
use Rattle.drafts.specs.Tree.{negated, two, three}

-- ---- the value of an expression. Operators group as the tree says; each operation is IEEE 754's on f64 and rounds
-- once

-- the numbers 0 and 1
abbrev pub nought : Float
nought = of_int binary64 (pos 0)

abbrev pub unity : Float
unity = of_int binary64 (pos 1)

-- the four operations; COMPAR(A,B): 1 if A >= B, else 0. A comparison with a NaN is false (law `nan_compares`)
abbrev pub value_two : Two → Float → Float → Float
value_two plus a b = add binary64 a b
value_two minus a b = sub binary64 a b
value_two times a b = mul binary64 a b
value_two over a b = div binary64 a b
value_two compar a b = cond (le b a) unity nought

-- INSW(P,A,B): A if P < 0, else B. LIMIT(L,U,X): L if X < L, else U if X > U, else X
abbrev pub value_three : Three → Float → Float → Float → Float
value_three insw p a b = cond (lt p nought) a b
value_three limit l u x = cond (lt x l) l (cond (lt u x) u x)

-- v holds the values of the slots. `slot` gives each name its slot; TIME is slot 0
unfoldable pub value_of : (ℕ → ℕ) → List Float → Tree → Float
value_of slot v (value x) = x
value_of slot v (named k) = get_or v (slot k) nan
value_of slot v time = get_or v 0 nan
value_of slot v (negated a) = neg (value_of slot v a)
value_of slot v (two o a b) = value_two o (value_of slot v a) (value_of slot v b)
value_of slot v (three o a b c) = value_three o (value_of slot v a) (value_of slot v b) (value_of slot v c)
