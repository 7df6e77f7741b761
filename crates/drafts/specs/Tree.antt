-- Expressions as trees, and the five statement forms.
use Rattle.std.specs.Prelude.{ℕ, List, [], ◌∷◌, ◌++◌, Float}

-- the operations on two values, and on three
pub data Two : Type 0 where
  plus minus times over compar : Two

pub data Three : Type 0 where
  insw limit : Three

-- a number's value, a name's key, TIME, a negated tree, an operation on two trees or on three. Parentheses leave
-- nothing
pub data Tree : Type 0 where
  value : Float → Tree
  named : ℕ → Tree
  time : Tree
  negated : Tree → Tree
  two : Two → Tree → Tree → Tree
  three : Three → Tree → Tree → Tree → Tree

-- the names that a tree has, from left to right
unfoldable pub names : Tree → List ℕ
names (value x) = []
names (named k) = k ∷ []
names time = []
names (negated a) = names a
names (two o a b) = names a ++ names b
names (three o a b c) = names a ++ (names b ++ names c)

-- a constant: its name's key, and its value with the sign done
pub record Constant : Type 0 where
  pub key : ℕ
  pub worth : Float

abbrev pub constant_of : ℕ → Float → Constant
constant_of k x = record { key = k; worth = x }

-- the initial of a state: a number with the sign done, or a name
pub data Initial : Type 0 where
  plain : Float → Initial
  from : ℕ → Initial

-- what a statement says: constants; name = expression; name = INTGRL(initial, expression); PROCED outputs = the block's
-- name (inputs); ENDPRO
pub data Says : Type 0 where
  constants : List Constant → Says
  assignment : ℕ → Tree → Says
  state : ℕ → Initial → Tree → Says
  header : List ℕ → List ℕ → Says
  ending : Says
