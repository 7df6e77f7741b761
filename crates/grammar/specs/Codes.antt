-- Tokens and drafts as code sees them, by their kinds.
use Rattle.std.specs.Prelude.{ℕ, cond, eqb, Option, Some, None}
use Rattle.std.specs.Float.{binary64}
use Rattle.std.specs.Float.Ieee.{to_bits, of_bits}
use Rattle.grammar.specs.declared.faces.Face.{Face}
use Rattle.grammar.specs.declared.faces.Face.TheVariants.{One, Group, Function}
use Rattle.drafts.specs.Tree.{compar, Tree, value, named, time, negated, two, three}
use Rattle.drafts.specs.Kinds.{kind_push, kind_fetch, kind_clock, kind_two, kind_three}
use Rattle.grammar.specs.Look.{Op, none, op, Opening, group, pair, pair_of, triple, triple_of, triple_of_two}
use Rattle.grammar.specs.Look.{FactorStart, Leaf, Paren, Call, NoFactor}

-- the kind of an operator's draft
abbrev pub kind_op : Op → Option ℕ
kind_op none = None
kind_op (op o) = Some (kind_two o)

-- the tokens that a sign takes
abbrev pub skip_of : Op → ℕ
skip_of none = 0
skip_of (op o) = 1

-- how many expressions an opening still wants, and the kind of the draft behind them, if there is one
abbrev pub want_of : Opening → ℕ
want_of group = 1
want_of pair = 2
want_of (pair_of a) = 1
want_of (triple o) = 3
want_of (triple_of o a) = 2
want_of (triple_of_two o a b) = 1

abbrev pub kind_opening : Opening → Option ℕ
kind_opening group = None
kind_opening pair = Some (kind_two compar)
kind_opening (pair_of a) = Some (kind_two compar)
kind_opening (triple o) = Some (kind_three o)
kind_opening (triple_of o a) = Some (kind_three o)
kind_opening (triple_of_two o a b) = Some (kind_three o)

-- the kind of a draft that is a whole expression, and its argument by the token's
abbrev pub leaf_kind : Tree → ℕ
leaf_kind (value x) = kind_push
leaf_kind (named k) = kind_fetch
leaf_kind time = kind_clock
leaf_kind (negated a) = 0
leaf_kind (two o a b) = 0
leaf_kind (three o a b c) = 0

abbrev pub leaf_arg : ℕ → ℕ → ℕ
leaf_arg k a = cond (eqb k kind_push) (to_bits binary64 (of_bits binary64 a)) (cond (eqb k kind_fetch) a 0)

-- what a token begins as a factor: parentheses and functions by their openings
abbrev pub face_opening : ℕ → Option ℕ → Face
face_opening n None = Group
face_opening n (Some k) = Function n k

abbrev pub face_of : FactorStart → Option Face
face_of (Leaf e) = Some (One (leaf_kind e))
face_of Paren = Some Group
face_of (Call p) = Some (face_opening (want_of p) (kind_opening p))
face_of NoFactor = None
