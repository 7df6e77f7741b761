-- What a token can be at its place: the next one of a row, an operator, what begins a factor, what begins a statement
-- or a part of one.
use Rattle.std.specs.Prelude.{ℕ, Bool, true, false, cond, List, [], ◌∷◌, eqb, Float}
use Rattle.tokens.specs.Symbol.{CONSTANTS, INTGRL, TIME, INSW, LIMIT, COMPAR, PROCED, ENDPRO, Symbol, mark, number}
use Rattle.tokens.specs.Symbol.{name, word}
use Rattle.drafts.specs.Tree.{Two, plus, minus, times, over, compar, Three, insw, limit, Tree, value, named, time}
use Rattle.drafts.specs.Tree.{negated, two, three}

-- past the last token stands the mark 0, which begins nothing and continues nothing
unfoldable pub next : List Symbol → Symbol
next [] = mark 0
next (t ∷ s) = t

unfoldable pub rest : List Symbol → List Symbol
rest [] = []
rest (t ∷ s) = s

-- a mark's byte, 0 of any other token
unfoldable pub byte_of : Symbol → ℕ
byte_of (mark b) = b
byte_of (number x) = 0
byte_of (name k) = 0
byte_of (word w) = 0

-- ---- operators

pub data Op : Type 0 where
  none : Op
  op : Two → Op

-- + and -
abbrev pub add_op : Symbol → Op
add_op t = cond (eqb (byte_of t) 43) (op plus) (cond (eqb (byte_of t) 45) (op minus) none)

-- * and /
abbrev pub mul_op : Symbol → Op
mul_op t = cond (eqb (byte_of t) 42) (op times) (cond (eqb (byte_of t) 47) (op over) none)

abbrev pub is_minus : Two → Bool
is_minus plus = false
is_minus minus = true
is_minus times = false
is_minus over = false
is_minus compar = false

-- a leading minus negates the whole first term, a leading plus nothing
abbrev pub signed : Op → Tree → Tree
signed none e = e
signed (op o) e = cond (is_minus o) (negated e) e

-- ---- openings: parentheses, and the functions with the expressions that they have been given so far

pub data Opening : Type 0 where
  group : Opening
  pair : Opening
  pair_of : Tree → Opening
  triple : Three → Opening
  triple_of : Three → Tree → Opening
  triple_of_two : Three → Tree → Tree → Opening

-- with one expression more it is full, or wants another
pub data Given : Type 0 where
  full : Tree → Given
  wants : Opening → Given

-- an expression in parentheses; COMPAR has two expressions, INSW and LIMIT have three
unfoldable pub give_to : Opening → Tree → Given
give_to group e = full e
give_to pair e = wants (pair_of e)
give_to (pair_of a) e = full (two compar a e)
give_to (triple o) e = wants (triple_of o e)
give_to (triple_of o a) e = wants (triple_of_two o a e)
give_to (triple_of_two o a b) e = full (three o a b e)

-- ---- what a token begins as a factor: all of it; an expression in parentheses; a function; nothing

pub data FactorStart : Type 0 where
  Leaf : Tree → FactorStart
  Paren : FactorStart
  Call : Opening → FactorStart
  NoFactor : FactorStart

unfoldable pub factor_start : Symbol → FactorStart
factor_start (mark b) = cond (eqb b 40) Paren NoFactor
factor_start (number x) = Leaf (value x)
factor_start (name k) = Leaf (named k)
factor_start (word CONSTANTS) = NoFactor
factor_start (word INTGRL) = NoFactor
factor_start (word TIME) = Leaf time
factor_start (word INSW) = Call (triple insw)
factor_start (word LIMIT) = Call (triple limit)
factor_start (word COMPAR) = Call pair
factor_start (word PROCED) = NoFactor
factor_start (word ENDPRO) = NoFactor

-- ---- what a token begins as a statement or in one

pub data Start : Type 0 where
  Constants : Start
  Integral : Start
  Named : ℕ → Start
  Valued : Float → Start
  Header : Start
  Ending : Start
  Other : Start

unfoldable pub start_of : Symbol → Start
start_of (mark b) = Other
start_of (number x) = Valued x
start_of (name k) = Named k
start_of (word CONSTANTS) = Constants
start_of (word INTGRL) = Integral
start_of (word TIME) = Other
start_of (word INSW) = Other
start_of (word LIMIT) = Other
start_of (word COMPAR) = Other
start_of (word PROCED) = Header
start_of (word ENDPRO) = Ending
