-- The numbers of a text are doubles.
use Prim.Native.Nat.{ℕ}
use mathlib.Core.Path.{◌≡◌, subst}
use mathlib.Core.List.{List, [], ◌∷◌, ◌++◌}
use lib.Dec.{eqb}
use lib.Ieee.{Float, binary64, neg}
use lib.Ieee.Fits.{cond-fits, neg-fits}
use Rattle.laws.specs.Every.{Every}
use Rattle.laws.proofs.Every.{every_left, every_right}
use Rattle.laws.proofs.Tests.{cond_ind}
use Rattle.tokens.specs.Symbol.{CONSTANTS, INTGRL, TIME, INSW, LIMIT, COMPAR, PROCED, ENDPRO, Symbol, mark, number}
use Rattle.tokens.specs.Symbol.{name, word}
use Rattle.drafts.specs.Tree.{Two, plus, minus, times, over, compar, Tree, value, named, time, negated, two, three}
use Rattle.drafts.specs.Tree.{Constant, Initial, plain, from}
use Rattle.drafts.specs.Tree.{Says, constants, assignment, state, header, ending}
use Rattle.grammar.specs.Look.{op, is_minus, signed, Opening, group, pair, pair_of, triple, triple_of, triple_of_two}
use Rattle.grammar.specs.Look.{Given, full, wants, give_to}
use Rattle.grammar.specs.Look.{FactorStart, Leaf, Paren, Call, NoFactor, factor_start}
use Rattle.grammar.specs.Grammar.{Mode, expr, term, factor, terms, factors, opened, list}
use Rattle.grammar.specs.Grammar.{Der, unsigned, sign, no_terms, add, a_term, no_factors, mul, a_leaf, grouped, called}
use Rattle.grammar.specs.Grammar.{opening, last, comma}
use Rattle.grammar.specs.Grammar.{Signed, unsigned_number, signed_number, Many, one, more, Initially, of_number}
use Rattle.grammar.specs.Grammar.{of_name}
use Rattle.grammar.specs.Grammar.{Derives, of_constants, of_assignment, of_state, of_header, of_ending}
use Rattle.records.specs.Proper.{Double}

-- ---- of tokens, trees, openings, statements: each number is a double
abbrev pub DoubleToken : Symbol → Type 0
DoubleToken (mark b) = Unit {0}
DoubleToken (number x) = Double x
DoubleToken (name k) = Unit {0}
DoubleToken (word w) = Unit {0}

-- of trees
abbrev pub Doubles : Tree → Type 0
Doubles (value x) = Double x
Doubles (named k) = Unit {0}
Doubles time = Unit {0}
Doubles (negated a) = Doubles a
Doubles (two o a b) = Doubles a × Doubles b
Doubles (three o a b c) = Doubles a × Doubles b × Doubles c

-- of openings
abbrev DoubleOpening : Opening → Type 0
DoubleOpening group = Unit {0}
DoubleOpening pair = Unit {0}
DoubleOpening (pair_of a) = Doubles a
DoubleOpening (triple o) = Unit {0}
DoubleOpening (triple_of o a) = Doubles a
DoubleOpening (triple_of_two o a b) = Doubles a × Doubles b

-- of what an opening makes
abbrev DoubleGiven : Given → Type 0
DoubleGiven (full e) = Doubles e
DoubleGiven (wants p) = DoubleOpening p

-- of what a token begins
abbrev DoubleShape : FactorStart → Type 0
DoubleShape (Leaf e) = Doubles e
DoubleShape Paren = Unit {0}
DoubleShape (Call p) = DoubleOpening p
DoubleShape NoFactor = Unit {0}

-- of what a mode goes on from
abbrev DoubleMode : Mode → Type 0
DoubleMode expr = Unit {0}
DoubleMode term = Unit {0}
DoubleMode factor = Unit {0}
DoubleMode (terms l) = Doubles l
DoubleMode (factors l) = Doubles l
DoubleMode (opened p) = DoubleOpening p
DoubleMode (list p) = DoubleOpening p

-- of initials
abbrev pub DoubleInitial : Initial → Type 0
DoubleInitial (plain x) = Double x
DoubleInitial (from k) = Unit {0}

-- of statements
abbrev pub DoubleSays : Says → Type 0
DoubleSays (constants cs) = Every (λ (c : Constant). Double c.worth) cs
DoubleSays (assignment k e) = Doubles e
DoubleSays (state k i e) = DoubleInitial i × Doubles e
DoubleSays (header os is) = Unit {0}
DoubleSays ending = Unit {0}

-- ---- expressions

-- a sign leaves the numbers
double_signed : (o : Two) (e : Tree) → Doubles e → Doubles (signed (op o) e)
double_signed plus e h = h
double_signed minus e h = h
double_signed times e h = h
double_signed over e h = h
double_signed compar e h = h

-- an opening with one more expression
double_given : (p : Opening) (e : Tree) → DoubleOpening p → Doubles e → DoubleGiven (give_to p e)
unfolding give_to
double_given group e h k = k
double_given pair e h k = k
double_given (pair_of a) e h k = (h, k)
double_given (triple o) e h k = k
double_given (triple_of o a) e h k = (h, k)
double_given (triple_of_two o a b) e h k = (h.0, h.1, k)

-- so it is where what it makes is known
as_given : (p : Opening) (e : Tree) {g : Given} → give_to p e ≡ g → DoubleOpening p → Doubles e → DoubleGiven g
as_given p e q h k = subst DoubleGiven q (double_given p e h k)

-- a token by its shape
double_shape : (t : Symbol) → DoubleToken t → DoubleShape (factor_start t)
unfolding factor_start
double_shape (mark b) h = cond_ind DoubleShape (eqb b 40) Paren NoFactor (λ _. tt) (λ _. tt)
double_shape (number x) h = h
double_shape (name k) h = tt
double_shape (word CONSTANTS) h = tt
double_shape (word INTGRL) h = tt
double_shape (word TIME) h = tt
double_shape (word INSW) h = tt
double_shape (word LIMIT) h = tt
double_shape (word COMPAR) h = tt
double_shape (word PROCED) h = tt
double_shape (word ENDPRO) h = tt

-- so it is where the shape is known
as_shape : (t : Symbol) {h : FactorStart} → factor_start t ≡ h → DoubleToken t → DoubleShape h
as_shape t q h = subst DoubleShape q (double_shape t h)

-- of tokens that are doubles a tree of doubles
double_tree : {m : Mode} {d : ℕ} {w : List Symbol} {e : Tree} → Der m d w e → Every DoubleToken w → DoubleMode m
    → Doubles e
double_tree (unsigned {w = w} {v = v} a b) r p =
    double_tree b (every_right DoubleToken w v r) (double_tree a (every_left DoubleToken w v r) tt)
double_tree (sign {o = o} {w = w} {v = v} {e = e} h a b) r p =
    double_tree b (every_right DoubleToken w v r.1)
    (double_signed o e (double_tree a (every_left DoubleToken w v r.1) tt))
double_tree no_terms r p = p
double_tree (add {w = w} {v = v} h a b) r p =
    double_tree b (every_right DoubleToken w v r.1) (p, double_tree a (every_left DoubleToken w v r.1) tt)
double_tree (a_term {w = w} {v = v} a b) r p =
    double_tree b (every_right DoubleToken w v r) (double_tree a (every_left DoubleToken w v r) tt)
double_tree no_factors r p = p
double_tree (mul {w = w} {v = v} h a b) r p =
    double_tree b (every_right DoubleToken w v r.1) (p, double_tree a (every_left DoubleToken w v r.1) tt)
double_tree (a_leaf {t = t} h) r p = as_shape t h r.0
double_tree (grouped a) r p = double_tree a r tt
double_tree (called {t = t} h a) r p = double_tree a r.1 (as_shape t h r.0)
double_tree (opening a) r p = double_tree a r.1 p
double_tree (last {p = q} {w = w} {e = e} h a) r p =
    as_given q e h p (double_tree a (every_left DoubleToken w (mark 41 ∷ []) r) tt)
double_tree (comma {p = q} {w = w} {v = v} {e = e} h a b) r p =
    let k = every_left DoubleToken w (mark 44 ∷ v) r in
    double_tree b (every_right DoubleToken w (mark 44 ∷ v) r).1 (as_given q e h p (double_tree a k tt))

-- ---- statements
double_signed_number : {w : List Symbol} {x : Float} → Signed w x → Every DoubleToken w → Double x
double_signed_number unsigned_number r = r.0
double_signed_number (signed_number {o = o} {x = x} h) r = cond-fits binary64 (is_minus o) (neg x) x
    (neg-fits binary64 x r.1.0) r.1.0

-- constants
double_many : {w : List Symbol} {cs : List Constant} → Many w cs → Every DoubleToken w
    → Every (λ (c : Constant). Double c.worth) cs
double_many (one a) r = (double_signed_number a r.1.1, tt)
double_many (more {w = w} {s = s} a b) r = (
  double_signed_number a (every_left DoubleToken w (mark 44 ∷ s) r.1.1),
  double_many b (every_right DoubleToken w (mark 44 ∷ s) r.1.1).1,
)

-- initials
double_initially : {w : List Symbol} {i : Initial} → Initially w i → Every DoubleToken w → DoubleInitial i
double_initially (of_number a) r = double_signed_number a r
double_initially of_name r = tt

-- EACH NUMBER of a statement is a double
pub double_says : {d : ℕ} {w : List Symbol} {x : Says} → Derives d w x → Every DoubleToken w → DoubleSays x
double_says (of_constants h a) r = double_many a r.1
double_says (of_assignment a) r = double_tree a r.1.1 tt
double_says (of_state {w = w} {v = v} a b) r =
    let t = mark 44 ∷ (v ++ mark 41 ∷ []) in
    let q = r.1.1.1.1 in (
      double_initially a (every_left DoubleToken w t q),
      double_tree b (every_left DoubleToken v (mark 41 ∷ []) (every_right DoubleToken w t q).1) tt,
    )
double_says (of_header k os is) r = tt
double_says of_ending r = tt
