-- The grammar as an executable parser. It reads from the front of a list of tokens; what is left tells the place.
use Rattle.std.specs.Prelude.{ℕ, zero, suc, ◌+◌, ◌-◌, ◌*◌, Bool, true, false, cond, List, [], ◌∷◌, ◌++◌, length, eqb}
use Rattle.std.specs.Prelude.{Float}
use Rattle.std.specs.Float.Ieee.{neg}
use Rattle.limits.specs.Limits.{levels}
use Rattle.tokens.specs.Symbol.{Symbol}
use Rattle.drafts.specs.Tree.{Two, Tree, two, Constant, constant_of, Initial, plain, from, Says, constants, assignment}
use Rattle.drafts.specs.Tree.{state, header, ending, compar}
use Rattle.drafts.specs.Kinds.{kind_initial, kind_two, kind_negate, kind_three, kind_store, kind_rate, kind_output}
use Rattle.drafts.specs.Kinds.{kind_input}
use Rattle.drafts.specs.Kinds.{kind_ending}
use Rattle.drafts.specs.Drafts.{Draft, draft, drafted, constant_drafts, initial_draft}
use Rattle.grammar.specs.Look.{next, rest, byte_of, Op, none, op, add_op, mul_op, is_minus, signed, Given, full}
use Rattle.grammar.specs.Look.{wants, give_to}
use Rattle.grammar.specs.Look.{Opening, group, pair, pair_of, triple, triple_of, triple_of_two}
use Rattle.grammar.specs.Look.{FactorStart, Leaf, Paren, Call, NoFactor, factor_start}
use Rattle.grammar.specs.Look.{Start, Constants, Integral, Named, Valued, Header, Ending, Other, start_of}
use Rattle.grammar.specs.Grammar.{Mode, expr, term, factor, terms, factors, opened, list}

-- how reading ends: with what was read and the tokens left; or with a fault's code and the tokens left, the fault's
-- first
pub data End (A : Type 0) : Type 0 where
  got : A → List Symbol → End A
  bad : ℕ → List Symbol → End A

-- what reading writes, and how it ends
pub record Res (A : Type 0) : Type 0 where
  pub out : List Draft
  pub end : End A

abbrev pub give : {A : Type 0} → A → List Symbol → Res A
give e s = record { out = []; end = got e s }

abbrev pub stop : {A : Type 0} → ℕ → List Symbol → Res A
stop c s = record { out = []; end = bad c s }

-- these drafts first
abbrev pub tell : {A : Type 0} → List Draft → Res A → Res A
tell is x = record { out = is ++ x.out; end = x.end }

abbrev pub onward : {A B : Type 0} → List Draft → End A → (A → List Symbol → Res B) → Res B
onward {A} {B} o (got e t) k = let y : Res B = k e t in record { out = o ++ y.out; end = y.end }
onward o (bad c t) k = record { out = o; end = bad c t }

-- the one, and from where it ends the other
unfoldable pub bind : {A B : Type 0} → Res A → (A → List Symbol → Res B) → Res B
bind x k = onward x.out x.end k

-- by a test, or by what a token is; only the branch that is taken is computed
abbrev pub when : {A : Type 0} → Bool → (Unit {0} → Res A) → (Unit {0} → Res A) → Res A
when true x y = x tt
when false x y = y tt

abbrev pub by_op : {A : Type 0} → Op → (Unit {0} → Res A) → (Two → Res A) → Res A
by_op none x y = x tt
by_op (op o) x y = y o

abbrev pub by_factor : {A : Type 0} → FactorStart → (Tree → Res A) → (Unit {0} → Res A) → (Opening → Res A)
    → (Unit {0} → Res A) → Res A
by_factor (Leaf e) x p y z = x e
by_factor Paren x p y z = p tt
by_factor (Call o) x p y z = y o
by_factor NoFactor x p y z = z tt

abbrev pub by_given : {A : Type 0} → Given → (Tree → Res A) → (Opening → Res A) → Res A
by_given (full x) w z = w x
by_given (wants q) w z = z q

-- the next token is the mark b: go on behind it
abbrev pub need : {A : Type 0} → ℕ → List Symbol → (List Symbol → Res A) → Res A
need b s k = when (eqb (byte_of (next s)) b) (λ _. k (rest s)) (λ _. stop 18 s)

-- behind a sign, if one stands there
abbrev pub behind_sign : Op → List Symbol → List Symbol
behind_sign none s = s
behind_sign (op o) s = rest s

-- what a sign writes behind the first term
abbrev pub sign_drafts : Op → List Draft
sign_drafts none = []
sign_drafts (op o) = cond (is_minus o) (draft kind_negate 0 ∷ []) []

-- what an opening writes behind its expressions
abbrev pub open_drafts : Opening → List Draft
open_drafts group = []
open_drafts pair = draft (kind_two compar) 0 ∷ []
open_drafts (pair_of a) = draft (kind_two compar) 0 ∷ []
open_drafts (triple o) = draft (kind_three o) 0 ∷ []
open_drafts (triple_of o a) = draft (kind_three o) 0 ∷ []
open_drafts (triple_of_two o a b) = draft (kind_three o) 0 ∷ []

-- one call, where `call` reads what it calls; d is the count of levels that may still be opened
abbrev pub one_call : (Mode → ℕ → List Symbol → Res Tree) → Mode → ℕ → List Symbol → Res Tree
one_call call expr d s =
    let o = add_op (next s) in
    bind (call term d (behind_sign o s)) λ e t. tell (sign_drafts o) (call (terms (signed o e)) d t)
one_call call (terms l) d s =
    by_op (add_op (next s)) (λ _. give l s) λ o. bind (call term d (rest s)) λ e t. tell (draft (kind_two o) 0 ∷ [])
    (call (terms (two o l e)) d t)
one_call call term d s = bind (call factor d s) λ e t. call (factors e) d t
one_call call (factors l) d s =
    by_op (mul_op (next s)) (λ _. give l s) λ o. bind (call factor d (rest s)) λ e t. tell (draft (kind_two o) 0 ∷ [])
    (call (factors (two o l e)) d t)
one_call call factor d s =
    by_factor (factor_start (next s))
    (λ e. tell (drafted e) (give e (rest s)))
    (λ _. call (opened group) d s)
    (λ p. when (eqb (byte_of (next (rest s))) 40) (λ _. call (opened p) d (rest s)) (λ _. stop 18 (rest s)))
    (λ _. stop 18 s)
one_call call (opened p) zero s = stop 19 s
one_call call (opened p) (suc d) s = call (list p) d (rest s)
one_call call (list p) d s =
    bind (call expr d s) λ e t.
    by_given (give_to p e) (λ x. need 41 t λ u. tell (open_drafts p) (give x u)) (λ q. need 44 t (call (list q) d))

-- with at most f calls inside one another
unfoldable pub parse : ℕ → Mode → ℕ → List Symbol → Res Tree
parse zero m d s = stop 18 s
parse (suc f) m d s = one_call (parse f) m d s

-- every call reads a token or is followed, within four, by one that does: `rank` and five for each token bound the
-- calls
abbrev pub rank : Mode → ℕ
rank expr = 3
rank term = 2
rank factor = 1
rank (opened p) = 0
rank (terms l) = 0
rank (factors l) = 0
rank (list p) = 4

-- with calls enough for the tokens at hand: it obeys the clauses of `one_call` (laws `reads_expr`, ..), and needs no
-- count
unfoldable pub reads : Mode → ℕ → List Symbol → Res Tree
reads m d s = parse (suc (rank m + 5 * length s)) m d s

abbrev pub by_start : {A : Type 0} → Start → (Unit {0} → Res A) → (Unit {0} → Res A) → (ℕ → Res A) → (Float → Res A)
    → (Unit {0} → Res A) → (Unit {0} → Res A) → (Unit {0} → Res A) → Res A
by_start Constants c i k v h e z = c tt
by_start Integral c i k v h e z = i tt
by_start (Named n) c i k v h e z = k n
by_start (Valued x) c i k v h e z = v x
by_start Header c i k v h e z = h tt
by_start Ending c i k v h e z = e tt
by_start Other c i k v h e z = z tt

-- a name, a number, INTGRL, or else
abbrev pub by_name : {A : Type 0} → Start → (ℕ → Res A) → (Unit {0} → Res A) → Res A
by_name p x y = by_start p y y x (λ _. y tt) y y y

abbrev pub by_number : {A : Type 0} → Start → (Float → Res A) → (Unit {0} → Res A) → Res A
by_number p x y = by_start p y y (λ _. y tt) x y y y

abbrev pub by_integral : {A : Type 0} → Start → (Unit {0} → Res A) → (Unit {0} → Res A) → Res A
by_integral p x y = by_start p y x (λ _. y tt) (λ _. y tt) y y y

-- [sign] number: a minus negates the value
abbrev pub signed_value : Op → Float → Float
signed_value none x = x
signed_value (op o) x = cond (is_minus o) (neg x) x

abbrev pub a_number : Op → List Symbol → Res Float
a_number o s = by_number (start_of (next s)) (λ x. give (signed_value o x) (rest s)) (λ _. stop 18 s)

unfoldable pub by_signed_number : List Symbol → Res Float
by_signed_number s = a_number (add_op (next s)) (behind_sign (add_op (next s)) s)

-- behind one of several: a comma and more of them, or nothing
abbrev pub on_more : {A : Type 0} → (List Symbol → Res (List A)) → A → List Symbol → Res (List A)
on_more go c s =
    when (eqb (byte_of (next s)) 44) (λ _. bind (go (rest s)) λ cs t. give (c ∷ cs) t) (λ _. give (c ∷ []) s)

-- constants, one or more
abbrev pub valued : (List Symbol → Res (List Constant)) → ℕ → List Symbol → Res (List Constant)
valued go k s =
    bind (by_signed_number s) λ x t. tell (constant_drafts (constant_of k x)) (on_more go (constant_of k x) t)

unfoldable pub many : ℕ → List Symbol → Res (List Constant)
many zero s = stop 18 s
many (suc f) s = by_name (start_of (next s)) (λ k. need 61 (rest s) (valued (many f) k)) (λ _. stop 18 s)

-- an initial
unfoldable pub initially : List Symbol → Res Initial
initially s =
    by_name (start_of (next s)) (λ k. give (from k) (rest s)) (λ _. bind (by_signed_number s) λ x t. give (plain x) t)

-- behind name =: an expression; behind INTGRL: an initial, and the expression of the rate
unfoldable pub assigned : ℕ → ℕ → ℕ → List Symbol → Res Says
assigned f d k s = bind (parse f expr d s) λ e t. tell (draft kind_store k ∷ []) (give (assignment k e) t)

abbrev pub rated : ℕ → ℕ → ℕ → Initial → List Symbol → Res Says
rated f d k i s = bind (parse f expr d s) λ e t. need 41 t λ u. tell (draft kind_rate k ∷ []) (give (state k i e) u)

abbrev pub begun_state : ℕ → ℕ → ℕ → List Symbol → Res Says
begun_state f d k s =
    bind (initially s) λ i t. tell (draft kind_initial k ∷ initial_draft i ∷ []) (need 44 t (rated f d k i))

unfoldable pub integrated : ℕ → ℕ → ℕ → List Symbol → Res Says
integrated f d k s = need 40 s (begun_state f d k)

abbrev pub equated : ℕ → ℕ → ℕ → List Symbol → Res Says
equated f d k s = by_integral (start_of (next s)) (λ _. integrated f d k (rest s)) (λ _. assigned f d k s)

-- names, one or more, each with a draft of the kind n
unfoldable pub many_names : ℕ → ℕ → List Symbol → Res (List ℕ)
many_names n zero s = stop 18 s
many_names n (suc f) s =
    by_name (start_of (next s)) (λ k. tell (draft n k ∷ []) (on_more (many_names n f) k (rest s))) (λ _. stop 18 s)

-- behind PROCED: the outputs, =, the block's name, and the inputs in parentheses
abbrev pub with_inputs : ℕ → List ℕ → List Symbol → Res Says
with_inputs f os s = bind (many_names kind_input f s) λ is t. need 41 t (give (header os is))

abbrev pub block_named : ℕ → List ℕ → List Symbol → Res Says
block_named f os s = by_name (start_of (next s)) (λ _. need 40 (rest s) (with_inputs f os)) (λ _. stop 18 s)

unfoldable pub headed : ℕ → List Symbol → Res Says
headed f s = bind (many_names kind_output f s) λ os t. need 61 t (block_named f os)

-- a statement at the front, with at most d levels, by what its first token begins
abbrev pub form_of : ℕ → ℕ → Start → List Symbol → Res Says
form_of f d p s =
    by_start p
    (λ _. bind (many f (rest s)) λ cs t. give (constants cs) t)
    (λ _. stop 18 s)
    (λ k. need 61 (rest s) (equated f d k))
    (λ _. stop 18 s)
    (λ _. headed f (rest s))
    (λ _. tell (draft kind_ending 0 ∷ []) (give ending (rest s)))
    (λ _. stop 18 s)

unfoldable pub statement : ℕ → ℕ → List Symbol → Res Says
statement f d s = form_of f d (start_of (next s)) s

-- and no token more
abbrev pub at_end : {A : Type 0} → A → List Symbol → Res A
at_end x [] = give x []
at_end x (t ∷ s) = stop 18 (t ∷ s)

unfoldable pub entire : ℕ → ℕ → List Symbol → Res Says
entire f d s = bind (statement f d s) at_end

-- calls enough for all tokens
abbrev pub calls : List Symbol → ℕ
calls row = 4 + 5 * length row

-- the answer for a row of tokens: what it says; or a fault's code and the place of its token, the row's count for an
-- early end
pub data Read : Type 0 where
  read : Says → Read
  fault : ℕ → ℕ → Read

abbrev pub row_answer : ℕ → End Says → Read
row_answer n (got x t) = read x
row_answer n (bad c t) = fault c (n - length t)

unfoldable pub read_row : List Symbol → Read
read_row row = row_answer (length row) (entire (calls row) levels row).end
