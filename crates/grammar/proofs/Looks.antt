-- What a look at a token tells: that it stands there, and which token it is; and what an opening has, and makes, of the
-- expressions given to it.
use Prim.Native.Nat.{ℕ}
use mathlib.Core.Path.{◌≡◌, refl, ap, subst, ◌∙◌}
use mathlib.Core.List.{List, [], ◌∷◌, ◌++◌, append_assoc, append-nil}
use mathlib.Core.Logic.{◌⊎◌, inl, inr, ⊎_elim}
use borrow.Author.Tests.{eqb-true}
use lib.Dec.{eqb}
use lib.Ieee.{Float}
use Rattle.laws.proofs.Tests.{cond_ind}
use Rattle.tokens.specs.Symbol.{CONSTANTS, INTGRL, TIME, INSW, LIMIT, COMPAR, PROCED, ENDPRO, Symbol, mark, number}
use Rattle.tokens.specs.Symbol.{name, word}
use Rattle.drafts.specs.Tree.{Two, plus, minus, times, over, compar, Three, Tree, value, named, time}
use Rattle.drafts.specs.Drafts.{Draft, drafted}
use Rattle.grammar.specs.Look.{next, rest, byte_of, Op, none, op, add_op, mul_op, signed}
use Rattle.grammar.specs.Look.{Opening, group, pair, pair_of, triple, triple_of, triple_of_two, Given, full}
use Rattle.grammar.specs.Look.{wants, give_to}
use Rattle.grammar.specs.Look.{FactorStart, Leaf, Paren, Call, NoFactor, factor_start}
use Rattle.grammar.specs.Look.{Start, Constants, Integral, Named, Valued, Header, Ending, Other, start_of}
use Rattle.grammar.specs.Parser.{sign_drafts, open_drafts}
use Rattle.grammar.proofs.Endings.{clash, here, is_mark}

-- what is seen of the next token is not what is seen past the end: it stands there
here_by : {X : Type 0} (f : Symbol → X) (s : List Symbol) → (f (next s) ≡ f (mark 0) → ⊥) → s ≡ next s ∷ rest s
here_by f s n = here s λ z. n (ap f z)

-- + or - stands there
pub add_here : (s : List Symbol) (o : Two) → add_op (next s) ≡ op o → s ≡ next s ∷ rest s
unfolding byte_of
add_here s o h = here_by add_op s λ z. clash (cc)

-- * or / stands there
pub mul_here : (s : List Symbol) (o : Two) → mul_op (next s) ≡ op o → s ≡ next s ∷ rest s
unfolding byte_of
mul_here s o h = here_by mul_op s λ z. clash (cc)

-- a number, a name or TIME stands there
pub leaf_here : (s : List Symbol) (e : Tree) → factor_start (next s) ≡ Leaf e → s ≡ next s ∷ rest s
unfolding factor_start
leaf_here s e h = here_by factor_start s λ z. clash (cc)

-- a function's name stands there
pub call_here : (s : List Symbol) (p : Opening) → factor_start (next s) ≡ Call p → s ≡ next s ∷ rest s
unfolding factor_start
call_here s p h = here_by factor_start s λ z. clash (cc)

-- ---- signs

-- what adds is + or -
add_mark : (t : Symbol) (o : Two) → add_op t ≡ op o → (t ≡ mark 43) ⊎ (t ≡ mark 45)
add_mark t o =
    cond_ind (λ z. z ≡ op o → (t ≡ mark 43) ⊎ (t ≡ mark 45)) (eqb (byte_of t) 43) (op plus) _
    (λ e _. inl (is_mark t 42 e))
    λ _. cond_ind (λ z. z ≡ op o → (t ≡ mark 43) ⊎ (t ≡ mark 45)) (eqb (byte_of t) 45) (op minus) none
    (λ e _. inr (is_mark t 44 e)) λ _ h. clash (cc)

-- it does not multiply
pub add_no_mul : (t : Symbol) (o : Two) → add_op t ≡ op o → mul_op t ≡ none
unfolding byte_of
add_no_mul t o h = ⊎_elim (λ (e : t ≡ mark 43). ap mul_op e) (λ (e : t ≡ mark 45). ap mul_op e) (add_mark t o h)

-- it begins no statement and no part of one but a signed number
pub add_other : (t : Symbol) (o : Two) → add_op t ≡ op o → start_of t ≡ Other
unfolding start_of
add_other t o h = ⊎_elim (λ (e : t ≡ mark 43). ap start_of e) (λ (e : t ≡ mark 45). ap start_of e) (add_mark t o h)

-- what begins a factor does not add
pub factor_no_add : (t : Symbol) → (factor_start t ≡ NoFactor → ⊥) → add_op t ≡ none
unfolding factor_start
factor_no_add t n = go (add_op t) refl
  where
    go : (o : Op) → add_op t ≡ o → o ≡ none
    go none h = refl
    go (op o) h =
        absurd
        (n (⊎_elim (λ (e : t ≡ mark 43). ap factor_start e) (λ (e : t ≡ mark 45). ap factor_start e) (add_mark t o h)))

-- ---- factors

-- the openings that a function's name makes: nothing is given yet
pub data New : Opening → Type 0 where
  new_pair : New pair
  new_triple : {o : Three} → New (triple o)

-- the trees that one token makes
pub data Bare : Tree → Type 0 where
  bare_value : {x : Float} → Bare (value x)
  bare_name : {k : ℕ} → Bare (named k)
  bare_time : Bare time

-- what a token begins as a factor tells of it
abbrev pub Starting : FactorStart → Symbol → Type 0
Starting (Leaf e) t = Bare e
Starting Paren t = t ≡ mark 40
Starting (Call p) t = New p
Starting NoFactor t = Unit {0}

-- it tells this of each token
starting : (t : Symbol) → Starting (factor_start t) t
unfolding factor_start
starting (mark b) =
    cond_ind (λ h. Starting h (mark b)) (eqb b 40) Paren NoFactor (λ e. ap mark (eqb-true b 40 e)) λ e. tt
starting (number x) = bare_value
starting (name k) = bare_name
starting (word CONSTANTS) = tt
starting (word INTGRL) = tt
starting (word TIME) = bare_time
starting (word INSW) = new_triple
starting (word LIMIT) = new_triple
starting (word COMPAR) = new_pair
starting (word PROCED) = tt
starting (word ENDPRO) = tt

-- so it does where that is known
pub as_starting : (t : Symbol) {h : FactorStart} → factor_start t ≡ h → Starting h t
as_starting t q = subst (λ (h : FactorStart). Starting h t) q (starting t)

-- ---- statements

-- what the start of a statement, or of a part of one, tells of the token
abbrev pub Known : Start → Symbol → Type 0
Known Constants t = Unit {0}
Known Integral t = t ≡ word INTGRL
Known (Named k) t = t ≡ name k
Known (Valued x) t = t ≡ number x
Known Header t = t ≡ word PROCED
Known Ending t = t ≡ word ENDPRO
Known Other t = Unit {0}

-- it tells this of each token
known : (t : Symbol) → Known (start_of t) t
unfolding start_of
known (mark b) = tt
known (number x) = refl
known (name k) = refl
known (word CONSTANTS) = tt
known (word INTGRL) = refl
known (word TIME) = tt
known (word INSW) = tt
known (word LIMIT) = tt
known (word COMPAR) = tt
known (word PROCED) = refl
known (word ENDPRO) = refl

-- so it does where the start is known
pub as_known : (t : Symbol) {k : Start} → start_of t ≡ k → Known k t
as_known t q = subst (λ (k : Start). Known k t) q (known t)

-- by what a statement, or a part of one, begins with: each case may use that it stands there
pub start_cases : (s : List Symbol) (P : Start → Type 0)
    → (start_of (next s) ≡ Constants → s ≡ next s ∷ rest s → P Constants)
    → (s ≡ word INTGRL ∷ rest s → P Integral)
    → ((k : ℕ) → s ≡ name k ∷ rest s → P (Named k))
    → ((x : Float) → s ≡ number x ∷ rest s → P (Valued x))
    → (s ≡ word PROCED ∷ rest s → P Header)
    → (s ≡ word ENDPRO ∷ rest s → P Ending)
    → P Other → P (start_of (next s))
unfolding start_of
start_cases s P c i k v h d z = go (start_of (next s)) refl
  where
    stands : {t : Symbol} → (start_of (next s) ≡ Other → ⊥) → next s ≡ t → s ≡ t ∷ rest s
    stands {t} n h = here_by start_of s n ∙ ap (λ (t : Symbol). t ∷ rest s) h

    go : (p : Start) → start_of (next s) ≡ p → P p
    go Constants e = c e (stands (λ z. clash (cc)) refl)
    go Integral e = i (stands (λ z. clash (cc)) (as_known (next s) e))
    go (Named n) e = k n (stands (λ z. clash (cc)) (as_known (next s) e))
    go (Valued x) e = v x (stands (λ z. clash (cc)) (as_known (next s) e))
    go Header e = h (stands (λ z. clash (cc)) (as_known (next s) e))
    go Ending e = d (stands (λ z. clash (cc)) (as_known (next s) e))
    go Other e = z

-- ---- signs and openings

-- what a sign writes stands behind the first term
pub sign_drafts_holds : (o : Op) (e : Tree) → drafted e ++ sign_drafts o ≡ drafted (signed o e)
unfolding drafted
sign_drafts_holds none e = append-nil (drafted e)
sign_drafts_holds (op plus) e = append-nil (drafted e)
sign_drafts_holds (op minus) e = refl
sign_drafts_holds (op times) e = append-nil (drafted e)
sign_drafts_holds (op over) e = append-nil (drafted e)
sign_drafts_holds (op compar) e = append-nil (drafted e)

-- the drafts of the expressions that an opening has been given so far
abbrev pub so_far : Opening → List Draft
so_far group = []
so_far pair = []
so_far (pair_of a) = drafted a
so_far (triple o) = []
so_far (triple_of o a) = drafted a
so_far (triple_of_two o a b) = drafted a ++ drafted b

-- nothing is given yet, so there are none
pub new_drafts : {p : Opening} → New p → so_far p ≡ []
new_drafts new_pair = refl
new_drafts new_triple = refl

-- given one more: what is full has these, those of the expression, and the opening's own; what wants another has these
-- and those of the expression
abbrev pub Gave : Opening → Tree → Given → Type 0
Gave p e (full x) = so_far p ++ (drafted e ++ open_drafts p) ≡ drafted x
Gave p e (wants q) = so_far q ≡ so_far p ++ drafted e

-- it is so for each opening
gave : (p : Opening) (e : Tree) → Gave p e (give_to p e)
unfolding give_to drafted
gave group e = append-nil (drafted e)
gave pair e = refl
gave (pair_of a) e = refl
gave (triple o) e = refl
gave (triple_of o a) e = refl
gave (triple_of_two o a b) e = append_assoc (drafted a) (drafted b) _

-- so it is where what it makes is known
pub as_gave : (p : Opening) (e : Tree) {g : Given} → give_to p e ≡ g → Gave p e g
as_gave p e q = subst (λ (g : Given). Gave p e g) q (gave p e)
