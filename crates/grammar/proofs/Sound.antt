-- What `parse` reads is derived, and what it writes is the drafts of the tree; where it faults, what it has read is the
-- front of something derived.
use Prim.Native.Nat.{ℕ, zero, suc, ◌≤◌}
use mathlib.Core.Path.{◌≡◌, refl}
use mathlib.Core.Bool.{false}
use mathlib.Core.List.{List, [], ◌∷◌, ◌++◌, append_assoc, append-nil}
use native.Mathlib.Omega.{arith}
use lib.Dec.{eqb}
use lib.Ieee.{Float, fin}
use lib.IntN.{pos}
use Rattle.tokens.specs.Symbol.{Symbol, mark, number}
use Rattle.drafts.specs.Tree.{Two, Tree, value, two}
use Rattle.drafts.specs.Kinds.{kind_two}
use Rattle.drafts.specs.Drafts.{Draft, draft, drafted}
use Rattle.grammar.specs.Look.{next, rest, byte_of, Op, none, op, add_op, mul_op, signed}
use Rattle.grammar.specs.Look.{Opening, group, pair, pair_of, triple, triple_of, triple_of_two, Given, full}
use Rattle.grammar.specs.Look.{wants, give_to}
use Rattle.grammar.specs.Look.{FactorStart, Leaf, Paren, Call, NoFactor, factor_start}
use Rattle.grammar.specs.Grammar.{Mode, expr, term, factor, terms, factors, opened, list}
use Rattle.grammar.specs.Grammar.{Der, unsigned, sign, no_terms, add, a_term, no_factors, mul, a_leaf, grouped}
use Rattle.grammar.specs.Grammar.{called, opening, last, comma}
use Rattle.grammar.specs.Parser.{give, stop, tell, bind, when, by_op, by_factor, by_given, need, behind_sign}
use Rattle.grammar.specs.Parser.{sign_drafts, open_drafts, parse}
use Rattle.grammar.specs.Meaning.{Calm}
use Rattle.grammar.proofs.Endings.{clash, Asked, Out, out_mono, out_tell, out_mark, out_give, out_stop, out_rest}
use Rattle.grammar.proofs.Endings.{out_bind, out_need}
use Rattle.grammar.proofs.Endings.{for_depth, here_mark, Begins, Fronts, calm_end, extend, behind, fresh}
use Rattle.grammar.proofs.Looks.{add_here, mul_here, leaf_here, call_here, as_starting, sign_drafts_holds, so_far}
use Rattle.grammar.proofs.Looks.{new_drafts, as_gave}

-- what is derived with d levels is derived with more
pub der_le : {m : Mode} {d : ℕ} {w : List Symbol} {e : Tree} → Der m d w e → (D : ℕ) → d ≤ D → Der m D w e
der_le (unsigned a b) D h = unsigned (der_le a D h) (der_le b D h)
der_le (sign k a b) D h = sign k (der_le a D h) (der_le b D h)
der_le no_terms D h = no_terms
der_le (add k a b) D h = add k (der_le a D h) (der_le b D h)
der_le (a_term a b) D h = a_term (der_le a D h) (der_le b D h)
der_le no_factors D h = no_factors
der_le (mul k a b) D h = mul k (der_le a D h) (der_le b D h)
der_le (a_leaf k) D h = a_leaf k
der_le (grouped a) D h = grouped (der_le a D h)
der_le (called k a) D h = called k (der_le a D h)
der_le (opening a) zero h = absurd (omega arith)
der_le (opening a) (suc D) h = opening (der_le a D (omega arith))
der_le (last k a) D h = last k (der_le a D h)
der_le (comma k a b) D h = comma k (der_le a D h) (der_le b D h)

-- ---- each mode has tokens that it derives: the number 0 for each expression

-- the number 0
abbrev pub nought : Float
nought = fin false 0 (pos 0)

-- it is a factor
zero_factor : {d : ℕ} → Der factor d (number nought ∷ []) (value nought)
unfolding factor_start
zero_factor = a_leaf refl

-- a term
zero_term : {d : ℕ} → Der term d (number nought ∷ []) (value nought)
zero_term = a_term zero_factor no_factors

-- an expression
pub zero_expr : {d : ℕ} → Der expr d (number nought ∷ []) (value nought)
zero_expr = unsigned zero_term no_terms

-- and as many of it as an opening wants
pub zero_list : {d : ℕ} (p : Opening) → (w : List Symbol) × (e : Tree) × Der (list p) d w e
unfolding give_to
zero_list group = (_, _, last refl zero_expr)
zero_list pair = (_, _, comma refl zero_expr (last refl zero_expr))
zero_list (pair_of a) = (_, _, last refl zero_expr)
zero_list (triple o) = (_, _, comma refl zero_expr (comma refl zero_expr (last refl zero_expr)))
zero_list (triple_of o a) = (_, _, comma refl zero_expr (last refl zero_expr))
zero_list (triple_of_two o a b) = (_, _, last refl zero_expr)

-- behind an expression an opening can be completed
end_list : (p : Opening) {d : ℕ} {w : List Symbol} {e : Tree} → Der expr d w e → Begins (Der (list p)) d w
end_list p {d} {w} {e} a = go (give_to p e) refl
  where
    go : (g : Given) → give_to p e ≡ g → Begins (Der (list p)) d w
    go (full x) h = (mark 41 ∷ [], x, last h a)
    go (wants q) h = let z = zero_list q in (mark 44 ∷ z.0, z.1, comma h a z.2)

-- ---- what is asked of a reading in each mode

-- the drafts of what a mode goes on from: of the tree, or of the expressions that the opening has
abbrev base : Mode → List Draft
base expr = []
base term = []
base factor = []
base (terms l) = drafted l
base (factors l) = drafted l
base (opened p) = so_far p
base (list p) = so_far p

-- done: the tokens are derived, and the drafts are those of the tree
abbrev pub Done : Mode → ℕ → Asked Tree
Done m d o w e = Der m d w e × (base m ++ o ≡ drafted e)

-- at an opening: with one level more in any case; with the levels at hand once the mark is read
pub record Half (p : Opening) (d c : ℕ) (w : List Symbol) : Type 0 where
  pub over : (v : List Symbol) × (e : Tree) × Der (opened p) (suc d) (w ++ v) e × (c ≡ 19 → next v ≡ mark 40)
  pub calm : (a : Symbol) (u : List Symbol) → w ≡ a ∷ u → Calm w → Begins (Der (opened p)) d w

-- at a fault: the tokens before it are the front of something derived
abbrev pub Via : Mode → ℕ → ℕ → List Symbol → Type 0
Via expr d c w = Fronts (Der expr) d c w
Via term d c w = Fronts (Der term) d c w
Via factor d c w = Fronts (Der factor) d c w
Via (terms l) d c w = Fronts (Der (terms l)) d c w
Via (factors l) d c w = Fronts (Der (factors l)) d c w
Via (opened p) d c w = Half p d c w
Via (list p) d c w = Fronts (Der (list p)) d c w

-- an opening is read at its mark
abbrev pub At : Mode → List Symbol → Type 0
At expr s = Unit {0}
At term s = Unit {0}
At factor s = Unit {0}
At (terms l) s = Unit {0}
At (factors l) s = Unit {0}
At (opened p) s = next s ≡ mark 40
At (list p) s = Unit {0}

-- ---- fronts at an opening

-- nothing is read of an opening yet
zero_half : (p : Opening) (d c : ℕ) → Half p d c []
unfolding next
zero_half p d c =
    let r =
    zero_list p in record { over = (mark 40 ∷ r.0, r.1, opening r.2, λ _. refl); calm = λ a u z. clash (cc) }

-- behind the mark of an opening
opened_front : (p : Opening) (d c : ℕ) (w : List Symbol) → Fronts (Der (list p)) d c w → Half p (suc d) c (mark 40 ∷ w)
opened_front p d c w r =
    let a = r.over in
    record {
      over = (a.0, a.1, opening a.2, a.3);
      calm = λ _ _ _ q. let z = r.calm (calm_end (mark 40 ∷ []) w q) in (z.0, z.1, opening z.2);
    }

-- an opening is a factor
grouped_front : (d c : ℕ) (w : List Symbol) → Half group d c w → Fronts (Der factor) d c w
grouped_front d c w r =
    let a = r.over in
    record { over = (a.0, a.1, grouped a.2, a.3); calm = go w r.calm }
  where
    go : (w : List Symbol) → ((a : Symbol) (u : List Symbol) → w ≡ a ∷ u → Calm w → Begins (Der (opened group)) d w)
        → Calm w → Begins (Der factor) d w
    go [] h q = (_, _, zero_factor)
    go (a ∷ u) h q = let z = h a u refl q in (z.0, z.1, grouped z.2)

-- a function's name alone: only with one level more, where none is left
called_front : (p : Opening) (d c : ℕ) (t : Symbol) → factor_start t ≡ Call p → (w : List Symbol) → Half p d c w
    → Fronts (Der factor) d c (t ∷ w)
called_front p d c t k w r =
    let a = r.over in
    record { over = (a.0, a.1, called k a.2, a.3); calm = go w r.calm }
  where
    go : (w : List Symbol) → ((a : Symbol) (u : List Symbol) → w ≡ a ∷ u → Calm w → Begins (Der (opened p)) d w)
        → Calm (t ∷ w) → Begins (Der factor) d (t ∷ w)
    go [] h q = absurd (q [] t p refl k)
    go (a ∷ u) h q = let z = h a u refl (calm_end (t ∷ []) (a ∷ u) q) in (z.0, z.1, called k z.2)

-- ---- one mode after the other, where the calls are known to do right

-- a rule: a part, and what goes on from the tree made of it, are an m behind the tokens p; the drafts `is` are written
-- between the two
record Link (m part : Mode) (chain : Tree → Mode) (p : List Symbol) (make : Tree → Tree)
    (is : List Draft) : Type 0 where
  join : {D : ℕ} {w v : List Symbol} {e x : Tree} → Der part D w e → Der (chain (make e)) D v x
      → Der m D (p ++ (w ++ v)) x
  alone : {D : ℕ} {l : Tree} → Der (chain l) D [] l
  drafts : (e : Tree) → base m ++ (drafted e ++ is) ≡ drafted (make e)

-- an expression without a sign: a term, and terms behind it
unsigned_link : Link expr term terms [] (λ e. e) []
unsigned_link = record { join = unsigned; alone = no_terms; drafts = λ e. append-nil (drafted e) }

-- an expression behind its sign
sign_link : {t : Symbol} {o : Two} → add_op t ≡ op o
    → Link expr term terms (t ∷ []) (signed (op o)) (sign_drafts (op o))
sign_link {o = o} h = record { join = sign h; alone = no_terms; drafts = sign_drafts_holds (op o) }

-- one term more, behind + or -
add_link : {t : Symbol} {o : Two} (l : Tree) → add_op t ≡ op o
    → Link (terms l) term terms (t ∷ []) (two o l) (draft (kind_two o) 0 ∷ [])
unfolding drafted
add_link l h = record { join = add h; alone = no_terms; drafts = λ e. refl }

-- a term: a factor, and factors behind it
term_link : Link term factor factors [] (λ e. e) []
term_link = record { join = a_term; alone = no_factors; drafts = λ e. append-nil (drafted e) }

-- one factor more, behind * or /
mul_link : {t : Symbol} {o : Two} (l : Tree) → mul_op t ≡ op o
    → Link (factors l) factor factors (t ∷ []) (two o l) (draft (kind_two o) 0 ∷ [])
unfolding drafted
mul_link l h = record { join = mul h; alone = no_factors; drafts = λ e. refl }

-- the calls for a part and for what goes on from it do right
record Known (f d : ℕ) (part : Mode) (chain : Tree → Mode) : Type 0 where
  parts : (s : List Symbol) → Out (λ o w e. Der part d w e × (o ≡ drafted e)) (Fronts (Der part) d) s (parse f part d s)
  chains : (l : Tree) (s : List Symbol)
      → Out (λ o w e. Der (chain l) d w e × (drafted l ++ o ≡ drafted e)) (Fronts (Der (chain l)) d) s
      (parse f (chain l) d s)

-- so the two after each other do
linked_out : {f d : ℕ} {m part : Mode} {chain : Tree → Mode} {p : List Symbol} {make : Tree → Tree} {is : List Draft}
    → Known f d part chain → Link m part chain p make is → (s : List Symbol)
    → Out (λ o w. Done m d o (p ++ w)) (λ c w. Fronts (Der m) d c (p ++ w)) s
    (bind (parse f part d s) λ e t. tell is (parse f (chain (make e)) d t))
linked_out {f} {d} {m} {part} {chain} {p} {make} {is} known k s =
    out_bind _ _ s (parse f part d s) _ (known.parts s)
    (λ o w e t q. out_tell _ _ is t _
    (out_mono _ _ t _ (known.chains (make e) t)
    (λ o' v x r. (k.join q.0 r.0, written o o' e x q.1 r.1))
    λ c v r. rw append_assoc at
    (behind {H = Der m} (p ++ w) (λ D v x le r. (x, rw append_assoc (k.join (der_le q.0 D le) r))) v r)))
    λ c. extend p λ D w e le r. ([], make e, k.join r k.alone)
  where
    written : (o o' : List Draft) (e x : Tree) → o ≡ drafted e → drafted (make e) ++ o' ≡ drafted x
        → base m ++ (o ++ (is ++ o')) ≡ drafted x
    written o o' e x q r = rw (q, ← append_assoc (drafted e), ← append_assoc (base m), k.drafts e) r

module _ (f d : ℕ) (ih : (m : Mode) (d : ℕ) (s : List Symbol) → At m s → Out (Done m d) (Via m d) s (parse f m d s))
  where
    -- a term and the terms behind it do right
    known_terms : Known f d term terms
    known_terms = record { parts = λ s. ih term d s tt; chains = λ l s. ih (terms l) d s tt }

    -- a factor and the factors behind it do right
    known_factors : Known f d factor factors
    known_factors = record { parts = λ s. ih factor d s tt; chains = λ l s. ih (factors l) d s tt }

    -- an expression
    expr_out : (s : List Symbol) (o : Op) → add_op (next s) ≡ o
        → Out (Done expr d) (Via expr d) s
        (bind (parse f term d (behind_sign o s)) λ e t. tell (sign_drafts o) (parse f (terms (signed o e)) d t))
    expr_out s none h = linked_out known_terms unsigned_link s
    expr_out s (op o) h = out_rest _ _ s _ (add_here s o h) (linked_out known_terms (sign_link h) (rest s))

    -- terms behind a tree
    terms_out : (l : Tree) (s : List Symbol) (o : Op) → add_op (next s) ≡ o
        → Out (Done (terms l) d) (Via (terms l) d) s
        (by_op o (λ _. give l s) λ o. bind (parse f term d (rest s)) λ e t. tell (draft (kind_two o) 0 ∷ [])
        (parse f (terms (two o l e)) d t))
    terms_out l s none h = out_give _ _ s l (no_terms, append-nil (drafted l))
    terms_out l s (op o) h = out_rest _ _ s _ (add_here s o h) (linked_out known_terms (add_link l h) (rest s))

    -- factors behind a tree
    factors_out : (l : Tree) (s : List Symbol) (o : Op) → mul_op (next s) ≡ o
        → Out (Done (factors l) d) (Via (factors l) d) s
        (by_op o (λ _. give l s) λ o. bind (parse f factor d (rest s)) λ e t. tell (draft (kind_two o) 0 ∷ [])
        (parse f (factors (two o l e)) d t))
    factors_out l s none h = out_give _ _ s l (no_factors, append-nil (drafted l))
    factors_out l s (op o) h = out_rest _ _ s _ (mul_here s o h) (linked_out known_factors (mul_link l h) (rest s))

    -- a factor, by what its token begins
    factor_out : (s : List Symbol) (h : FactorStart) → factor_start (next s) ≡ h
        → Out (Done factor d) (Via factor d) s
        (by_factor h (λ e. tell (drafted e) (give e (rest s))) (λ _. parse f (opened group) d s)
        (λ p. when (eqb (byte_of (next (rest s))) 40) (λ _. parse f (opened p) d (rest s)) (λ _. stop 18 (rest s)))
        (λ _. stop 18 s))
    factor_out s (Leaf e) h =
        out_rest _ _ s _ (leaf_here s e h)
        (out_tell _ _ (drafted e) (rest s) _ (out_give _ _ (rest s) e (a_leaf h, append-nil (drafted e))))
    factor_out s Paren h =
        out_mono _ _ s _ (ih (opened group) d s (as_starting (next s) h)) (λ o w e r. (grouped r.0, r.1)) λ c w.
        grouped_front d c w
    factor_out s (Call p) h =
        out_rest _ _ s _ (call_here s p h)
        (out_mark _ _ 39 (rest s) _ _
        (λ m. out_mono _ _ (rest s) _ (ih (opened p) d (rest s) m)
        (λ o w e r. (called h r.0, rw (new_drafts (as_starting (next s) h)) at r.1)) λ c w. called_front p d c
        (next s) h w)
        (out_stop _ _ (rest s) (called_front p d 18 (next s) h [] (zero_half p d 18))))
    factor_out s NoFactor h = out_stop _ _ s (fresh [] λ D le. (_, _, zero_factor))

    -- behind an expression of an opening
    given_out : (p : Opening) (w : List Symbol) (o : List Draft) (e : Tree) (t : List Symbol) (g : Given)
        → give_to p e ≡ g → Done expr d o w e
        → Fronts (Der (list p)) d 18 (w ++ [])
        → Out (λ o' v. Done (list p) d (o ++ o') (w ++ v)) (λ c v. Fronts (Der (list p)) d c (w ++ v)) t
        (by_given g (λ x. need 41 t λ u. tell (open_drafts p) (give x u)) (λ q. need 44 t (parse f (list q) d)))
    given_out p w o e t (full x) h r early =
        let drafts : so_far p ++ (o ++ (open_drafts p ++ [])) ≡ drafted x = rw (append-nil, r.1) (as_gave p e h) in
        out_need _ _ 40 t (λ u. tell (open_drafts p) (give x u))
        (λ m. out_tell _ _ (open_drafts p) (rest t) _ (out_give _ _ (rest t) x (last h r.0, drafts))) early
    given_out p w o e t (wants q) h r early =
        out_need _ _ 43 t (parse f (list q) d)
        (λ m. out_mono _ _ (rest t) _ (ih (list q) d (rest t) tt)
        (λ o' v x k. (comma h r.0 k.0, rw (r.1, ← append_assoc (so_far p), ← as_gave p e h) k.1))
        λ c v k. rw append_assoc at
        (behind {H = Der (list p)} (w ++ mark 44 ∷ [])
        (λ D v x le a. (x, rw append_assoc (comma h (der_le r.0 D le) a))) v k))
        early

-- no call left: every mode can go on
unread : (m : Mode) (d : ℕ) → Via m d 18 []
unread expr d = fresh [] λ D le. (_, _, zero_expr)
unread term d = fresh [] λ D le. (_, _, zero_term)
unread factor d = fresh [] λ D le. (_, _, zero_factor)
unread (terms l) d = fresh [] λ D le. ([], l, no_terms)
unread (factors l) d = fresh [] λ D le. ([], l, no_factors)
unread (opened p) d = zero_half p d 18
unread (list p) d = fresh [] λ D le. zero_list p

-- in each mode, whatever the count of calls
pub sound : (f : ℕ) (m : Mode) (d : ℕ) (s : List Symbol) → At m s → Out (Done m d) (Via m d) s (parse f m d s)
unfolding parse
sound zero m d s h = out_stop _ _ s (unread m d)
sound (suc f) expr d s h = expr_out f d (sound f) s (add_op (next s)) refl
sound (suc f) term d s h = linked_out (known_factors f d (sound f)) term_link s
sound (suc f) factor d s h = factor_out f d (sound f) s (factor_start (next s)) refl
sound (suc f) (terms l) d s h = terms_out f d (sound f) l s (add_op (next s)) refl
sound (suc f) (factors l) d s h = factors_out f d (sound f) l s (mul_op (next s)) refl
sound (suc f) (opened p) zero s h = record { ends = ([], refl, zero_half p 0 19, for_depth h) }
sound (suc f) (opened p) (suc d) s h =
    out_rest _ _ s _ (here_mark s 39 h)
    (out_mono _ _ (rest s) _ (sound f (list p) d (rest s) tt) (λ o w e q. (opening q.0, q.1)) λ c.
    opened_front p d c)
sound (suc f) (list p) d s h =
    out_bind _ _ s (parse f expr d s) _ (sound f expr d s tt)
    (λ o w e t q. given_out f d (sound f) p w o e t (give_to p e) refl q
    (rw (append-nil w) (fresh w λ D le. end_list p (der_le q.0 D le))))
    λ c. extend [] λ D w e le r. end_list p r
