-- The grammar as a relation: the tokens w are an expression, a term, .., with the tree e, in which at most d levels are
-- opened. The marks are 40 ( 41 ) 44 , 61 =. `terms l` is what may follow the tree l in an expression, to the tree of
-- the whole, and `factors l` likewise in a term; `opened p` is an opening and what it wants; `list p` is what the
-- opening p still wants, with the closing mark.
use Rattle.std.specs.Prelude.{ℕ, suc, ◌≡◌, cond, List, [], ◌∷◌, ◌++◌, Float}
use Rattle.std.specs.Float.Ieee.{neg}
use Rattle.tokens.specs.Symbol.{INTGRL, PROCED, ENDPRO, Symbol, mark, number, name, word}
use Rattle.drafts.specs.Tree.{Two, Tree, two, Constant, constant_of, Initial, plain, from, Says, constants, assignment}
use Rattle.drafts.specs.Tree.{state, header, ending}
use Rattle.grammar.specs.Look.{op, add_op, mul_op, is_minus, signed, Opening, group, full, wants, give_to}
use Rattle.grammar.specs.Look.{Leaf, Call, factor_start, Constants, start_of}

pub data Mode : Type 0 where
  expr term factor : Mode
  terms factors : Tree → Mode
  opened list : Opening → Mode

pub data Der : Mode → ℕ → List Symbol → Tree → Type 0 where
  -- Expression: [sign] term, then any count of + or - with a term; from the left; a leading minus negates the whole
  -- first term
  unsigned : {d : ℕ} {w v : List Symbol} {e x : Tree} → Der term d w e → Der (terms e) d v x → Der expr d (w ++ v) x
  sign : {d : ℕ} {o : Two} {t : Symbol} {w v : List Symbol} {e x : Tree}
      → add_op t ≡ op o → Der term d w e → Der (terms (signed (op o) e)) d v x → Der expr d (t ∷ w ++ v) x
  no_terms : {d : ℕ} {l : Tree} → Der (terms l) d [] l
  add : {d : ℕ} {o : Two} {t : Symbol} {w v : List Symbol} {l e x : Tree}
      → add_op t ≡ op o → Der term d w e → Der (terms (two o l e)) d v x → Der (terms l) d (t ∷ w ++ v) x
  -- Term: factor, then any count of * or / with a factor
  a_term : {d : ℕ} {w v : List Symbol} {e x : Tree} → Der factor d w e → Der (factors e) d v x → Der term d (w ++ v) x
  no_factors : {d : ℕ} {l : Tree} → Der (factors l) d [] l
  mul : {d : ℕ} {o : Two} {t : Symbol} {w v : List Symbol} {l e x : Tree}
      → mul_op t ≡ op o → Der factor d w e → Der (factors (two o l e)) d v x → Der (factors l) d (t ∷ w ++ v) x
  -- Factor: number, name, TIME; an expression in parentheses; a function and as many expressions in parentheses as it
  -- wants
  a_leaf : {d : ℕ} {t : Symbol} {e : Tree} → factor_start t ≡ Leaf e → Der factor d (t ∷ []) e
  grouped : {d : ℕ} {w : List Symbol} {e : Tree} → Der (opened group) d w e → Der factor d w e
  called : {d : ℕ} {p : Opening} {t : Symbol} {w : List Symbol} {e : Tree} → factor_start t ≡ Call p
      → Der (opened p) d w e → Der factor d (t ∷ w) e
  -- an opening is one level more; its expressions stand with commas between, and a closing mark behind the last
  opening : {d : ℕ} {p : Opening} {w : List Symbol} {e : Tree} → Der (list p) d w e
      → Der (opened p) (suc d) (mark 40 ∷ w) e
  last : {d : ℕ} {p : Opening} {w : List Symbol} {e x : Tree} → give_to p e ≡ full x → Der expr d w e
      → Der (list p) d (w ++ mark 41 ∷ []) x
  comma : {d : ℕ} {p q : Opening} {w v : List Symbol} {e x : Tree}
      → give_to p e ≡ wants q → Der expr d w e → Der (list q) d v x → Der (list p) d (w ++ mark 44 ∷ v) x

-- [sign] number: a minus negates the value
pub data Signed : List Symbol → Float → Type 0 where
  unsigned_number : {x : Float} → Signed (number x ∷ []) x
  signed_number : {o : Two} {t : Symbol} {x : Float} → add_op t ≡ op o
      → Signed (t ∷ number x ∷ []) (cond (is_minus o) (neg x) x)

-- one or more of name = [sign] number, with commas between
pub data Many : List Symbol → List Constant → Type 0 where
  one : {k : ℕ} {w : List Symbol} {x : Float} → Signed w x → Many (name k ∷ mark 61 ∷ w) (constant_of k x ∷ [])
  more : {k : ℕ} {w s : List Symbol} {x : Float} {cs : List Constant}
      → Signed w x → Many s cs → Many (name k ∷ mark 61 ∷ w ++ mark 44 ∷ s) (constant_of k x ∷ cs)

-- Initial: [sign] number, or a name without sign
pub data Initially : List Symbol → Initial → Type 0 where
  of_number : {w : List Symbol} {x : Float} → Signed w x → Initially w (plain x)
  of_name : {k : ℕ} → Initially (name k ∷ []) (from k)

-- one or more names, with commas between
pub data Names : List Symbol → List ℕ → Type 0 where
  one_name : {k : ℕ} → Names (name k ∷ []) (k ∷ [])
  more_names : {k : ℕ} {w : List Symbol} {ks : List ℕ} → Names w ks → Names (name k ∷ mark 44 ∷ w) (k ∷ ks)

-- the tokens w are a statement in which at most d levels are opened; the parentheses of INTGRL and of a block's header
-- are no level. A block's name defines nothing
pub data Derives (d : ℕ) : List Symbol → Says → Type 0 where
  of_constants : {t : Symbol} {w : List Symbol} {cs : List Constant} → start_of t ≡ Constants → Many w cs
      → Derives d (t ∷ w) (constants cs)
  of_assignment : {k : ℕ} {w : List Symbol} {e : Tree} → Der expr d w e
      → Derives d (name k ∷ mark 61 ∷ w) (assignment k e)
  of_state : {k : ℕ} {w v : List Symbol} {i : Initial} {e : Tree} → Initially w i → Der expr d v e
      → Derives d (name k ∷ mark 61 ∷ word INTGRL ∷ mark 40 ∷ (w ++ mark 44 ∷ (v ++ mark 41 ∷ []))) (state k i e)
  of_header : (k : ℕ) {w v : List Symbol} {os is : List ℕ} → Names w os → Names v is
      → Derives d (word PROCED ∷ (w ++ mark 61 ∷ name k ∷ mark 40 ∷ (v ++ mark 41 ∷ []))) (header os is)
  of_ending : Derives d (word ENDPRO ∷ []) ending
