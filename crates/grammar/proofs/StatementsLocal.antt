-- Statements: what a reading hangs on, the tokens up to the one at which it stops.
use Prim.Native.Nat.{ℕ, zero, suc}
use mathlib.Core.Path.{◌≡◌, refl}
use mathlib.Core.List.{List, [], ◌∷◌}
use lib.Ieee.{Float}
use Rattle.tokens.specs.Symbol.{INTGRL, PROCED, ENDPRO, Symbol, number, name, word}
use Rattle.drafts.specs.Tree.{constant_of, plain, from, Says, constants, assignment, state, header, ending}
use Rattle.drafts.specs.Kinds.{kind_initial, kind_store, kind_rate, kind_output, kind_input, kind_ending}
use Rattle.drafts.specs.Drafts.{draft, constant_drafts, initial_draft}
use Rattle.grammar.specs.Look.{next, rest, Op, add_op, Start, Constants, Integral, Named, Valued, Header}
use Rattle.grammar.specs.Look.{Ending, Other, start_of}
use Rattle.grammar.specs.Grammar.{expr}
use Rattle.grammar.specs.Parser.{got, bad, Res, give, stop, tell, bind, by_name, by_number, by_integral, need}
use Rattle.grammar.specs.Parser.{behind_sign, parse}
use Rattle.grammar.specs.Parser.{signed_value, a_number, by_signed_number, on_more, valued, many, initially}
use Rattle.grammar.specs.Parser.{assigned, rated, begun_state, integrated, equated, many_names, with_inputs}
use Rattle.grammar.specs.Parser.{block_named, headed, form_of, statement, at_end, entire}
use Rattle.grammar.proofs.Endings.{here_mark}
use Rattle.grammar.proofs.Looks.{add_here, start_cases}
use Rattle.grammar.proofs.Local.{Like, Reading, Loc, loc_bind, loc_seen, loc_rest, loc_tell, loc_give, loc_stop}
use Rattle.grammar.proofs.Local.{loc_mark, loc_need, loc_behind, local}

-- by what stands next
loc_start : {A : Type 0} (d : ℕ) (s : List Symbol) (G : Start → Reading A)
    → (s ≡ next s ∷ rest s → Loc d s (G Constants))
    → (s ≡ word INTGRL ∷ rest s → Loc d s (G Integral))
    → ((k : ℕ) → s ≡ name k ∷ rest s → Loc d s (G (Named k)))
    → ((x : Float) → s ≡ number x ∷ rest s → Loc d s (G (Valued x)))
    → (s ≡ word PROCED ∷ rest s → Loc d s (G Header))
    → (s ≡ word ENDPRO ∷ rest s → Loc d s (G Ending))
    → Loc d s (G Other) → Loc d s (λ d' u. G (start_of (next u)) d' u)
loc_start d s G c i k v h e z = loc_seen d s start_of G (start_cases s (λ p. Loc d s (G p)) (λ _. c) i k v h e z)

-- a name, or else a fault
loc_name : {A : Type 0} (d : ℕ) (s : List Symbol) (x : ℕ → List Symbol → Res A) → ((k : ℕ) → Loc d (rest s) (λ _. x k))
    → Loc d s (λ _ u. by_name (start_of (next u)) (λ k. x k (rest u)) (λ _. stop 18 u))
loc_name d s x g =
    let no = loc_stop d s 18 in
    loc_start d s (λ p _ u. by_name p (λ k. x k (rest u)) (λ _. stop 18 u)) (λ _. no) (λ _. no)
    (λ k q. loc_rest d s (λ _. x k) q (g k)) (λ _ _. no) (λ _. no) (λ _. no) no

-- a number behind its sign
number_loc : (d : ℕ) (o : Op) (s : List Symbol) → Loc d s (λ _. a_number o)
number_loc d o s =
    let no = loc_stop d s 18 in
    loc_start d s (λ p _ u. by_number p (λ x. give (signed_value o x) (rest u)) (λ _. stop 18 u)) (λ _. no) (λ _. no)
    (λ _ _. no)
    (λ x q. loc_rest d s (λ _. give (signed_value o x)) q (loc_give d (rest s) _)) (λ _. no) (λ _. no) no

-- with a sign or without
signed_loc : (d : ℕ) (s : List Symbol) → Loc d s (λ _. by_signed_number)
unfolding by_signed_number
signed_loc d s =
    loc_seen d s add_op (λ o _ u. a_number o (behind_sign o u))
    (loc_behind d s (λ _. a_number (add_op (next s))) (add_op (next s)) (add_here s) (number_loc d (add_op (next s))))

-- behind a constant's value, or one of several names
more_loc : {A : Type 0} (d : ℕ) (go : List Symbol → Res (List A)) (c : A) → ((s : List Symbol) → Loc d s (λ _. go))
    → (s : List Symbol) → Loc d s (λ _. on_more go c)
more_loc d go c ih s =
    loc_mark d s 43 (λ _ u. bind (go (rest u)) λ cs t. give (c ∷ cs) t) (λ _. give (c ∷ []))
    (λ m. loc_rest d s (λ _ u. bind (go u) λ cs t. give (c ∷ cs) t) (here_mark s 43 m)
    (loc_bind d (rest s) (λ _. go) (λ _ cs t. give (c ∷ cs) t) (ih (rest s)) λ cs t. loc_give d t (c ∷ cs)))
    (loc_give d s (c ∷ []))

-- constants, whatever the count of calls
many_loc : (f d : ℕ) (s : List Symbol) → Loc d s (λ _. many f)
unfolding many
many_loc zero d s = loc_stop d s 18
many_loc (suc f) d s =
    loc_name d s (λ k u. need 61 u (valued (many f) k)) λ k.
    loc_need d (rest s) 60 (λ _. valued (many f) k) λ m.
    loc_bind d (rest (rest s)) (λ _. by_signed_number)
    (λ _ x t. tell (constant_drafts (constant_of k x)) (on_more (many f) (constant_of k x) t))
    (signed_loc d (rest (rest s)))
    λ x t. loc_tell d t (constant_drafts (constant_of k x)) (λ _. on_more (many f) (constant_of k x))
    (more_loc d (many f) (constant_of k x) (many_loc f d) t)

-- an initial
initially_loc : (d : ℕ) (s : List Symbol) → Loc d s (λ _. initially)
unfolding initially
initially_loc d s =
    let given =
    loc_bind d s (λ _. by_signed_number) (λ _ x t. give (plain x) t) (signed_loc d s) λ x t. loc_give d t (plain x) in
    loc_start d s (λ p _ u. by_name p (λ k. give (from k) (rest u))
    (λ _. bind (by_signed_number u) λ x t. give (plain x) t))
    (λ _. given) (λ _. given)
    (λ k q. loc_rest d s (λ _. give (from k)) q (loc_give d (rest s) (from k))) (λ _ _. given)
    (λ _. given) (λ _. given) given

module _ (f d k : ℕ) where
  -- an expression behind name =
  assigned_loc : (s : List Symbol) → Loc d s (λ d'. assigned f d' k)
  unfolding assigned
  assigned_loc s =
      loc_bind d s (parse f expr) (λ _ e t. tell (draft kind_store k ∷ []) (give (assignment k e) t))
      (local f expr d s tt)
      λ e t. loc_tell d t (draft kind_store k ∷ []) (λ _. give (assignment k e)) (loc_give d t (assignment k e))

  -- behind name = INTGRL
  integrated_loc : (s : List Symbol) → Loc d s (λ d'. integrated f d' k)
  unfolding integrated
  integrated_loc s =
      loc_need d s 39 (λ d'. begun_state f d' k) λ m.
      loc_bind d (rest s) (λ _. initially)
      (λ d' i t. tell (draft kind_initial k ∷ initial_draft i ∷ []) (need 44 t (rated f d' k i)))
      (initially_loc d (rest s)) λ i t.
      loc_tell d t (draft kind_initial k ∷ initial_draft i ∷ []) (λ d' u. need 44 u (rated f d' k i))
      (loc_need d t 43 (λ d'. rated f d' k i) λ m.
      loc_bind d (rest t) (parse f expr) (λ _ e u. need 41 u λ v. tell (draft kind_rate k ∷ []) (give (state k i e) v))
      (local f expr d (rest t) tt) λ e u.
      loc_need d u 40 (λ _ v. tell (draft kind_rate k ∷ []) (give (state k i e) v)) λ m.
      loc_tell d (rest u) (draft kind_rate k ∷ []) (λ _. give (state k i e)) (loc_give d (rest u) (state k i e)))

  -- behind name =
  equated_loc : (s : List Symbol) → Loc d s (λ d'. equated f d' k)
  equated_loc s =
      let plainly = assigned_loc s in
      loc_start d s (λ p d' u. by_integral p (λ _. integrated f d' k (rest u)) (λ _. assigned f d' k u)) (λ _. plainly)
      (λ q. loc_rest d s (λ d'. integrated f d' k) q (integrated_loc (rest s))) (λ _ _. plainly)
      (λ _ _. plainly) (λ _. plainly) (λ _. plainly) plainly

-- names, whatever the count of calls
names_loc : (n f d : ℕ) (s : List Symbol) → Loc d s (λ _. many_names n f)
unfolding many_names
names_loc n zero d s = loc_stop d s 18
names_loc n (suc f) d s =
    loc_name d s (λ k u. tell (draft n k ∷ []) (on_more (many_names n f) k u)) λ k.
    loc_tell d (rest s) (draft n k ∷ []) (λ _. on_more (many_names n f) k)
    (more_loc d (many_names n f) k (names_loc n f d) (rest s))

-- behind PROCED
headed_loc : (f d : ℕ) (s : List Symbol) → Loc d s (λ _. headed f)
unfolding headed
headed_loc f d s =
    loc_bind d s (λ _. many_names kind_output f) (λ _ os t. need 61 t (block_named f os)) (names_loc kind_output f d s)
    λ os t.
    loc_need d t 60 (λ _. block_named f os) λ m.
    loc_name d (rest t) (λ _ u. need 40 u (with_inputs f os)) λ k.
    loc_need d (rest (rest t)) 39 (λ _. with_inputs f os) λ m.
    loc_bind d (rest (rest (rest t))) (λ _. many_names kind_input f) (λ _ is u. need 41 u (give (header os is)))
    (names_loc kind_input f d (rest (rest (rest t)))) λ is u.
    loc_need d u 40 (λ _. give (header os is)) λ m. loc_give d (rest u) (header os is)

-- a statement at the front
statement_loc : (f d : ℕ) (s : List Symbol) → Loc d s (statement f)
unfolding statement
statement_loc f d s =
    let no = loc_stop d s 18 in
    loc_start d s (λ p d' u. form_of f d' p u)
    (λ q. loc_rest d s (λ _ u. bind (many f u) λ cs t. give (constants cs) t) q
    (loc_bind d (rest s) (λ _. many f) (λ _ cs t. give (constants cs) t) (many_loc f d (rest s)) λ cs t. loc_give d t
    (constants cs)))
    (λ _. no)
    (λ k q. loc_rest d s (λ d' u. need 61 u (equated f d' k)) q
    (loc_need d (rest s) 60 (λ d'. equated f d' k) λ m. equated_loc f d k (rest (rest s))))
    (λ _ _. no)
    (λ q. loc_rest d s (λ _. headed f) q (headed_loc f d (rest s)))
    (λ q. loc_rest d s (λ _ u. tell (draft kind_ending 0 ∷ []) (give ending u)) q
    (loc_tell d (rest s) (draft kind_ending 0 ∷ []) (λ _. give ending) (loc_give d (rest s) ending)))
    no

-- the end, or one token too many
ended_loc : (d : ℕ) (x : Says) (t : List Symbol) → Loc d t (λ _. at_end x)
ended_loc d x [] =
    record { ends = ([], refl, λ d' u le like. done u like) }
  where
    done : (u : List Symbol) → Like u [] → (at_end x u).end ≡ got x u
    done [] like = refl
    done (a ∷ v) like = absurd like
ended_loc d x (a ∷ t) =
    record { ends = ([], refl, λ d' u le n like. over u like) }
  where
    over : (u : List Symbol) → Like u (a ∷ t) → (at_end x u).end ≡ bad 18 u
    over [] like = absurd like
    over (b ∷ v) like = refl

-- a row, read as a statement with nothing behind it
pub entire_loc : (f d : ℕ) (s : List Symbol) → Loc d s (entire f)
unfolding entire
entire_loc f d s = loc_bind d s (statement f) (λ _. at_end) (statement_loc f d s) λ x t. ended_loc d x t
