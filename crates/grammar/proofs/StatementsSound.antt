-- Statements: what is read is derived, and what is written are its drafts; where a fault is, what stands before it is
-- the front of a statement.
use Prim.Native.Nat.{ℕ, zero, suc, ◌≤◌}
use mathlib.Core.Path.{◌≡◌, refl}
use mathlib.Core.List.{List, [], ◌∷◌, ◌++◌, append_assoc, append-nil, map}
use lib.Ieee.{Float}
use Rattle.laws.specs.Lists.{concat_map}
use Rattle.tokens.specs.Symbol.{INTGRL, PROCED, Symbol, mark, number, name, word}
use Rattle.drafts.specs.Tree.{value, Constant, constant_of, Initial, plain, from, Says, constants, assignment, state}
use Rattle.drafts.specs.Tree.{header, ending}
use Rattle.drafts.specs.Kinds.{kind_initial, kind_store, kind_rate, kind_output, kind_input, kind_ending}
use Rattle.drafts.specs.Drafts.{Draft, draft, constant_drafts, initial_draft, drafts_of}
use Rattle.grammar.specs.Look.{next, rest, Op, none, op, add_op, start_of}
use Rattle.grammar.specs.Grammar.{expr, Signed, unsigned_number, signed_number, Many, one, more, Initially}
use Rattle.grammar.specs.Grammar.{of_number, of_name, Names, one_name, more_names}
use Rattle.grammar.specs.Grammar.{Derives, of_constants, of_assignment, of_state, of_header, of_ending}
use Rattle.grammar.specs.Parser.{Res, give, stop, tell, by_name, by_number, by_integral}
use Rattle.grammar.specs.Parser.{behind_sign, parse}
use Rattle.grammar.specs.Parser.{signed_value, a_number, by_signed_number, on_more, valued, many, initially}
use Rattle.grammar.specs.Parser.{assigned, rated, begun_state, integrated, equated, many_names, with_inputs}
use Rattle.grammar.specs.Parser.{block_named, headed, form_of, statement, at_end, entire}
use Rattle.grammar.proofs.Endings.{Asked, Before, Out, out_mark, out_tell, out_give, out_stop, out_rest}
use Rattle.grammar.proofs.Endings.{out_bind, out_map, out_need}
use Rattle.grammar.proofs.Endings.{here_mark, Fronts, extend, behind, fresh}
use Rattle.grammar.proofs.Looks.{add_here, start_cases}
use Rattle.drafts.proofs.Postfix.{drafted_items}
use Rattle.grammar.proofs.Sound.{der_le, nought, zero_expr, sound}

module _ {A : Type 0} (L : Asked A) (F : Before) where
  -- a name, or else
  out_name : (s : List Symbol) (x : ℕ → Res A) (y : Unit {0} → Res A)
      → ((k : ℕ) → s ≡ name k ∷ rest s → Out L F s (x k)) → Out L F s (y tt)
      → Out L F s (by_name (start_of (next s)) x y)
  out_name s x y g h = start_cases s (λ p. Out L F s (by_name p x y)) (λ _ _. h) (λ _. h) g (λ _ _. h) (λ _. h)
      (λ _. h) h

  -- a number, or else
  out_number : (s : List Symbol) (x : Float → Res A) (y : Unit {0} → Res A)
      → ((v : Float) → s ≡ number v ∷ rest s → Out L F s (x v)) → Out L F s (y tt)
      → Out L F s (by_number (start_of (next s)) x y)
  out_number s x y g h = start_cases s (λ p. Out L F s (by_number p x y)) (λ _ _. h) (λ _. h) (λ _ _. h) g (λ _. h)
      (λ _. h) h

-- ---- [sign] number

-- what is asked of it: nothing is written
abbrev pub Number : Asked Float
Number o w x = Signed w x × (o ≡ [])

-- and at a fault
abbrev pub NumberVia : ℕ → Before
NumberVia d c w = Fronts (λ D. Signed) d c w

-- a number behind its sign
number_out : (L : Asked Float) (F : Before) (o : Op) (s : List Symbol)
    → ((x : Float) → L [] (number x ∷ []) (signed_value o x)) → F 18 []
    → Out L F s (a_number o s)
number_out L F o s l p =
    out_number L F s _ _ (λ x q. out_rest L F s _ q (out_give _ _ (rest s) _ (l x))) (out_stop L F s p)

-- with a sign or without
pub signed_out : (d : ℕ) (s : List Symbol) → Out Number (NumberVia d) s (by_signed_number s)
unfolding by_signed_number
signed_out d s = go (add_op (next s)) refl
  where
    go : (o : Op) → add_op (next s) ≡ o → Out Number (NumberVia d) s (a_number o (behind_sign o s))
    go none e =
        number_out _ _ none s (λ x. (unsigned_number, refl)) (fresh [] λ D le. (number nought ∷ [], _, unsigned_number))
    go (op o) e =
        out_rest _ _ s _ (add_here s o e)
        (number_out _ _ (op o) (rest s) (λ x. (signed_number e, refl))
        (fresh (next s ∷ []) λ D le. (number nought ∷ [], _, signed_number e)))

-- ---- constants

-- what is asked of them: the drafts of each are written
abbrev pub Consts : Asked (List Constant)
Consts o w cs = Many w cs × (o ≡ concat_map constant_drafts cs)

-- and at a fault
abbrev pub ConstsVia : ℕ → Before
ConstsVia d c w = Fronts (λ D. Many) d c w

-- before anything is read, constants can follow
zero_many : (d : ℕ) → ConstsVia d 18 []
zero_many d = fresh [] λ D le. (_, _, one {k = 0} (unsigned_number {x = nought}))

-- behind a constant's value: a comma and more, or nothing
more_out : (d : ℕ) (go : List Symbol → Res (List Constant)) → ((s : List Symbol) → Out Consts (ConstsVia d) s (go s))
    → (k : ℕ) (w : List Symbol) (o : List Draft) (x : Float) (t : List Symbol) → Number o w x
    → Out (λ o' v. Consts (o ++ o') (name k ∷ mark 61 ∷ (w ++ v)))
    (λ c v. ConstsVia d c (name k ∷ mark 61 ∷ (w ++ v))) t
    (tell (constant_drafts (constant_of k x)) (on_more go (constant_of k x) t))
unfolding concat_map
more_out d go ih k w o x t r =
    out_tell _ _ (constant_drafts (constant_of k x)) t _
    (out_mark _ _ 43 t _ _
    (λ m. out_rest _ _ t _ (here_mark t 43 m)
    (out_map _ _ (rest t) (go (rest t)) (λ cs. constant_of k x ∷ cs) (ih (rest t))
    (λ o' v cs z. (more r.0 z.0, rw (r.1, z.1)))
    λ c v z. rw append_assoc at (behind {H = λ D. Many} (name k ∷ mark 61 ∷ (w ++ mark 44 ∷ []))
    (λ D u cs le a. (constant_of k x ∷ cs, rw append_assoc (more r.0 a))) v z)))
    (out_give _ _ t (constant_of k x ∷ []) (rw (append-nil w) (one r.0, rw r.1))))

-- constants, whatever the count of calls
many_out : (f d : ℕ) (s : List Symbol) → Out Consts (ConstsVia d) s (many f s)
unfolding many
many_out zero d s = out_stop _ _ s (zero_many d)
many_out (suc f) d s =
    out_name _ _ s _ _
    (λ k q. out_rest _ _ s _ q
    (out_need _ _ 60 (rest s) (valued (many f) k)
    (λ m. out_bind _ _ (rest (rest s)) (by_signed_number (rest (rest s))) _ (signed_out d (rest (rest s)))
    (λ o w x t r. more_out d (many f) (many_out f d) k w o x t r)
    λ c. extend (name k ∷ mark 61 ∷ []) λ D w x le r. ([], constant_of k x ∷ [], rw (append-nil w) (one r)))
    (fresh (name k ∷ []) λ D le. (mark 61 ∷ number nought ∷ [], _, one unsigned_number))))
    (out_stop _ _ s (zero_many d))

-- ---- initials

-- what is asked of one: nothing is written
abbrev pub Init : Asked Initial
Init o w i = Initially w i × (o ≡ [])

-- and at a fault
abbrev pub InitVia : ℕ → Before
InitVia d c w = Fronts (λ D. Initially) d c w

-- a name, or a signed number
pub initially_out : (d : ℕ) (s : List Symbol) → Out Init (InitVia d) s (initially s)
unfolding initially
initially_out d s =
    out_name _ _ s _ _ (λ k q. out_rest _ _ s _ q (out_give _ _ (rest s) (from k) (of_name, refl)))
    (out_map _ _ s (by_signed_number s) plain (signed_out d s) (λ o w x r. (of_number r.0, r.1)) λ c.
    behind [] λ D w x le r. (plain x, of_number r))

-- ---- statements

-- what is asked of one: its drafts are written
abbrev pub Stated : ℕ → Asked Says
Stated d o w x = Derives d w x × (o ≡ drafts_of x)

-- and at a fault
abbrev pub StatedVia : ℕ → Before
StatedVia d c w = Fronts Derives d c w

-- the tokens w behind name =, and behind name = INTGRL (
abbrev assigns : ℕ → List Symbol → List Symbol
assigns k w = name k ∷ mark 61 ∷ w

abbrev integral : ℕ → List Symbol → List Symbol
integral k w = name k ∷ mark 61 ∷ word INTGRL ∷ mark 40 ∷ w

-- with an initial and an expression of 0, each front of a state can be completed
zero_state : {d : ℕ} (k : ℕ) {w : List Symbol} {i : Initial} → Initially w i
    → Derives d (integral k (w ++ mark 44 ∷ number nought ∷ mark 41 ∷ [])) (state k i (value nought))
zero_state k a = of_state a zero_expr

module _ (f d k : ℕ) where
  -- an expression behind name =
  assigned_out : (s : List Symbol) → Out (λ o w. Stated d o (assigns k w)) (λ c w. StatedVia d c (assigns k w)) s
      (assigned f d k s)
  unfolding assigned
  assigned_out s =
      out_bind _ _ s (parse f expr d s) _ (sound f expr d s tt)
      (λ o w e t r. out_tell _ _ (draft kind_store k ∷ []) t _
      (out_give _ _ t (assignment k e) (rw (append-nil w) (of_assignment r.0, rw (r.1, drafted_items e)))))
      λ c. behind (assigns k []) λ D w e le r. (assignment k e, of_assignment r)

  -- behind the initial w, whose drafts are written
  rated_out : (w : List Symbol) (o : List Draft) (i : Initial) (s : List Symbol) → Init o w i
      → Out (λ o' v. Stated d (o ++ (draft kind_initial k ∷ initial_draft i ∷ o')) (integral k (w ++ mark 44 ∷ v)))
      (λ c v. StatedVia d c (integral k (w ++ mark 44 ∷ v))) s (rated f d k i s)
  rated_out w o i s r =
      out_bind _ _ s (parse f expr d s) _ (sound f expr d s tt)
      (λ o' v e t z. out_need _ _ 40 t (λ u. tell (draft kind_rate k ∷ []) (give (state k i e) u))
      (λ m. out_tell _ _ (draft kind_rate k ∷ []) (rest t) _
      (out_give _ _ (rest t) (state k i e) (of_state r.0 z.0, rw (r.1, z.1, drafted_items e))))
      (rw (append-nil v)
      (fresh (integral k (w ++ mark 44 ∷ v)) λ D le.
      (mark 41 ∷ [], state k i e, rw append_assoc (of_state r.0 (der_le z.0 D le))))))
      λ c v z. rw append_assoc at (extend {H = Derives} (integral k (w ++ mark 44 ∷ []))
      (λ D v e le a. (mark 41 ∷ [], state k i e, rw append_assoc (of_state r.0 a))) v z)

  -- behind name = INTGRL
  integrated_out : (s : List Symbol)
      → Out (λ o w. Stated d o (name k ∷ mark 61 ∷ word INTGRL ∷ w))
      (λ c w. StatedVia d c (name k ∷ mark 61 ∷ word INTGRL ∷ w)) s (integrated f d k s)
  unfolding integrated
  integrated_out s =
      out_need _ _ 39 s (begun_state f d k)
      (λ m. out_bind _ _ (rest s) (initially (rest s)) _ (initially_out d (rest s))
      (λ o w i t r. out_tell _ _ (draft kind_initial k ∷ initial_draft i ∷ []) t _
      (out_need _ _ 43 t (rated f d k i) (λ m. rated_out w o i (rest t) r)
      (rw (append-nil w) (fresh (integral k w) λ D le. (_, _, zero_state k r.0)))))
      λ c. extend (integral k []) λ D w i le r. (_, _, zero_state k r))
      (fresh (name k ∷ mark 61 ∷ word INTGRL ∷ []) λ D le.
      (_, _, zero_state k {w = number nought ∷ []} (of_number unsigned_number)))

  -- behind name =
  equated_out : (s : List Symbol) → Out (λ o w. Stated d o (assigns k w)) (λ c w. StatedVia d c (assigns k w)) s
      (equated f d k s)
  equated_out s =
      let plainly = assigned_out s in
      start_cases s
      (λ p. Out (λ o w. Stated d o (assigns k w)) (λ c w. StatedVia d c (assigns k w)) s
      (by_integral p (λ _. integrated f d k (rest s)) (λ _. assigned f d k s)))
      (λ _ _. plainly) (λ q. out_rest _ _ s _ q (integrated_out (rest s))) (λ _ _. plainly) (λ _ _. plainly)
      (λ _. plainly) (λ _. plainly) plainly

-- ---- a block's header

-- what is asked of names: a draft of the kind n for each is written
abbrev pub Listed : ℕ → Asked (List ℕ)
Listed n o w ks = Names w ks × (o ≡ map (draft n) ks)

-- and at a fault
abbrev pub ListedVia : ℕ → Before
ListedVia d c w = Fronts (λ D. Names) d c w

-- before anything is read, a name can follow
zero_names : (d : ℕ) → ListedVia d 18 []
zero_names d = fresh [] λ D le. (_, _, one_name {k = 0})

-- names, whatever the count of calls
pub names_out : (n f d : ℕ) (s : List Symbol) → Out (Listed n) (ListedVia d) s (many_names n f s)
unfolding many_names
names_out n zero d s = out_stop _ _ s (zero_names d)
names_out n (suc f) d s =
    out_name _ _ s _ _
    (λ k q. out_rest _ _ s _ q
    (out_tell _ _ (draft n k ∷ []) (rest s) _
    (out_mark _ _ 43 (rest s) _ _
    (λ m. out_rest _ _ (rest s) _ (here_mark (rest s) 43 m)
    (out_map _ _ (rest (rest s)) (many_names n f (rest (rest s))) (λ ks. k ∷ ks) (names_out n f d (rest (rest s)))
    (λ o w ks z. (more_names z.0, rw z.1))
    λ c. behind (name k ∷ mark 44 ∷ []) λ D w ks le a. (k ∷ ks, more_names a)))
    (out_give _ _ (rest s) (k ∷ []) (one_name, refl)))))
    (out_stop _ _ s (zero_names d))

-- the tokens v behind PROCED, the outputs w and =; and behind the block's name with its opening parenthesis
abbrev heading : List Symbol → List Symbol → List Symbol
heading w v = word PROCED ∷ (w ++ mark 61 ∷ v)

abbrev block : List Symbol → ℕ → List Symbol → List Symbol
block w k v = heading w (name k ∷ mark 40 ∷ v)

-- with a block's name and an input, each front of a header can be completed
zero_header : {d : ℕ} (k : ℕ) {w : List Symbol} {os : List ℕ} → Names w os
    → Derives d (block w k (name 0 ∷ mark 41 ∷ [])) (header os (0 ∷ []))
zero_header k a = of_header k a one_name

module _ (f d : ℕ) where
  -- behind the outputs w and =, whose drafts are written
  module _ (w : List Symbol) (o : List Draft) (os : List ℕ) (r : Listed kind_output o w os) where
    -- the inputs
    inputs_out : (k : ℕ) (s : List Symbol)
        → Out (λ o' v. Stated d (o ++ o') (block w k v)) (λ c v. StatedVia d c (block w k v)) s (with_inputs f os s)
    inputs_out k s =
        out_bind _ _ s (many_names kind_input f s) _ (names_out kind_input f d s)
        (λ o' v is t z. out_need _ _ 40 t (give (header os is))
        (λ m. out_give _ _ (rest t) (header os is) (of_header k r.0 z.0, rw (r.1, z.1, append-nil)))
        (rw (append-nil v)
        (fresh (block w k v) λ D le. (mark 41 ∷ [], header os is, rw append_assoc (of_header k r.0 z.0)))))
        λ c v z. rw append_assoc at (extend {H = Derives} (block w k [])
        (λ D v is le a. (mark 41 ∷ [], header os is, rw append_assoc (of_header k r.0 a))) v z)

    -- the block's name
    block_out : (s : List Symbol)
        → Out (λ o' v. Stated d (o ++ o') (heading w v)) (λ c v. StatedVia d c (heading w v)) s (block_named f os s)
    block_out s =
        out_name _ _ s _ _
        (λ k q. out_rest _ _ s _ q
        (out_need _ _ 39 (rest s) (with_inputs f os) (λ m. inputs_out k (rest (rest s)))
        (fresh (heading w (name k ∷ [])) λ D le.
        (mark 40 ∷ name 0 ∷ mark 41 ∷ [], header os (0 ∷ []), rw append_assoc (zero_header k r.0)))))
        (out_stop _ _ s
        (fresh (heading w []) λ D le.
        (name 0 ∷ mark 40 ∷ name 0 ∷ mark 41 ∷ [], header os (0 ∷ []), rw append_assoc (zero_header 0 r.0))))

  -- behind PROCED
  headed_out : (s : List Symbol)
      → Out (λ o w. Stated d o (word PROCED ∷ w)) (λ c w. StatedVia d c (word PROCED ∷ w)) s (headed f s)
  unfolding headed
  headed_out s =
      out_bind _ _ s (many_names kind_output f s) _ (names_out kind_output f d s)
      (λ o w os t r. out_need _ _ 60 t (block_named f os) (λ m. block_out w o os r (rest t))
      (rw (append-nil w) (fresh (word PROCED ∷ w) λ D le. (_, _, zero_header 0 r.0))))
      λ c. extend (word PROCED ∷ []) λ D w os le r. (_, _, zero_header 0 r)

-- a statement at the front
statement_out : (f d : ℕ) (s : List Symbol) → Out (Stated d) (StatedVia d) s (statement f d s)
unfolding statement
statement_out f d s =
    let nothing : Out (Stated d) (StatedVia d) s (stop 18 s) =
    out_stop _ _ s (fresh [] λ D le. (_, _, of_assignment {k = 0} zero_expr)) in
    start_cases s (λ p. Out (Stated d) (StatedVia d) s (form_of f d p s))
    (λ e q. out_rest _ _ s _ q
    (out_map _ _ (rest s) (many f (rest s)) constants (many_out f d (rest s))
    (λ o w cs r. (of_constants e r.0, r.1))
    λ c. behind (next s ∷ []) λ D w cs le r. (constants cs, of_constants e r)))
    (λ _. nothing)
    (λ k q. out_rest _ _ s _ q
    (out_need _ _ 60 (rest s) (equated f d k) (λ m. equated_out f d k (rest (rest s)))
    (fresh (name k ∷ []) λ D le. (mark 61 ∷ number nought ∷ [], _, of_assignment zero_expr))))
    (λ _ _. nothing)
    (λ q. out_rest _ _ s _ q (headed_out f d (rest s)))
    (λ q. out_rest _ _ s _ q
    (out_tell _ _ (draft kind_ending 0 ∷ []) (rest s) _ (out_give _ _ (rest s) ending (of_ending, refl))))
    nothing

-- what is derived with d levels is derived with more
pub stated_le : {d : ℕ} {w : List Symbol} {x : Says} → Derives d w x → (D : ℕ) → d ≤ D → Derives D w x
stated_le (of_constants h a) D le = of_constants h a
stated_le (of_assignment a) D le = of_assignment (der_le a D le)
stated_le (of_state i a) D le = of_state i (der_le a D le)
stated_le (of_header k a b) D le = of_header k a b
stated_le of_ending D le = of_ending

-- and no token more
pub entire_out : (f d : ℕ) (s : List Symbol) → Out (Stated d) (StatedVia d) s (entire f d s)
unfolding entire
entire_out f d s = out_bind _ _ s (statement f d s) at_end (statement_out f d s) end λ c w r. r
  where
    end : (o : List Draft) (w : List Symbol) (x : Says) (t : List Symbol) → Stated d o w x
        → Out (λ o' v. Stated d (o ++ o') (w ++ v)) (λ c v. StatedVia d c (w ++ v)) t (at_end x t)
    end o w x [] q = out_give _ _ [] x (rw (append-nil o, append-nil w) q)
    end o w x (t ∷ s) q =
        out_stop _ _ (t ∷ s) (rw (append-nil w) (fresh w λ D le. ([], x, rw (append-nil w) (stated_le q.0 D le))))
