-- What is written has at most one draft for each token that is read, at a fault too; so a buffer with a place for each
-- token has room. A fault's code is 18 or 19.
use Prim.Native.Nat.{ℕ, zero, suc, ◌+◌, ◌*◌, ◌≤◌}
use mathlib.Core.Path.{◌≡◌, refl, ap, ◌∙◌}
use mathlib.Core.Bool.{Bool, true, false}
use mathlib.Core.List.{List, [], ◌∷◌, ◌++◌, append_assoc}
use native.Mathlib.Omega.{arith}
use lib.Dec.{eqb}
use lib.Ieee.{Float}
use lib.ListN.{length, length-append}
use Rattle.tokens.specs.Symbol.{Symbol, mark}
use Rattle.drafts.specs.Tree.{Two, plus, minus, times, over, compar, Tree, two, constant_of, plain, from, Says}
use Rattle.drafts.specs.Tree.{constants, assignment, state, header, ending}
use Rattle.drafts.specs.Kinds.{kind_two}
use Rattle.drafts.specs.Kinds.{kind_initial, kind_store, kind_rate, kind_output, kind_input, kind_ending}
use Rattle.drafts.specs.Drafts.{Draft, draft, drafted, constant_drafts, initial_draft}
use Rattle.grammar.specs.Look.{next, rest, byte_of, Op, none, op, add_op, mul_op, signed}
use Rattle.grammar.specs.Look.{Opening, group, pair, pair_of, triple, triple_of, triple_of_two, Given, full}
use Rattle.grammar.specs.Look.{wants, give_to}
use Rattle.grammar.specs.Look.{FactorStart, Leaf, Paren, Call, NoFactor, factor_start, start_of}
use Rattle.grammar.specs.Grammar.{Mode, expr, term, factor, terms, factors, opened, list}
use Rattle.grammar.specs.Parser.{End, got, bad, Res, give, stop, tell, onward, bind, when, by_op, by_factor}
use Rattle.grammar.specs.Parser.{by_given, need}
use Rattle.grammar.specs.Parser.{behind_sign, sign_drafts, open_drafts, parse, rank, reads, by_name}
use Rattle.grammar.specs.Parser.{by_number, by_integral}
use Rattle.grammar.specs.Parser.{signed_value, a_number, by_signed_number, on_more, valued, many, initially}
use Rattle.grammar.specs.Parser.{assigned, rated, begun_state, integrated, equated, many_names, with_inputs}
use Rattle.grammar.specs.Parser.{block_named, headed, form_of, statement, at_end, entire}
use Rattle.grammar.proofs.Endings.{here_mark, is_mark}
use Rattle.grammar.proofs.Looks.{add_here, mul_here, leaf_here, call_here, Bare, bare_value, bare_name}
use Rattle.grammar.proofs.Looks.{bare_time, as_starting, start_cases}

-- a front w of s is read, and n drafts are written: with b more there are at most a more than tokens; at a fault none
-- are due any more, and its code is 18 or 19
abbrev pub FitsEnd : {A : Type 0} → List Symbol → ℕ → ℕ → ℕ → End A → Type 0
FitsEnd s b a n (got e t) = (w : List Symbol) × (s ≡ w ++ t) × (n + b ≤ length w + a)
FitsEnd s b a n (bad c t) = (w : List Symbol) × (s ≡ w ++ t) × (n ≤ length w + a) × (18 ≤ c) × (c ≤ 19)

-- the reading x of s fits
pub record Fits {A : Type 0} (s : List Symbol) (b a : ℕ) (x : Res A) : Type 0 where
  pub ends : FitsEnd s b a (length x.out) x.end

module _ {A : Type 0} where
  -- what asks less
  fits_mono : {b a : ℕ} {s : List Symbol} {x : Res A} (b' a' : ℕ) → Fits s b a x → b' + a ≤ b + a' → a ≤ a'
      → Fits s b' a' x
  fits_mono {b} {a} {s} {x} b' a' h p q = record { ends = go x.end h.ends }
    where
      go : (t : End A) → FitsEnd s b a (length x.out) t → FitsEnd s b' a' (length x.out) t
      go (got e t) r = (r.0, r.1, omega arith)
      go (bad c t) r = (r.0, r.1, omega arith, r.3, r.4)

  -- nothing is read and nothing written
  fits_give : (s : List Symbol) (e : A) → Fits s 0 0 (give e s)
  fits_give s e = record { ends = ([], refl, omega arith) }

  fits_stop : (s : List Symbol) (b a : ℕ) → Fits {A = A} s b a (stop 18 s)
  fits_stop s b a = record { ends = ([], refl, omega arith, omega arith, omega arith) }

  fits_deep : (s : List Symbol) (b a : ℕ) → Fits {A = A} s b a (stop 19 s)
  fits_deep s b a = record { ends = ([], refl, omega arith, omega arith, omega arith) }

  -- behind drafts
  fits_tell : (is : List Draft) (s : List Symbol) (b a : ℕ) (x : Res A) → Fits s b a x
      → Fits s b (length is + a) (tell is x)
  fits_tell is s b a x h = record { ends = go x.end h.ends }
    where
      go : (t : End A) → FitsEnd s b a (length x.out) t → FitsEnd s b (length is + a) (length (is ++ x.out)) t
      go (got e t) r = (r.0, r.1, let l = length-append is x.out in omega arith)
      go (bad c t) r = (r.0, r.1, let l = length-append is x.out in omega arith, r.3, r.4)

  -- behind a token, which pays for a draft
  fits_rest : {t : Symbol} (s : List Symbol) (b a : ℕ) (x : Res A) → s ≡ t ∷ rest s → Fits (rest s) b (suc a) x
      → Fits s b a x
  fits_rest {t} s b a x q h = record { ends = go x.end h.ends }
    where
      go : (u : End A) → FitsEnd (rest s) b (suc a) (length x.out) u → FitsEnd s b a (length x.out) u
      go (got e u) r = (t ∷ r.0, q ∙ ap (λ (z : List Symbol). t ∷ z) r.1, omega arith)
      go (bad c u) r = (t ∷ r.0, q ∙ ap (λ (z : List Symbol). t ∷ z) r.1, omega arith, r.3, r.4)

  -- at a mark, or else
  fits_mark : (m : ℕ) {s : List Symbol} {b a : ℕ} (x y : Unit {0} → Res A)
      → (next s ≡ mark (suc m) → Fits s b a (x tt)) → Fits s b a (y tt)
      → Fits s b a (when (eqb (byte_of (next s)) (suc m)) x y)
  fits_mark m {s} {b} {a} x y g h = go (eqb (byte_of (next s)) (suc m)) refl
    where
      go : (t : Bool) → eqb (byte_of (next s)) (suc m) ≡ t → Fits s b a (when t x y)
      go true e = g (is_mark (next s) m e)
      go false e = h

  -- behind a mark that must stand next
  fits_need : (m : ℕ) (s : List Symbol) (b a : ℕ) (k : List Symbol → Res A) → Fits (rest s) b (suc a) (k (rest s))
      → Fits s b a (need (suc m) s k)
  fits_need m s b a k h = fits_mark m _ _ (λ q. fits_rest s b a (k (rest s)) (here_mark s m q) h) (fits_stop s b a)

-- one after the other
fits_bind : {A B : Type 0} (s : List Symbol) (b c a : ℕ) (x : Res A) (k : A → List Symbol → Res B) → Fits s b a x
    → ((e : A) (t : List Symbol) → Fits t c b (k e t)) → Fits s c a (bind x k)
unfolding bind
fits_bind {A} {B} s b c a x k h g = record { ends = go x.out x.end h.ends }
  where
    then : (w t : List Symbol) (o : List Draft) (e : A) → s ≡ w ++ t → length o + b ≤ length w + a → (y : End B)
        → FitsEnd t c b (length (k e t).out) y → FitsEnd s c a (length (o ++ (k e t).out)) y
    then w t o e q p (got z u) r = (
      w ++ r.0,
      q
          ∙ rw (append_assoc, r.1),
      let l = length-append w r.0 in let m = length-append o (k e t).out in
          omega arith,
    )
    then w t o e q p (bad d u) r = (
      w ++ r.0,
      q
          ∙ rw (append_assoc, r.1),
      let l = length-append w r.0 in let m = length-append o (k e t).out in
          omega arith,
      r.3,
      r.4,
    )

    go : (o : List Draft) (t : End A) → FitsEnd s b a (length o) t
        → FitsEnd s c a (length (onward o t k).out) (onward o t k).end
    go o (got e t) r = then r.0 t o e r.1 r.2 (k e t).end (g e t).ends
    go o (bad d t) r = r

-- ---- expressions

-- a sign and an opening write at most one draft, a token that is a whole factor writes one
sign_one : (o : Two) → length (sign_drafts (op o)) ≤ 1
sign_one plus = omega arith
sign_one minus = omega arith
sign_one times = omega arith
sign_one over = omega arith
sign_one compar = omega arith

open_one : (p : Opening) → length (open_drafts p) ≤ 1
open_one group = omega arith
open_one pair = omega arith
open_one (pair_of a) = omega arith
open_one (triple o) = omega arith
open_one (triple_of o a) = omega arith
open_one (triple_of_two o a b) = omega arith

bare_one : {e : Tree} → Bare e → length (drafted e) ≡ 1
unfolding drafted
bare_one bare_value = refl
bare_one bare_name = refl
bare_one bare_time = refl

module _ (f d : ℕ) (ih : (m : Mode) (d : ℕ) (s : List Symbol) → Fits s 0 0 (parse f m d s)) where
  -- behind an operator or a sign: a part, drafts that its token pays for, and what goes on
  linked_fits : (part : Mode) (chain : Tree → Mode) (is : List Draft) {t : Symbol} (s : List Symbol) → length is ≤ 1
      → s ≡ t ∷ rest s
      → Fits s 0 0 (bind (parse f part d (rest s)) λ e u. tell is (parse f (chain e) d u))
  linked_fits part chain is s l q =
      fits_rest s 0 0 _ q
      (fits_bind (rest s) 1 0 1 (parse f part d (rest s)) _
      (fits_mono 1 1 (ih part d (rest s)) (omega arith) (omega arith))
      λ e u. fits_mono 0 1 (fits_tell is u 0 0 (parse f (chain e) d u) (ih (chain e) d u)) (omega arith) (omega arith))

  -- an expression
  expr_fits : (s : List Symbol) (o : Op) → add_op (next s) ≡ o
      → Fits s 0 0
      (bind (parse f term d (behind_sign o s)) λ e t. tell (sign_drafts o) (parse f (terms (signed o e)) d t))
  expr_fits s none h =
      fits_bind s 0 0 0 (parse f term d s) _ (ih term d s) λ e t. fits_tell [] t 0 0 _ (ih (terms e) d t)
  expr_fits s (op o) h =
      linked_fits term (λ e. terms (signed (op o) e)) (sign_drafts (op o)) s (sign_one o) (add_here s o h)

  -- terms and factors behind a tree
  terms_fits : (l : Tree) (s : List Symbol) (o : Op) → add_op (next s) ≡ o
      → Fits s 0 0
      (by_op o (λ _. give l s) λ o. bind (parse f term d (rest s)) λ e t. tell (draft (kind_two o) 0 ∷ [])
      (parse f (terms (two o l e)) d t))
  terms_fits l s none h = fits_give s l
  terms_fits l s (op o) h =
      linked_fits term (λ e. terms (two o l e)) (draft (kind_two o) 0 ∷ []) s (omega arith) (add_here s o h)

  factors_fits : (l : Tree) (s : List Symbol) (o : Op) → mul_op (next s) ≡ o
      → Fits s 0 0
      (by_op o (λ _. give l s) λ o. bind (parse f factor d (rest s)) λ e t. tell (draft (kind_two o) 0 ∷ [])
      (parse f (factors (two o l e)) d t))
  factors_fits l s none h = fits_give s l
  factors_fits l s (op o) h =
      linked_fits factor (λ e. factors (two o l e)) (draft (kind_two o) 0 ∷ []) s (omega arith) (mul_here s o h)

  -- a factor, by what its token begins
  factor_fits : (s : List Symbol) (h : FactorStart) → factor_start (next s) ≡ h
      → Fits s 0 0
      (by_factor h (λ e. tell (drafted e) (give e (rest s))) (λ _. parse f (opened group) d s)
      (λ p. when (eqb (byte_of (next (rest s))) 40) (λ _. parse f (opened p) d (rest s)) (λ _. stop 18 (rest s)))
      (λ _. stop 18 s))
  factor_fits s (Leaf e) h =
      let n = bare_one (as_starting (next s) h) in
      fits_rest s 0 0 _ (leaf_here s e h)
      (fits_mono 0 1 (fits_tell (drafted e) (rest s) 0 0 _ (fits_give (rest s) e)) (omega arith) (omega arith))
  factor_fits s Paren h = ih (opened group) d s
  factor_fits s (Call p) h =
      fits_rest s 0 0 _ (call_here s p h)
      (fits_mark 39 _ _ (λ q. fits_mono 0 1 (ih (opened p) d (rest s)) (omega arith) (omega arith))
      (fits_stop (rest s) 0 1))
  factor_fits s NoFactor h = fits_stop s 0 0

  -- behind an expression of an opening: the closing mark pays for the opening's draft
  given_fits : (p : Opening) (t : List Symbol) (g : Given)
      → Fits t 0 0
      (by_given g (λ x. need 41 t λ u. tell (open_drafts p) (give x u)) (λ q. need 44 t (parse f (list q) d)))
  given_fits p t (full x) =
      let n = open_one p in
      fits_need 40 t 0 0 (λ u. tell (open_drafts p) (give x u))
      (fits_mono 0 1 (fits_tell (open_drafts p) (rest t) 0 0 _ (fits_give (rest t) x)) (omega arith) (omega arith))
  given_fits p t (wants q) =
      fits_need 43 t 0 0 (parse f (list q) d) (fits_mono 0 1 (ih (list q) d (rest t)) (omega arith) (omega arith))

-- a token less
rest_fits : {A : Type 0} (s : List Symbol) (x : Res A) → Fits (rest s) 0 0 x → Fits s 0 0 x
unfolding rest
rest_fits [] x h = h
rest_fits (t ∷ s) x h = fits_rest (t ∷ s) 0 0 x refl (fits_mono 0 1 h (omega arith) (omega arith))

-- in each mode, whatever the count of calls
parse_fits : (f : ℕ) (m : Mode) (d : ℕ) (s : List Symbol) → Fits s 0 0 (parse f m d s)
unfolding parse
parse_fits zero m d s = fits_stop s 0 0
parse_fits (suc f) expr d s = expr_fits f d (parse_fits f) s (add_op (next s)) refl
parse_fits (suc f) term d s =
    fits_bind s 0 0 0 (parse f factor d s) _ (parse_fits f factor d s) λ e t. parse_fits f (factors e) d t
parse_fits (suc f) factor d s = factor_fits f d (parse_fits f) s (factor_start (next s)) refl
parse_fits (suc f) (terms l) d s = terms_fits f d (parse_fits f) l s (add_op (next s)) refl
parse_fits (suc f) (factors l) d s = factors_fits f d (parse_fits f) l s (mul_op (next s)) refl
parse_fits (suc f) (opened p) zero s = fits_deep s 0 0
parse_fits (suc f) (opened p) (suc d) s = rest_fits s _ (parse_fits f (list p) d (rest s))
parse_fits (suc f) (list p) d s =
    fits_bind s 0 0 0 (parse f expr d s) _ (parse_fits f expr d s) λ e t. given_fits f d (parse_fits f) p t
    (give_to p e)

-- without a count
pub reads_fits : (m : Mode) (d : ℕ) (s : List Symbol) → Fits s 0 0 (reads m d s)
unfolding reads
reads_fits m d s = parse_fits (suc (rank m + 5 * length s)) m d s

-- ---- statements

module _ {A : Type 0} where
  -- a name, or else; the name pays for a draft
  name_fits : (s : List Symbol) (b a : ℕ) (x : ℕ → Res A) (y : Unit {0} → Res A)
      → ((k : ℕ) → Fits (rest s) b (suc a) (x k)) → Fits s b a (y tt)
      → Fits s b a (by_name (start_of (next s)) x y)
  name_fits s b a x y g h =
      start_cases s (λ p. Fits s b a (by_name p x y)) (λ _ _. h) (λ _. h) (λ k q. fits_rest s b a (x k) q (g k))
      (λ _ _. h) (λ _. h) (λ _. h) h

-- a number behind its sign
number_fits : (o : Op) (s : List Symbol) → Fits s 0 0 (a_number o s)
number_fits o s =
    let no : Fits {A = Float} s 0 0 (stop 18 s) = fits_stop s 0 0 in
    start_cases s (λ p. Fits s 0 0 (by_number p (λ x. give (signed_value o x) (rest s)) (λ _. stop 18 s))) (λ _ _. no)
    (λ _. no) (λ _ _. no)
    (λ x q. fits_rest s 0 0 _ q (fits_mono 0 1 (fits_give (rest s) _) (omega arith) (omega arith)))
    (λ _. no) (λ _. no) no

-- with a sign or without
signed_fits : (s : List Symbol) → Fits s 0 0 (by_signed_number s)
unfolding by_signed_number
signed_fits s = go (add_op (next s)) refl
  where
    go : (o : Op) → add_op (next s) ≡ o → Fits s 0 0 (a_number o (behind_sign o s))
    go none h = number_fits none s
    go (op o) h =
        fits_rest s 0 0 _ (add_here s o h) (fits_mono 0 1 (number_fits (op o) (rest s)) (omega arith) (omega arith))

-- behind one of several, whose drafts are paid for
more_fits : {A : Type 0} (go : List Symbol → Res (List A)) (c : A) → ((s : List Symbol) → Fits s 0 0 (go s))
    → (t : List Symbol) → Fits t 0 0 (on_more go c t)
more_fits go c ih t =
    fits_mark 43 _ _
    (λ q. fits_rest t 0 0 _ (here_mark t 43 q)
    (fits_bind (rest t) 0 0 1 (go (rest t)) _ (fits_mono 0 1 (ih (rest t)) (omega arith) (omega arith)) λ cs u.
    fits_give u (c ∷ cs)))
    (fits_give t (c ∷ []))

-- constants: a name and = pay for the two drafts of each
many_fits : (f : ℕ) (s : List Symbol) → Fits s 0 0 (many f s)
unfolding many
many_fits zero s = fits_stop s 0 0
many_fits (suc f) s =
    name_fits s 0 0 _ _
    (λ k. fits_need 60 (rest s) 0 1 (valued (many f) k)
    (fits_bind (rest (rest s)) 2 0 2 (by_signed_number (rest (rest s))) _
    (fits_mono 2 2 (signed_fits (rest (rest s))) (omega arith) (omega arith))
    λ x t. fits_tell (constant_drafts (constant_of k x)) t 0 0 _
    (more_fits (many f) (constant_of k x) (many_fits f) t)))
    (fits_stop s 0 0)

-- an initial
initially_fits : (s : List Symbol) → Fits s 0 0 (initially s)
unfolding initially
initially_fits s =
    name_fits s 0 0 _ _ (λ k. fits_mono 0 1 (fits_give (rest s) (from k)) (omega arith) (omega arith))
    (fits_bind s 0 0 0 (by_signed_number s) _ (signed_fits s) λ x t. fits_give t (plain x))

module _ (f d k : ℕ) where
  -- behind name =, which pays for one draft, and INTGRL (, which pays for two
  assigned_fits : (s : List Symbol) → Fits s 0 1 (assigned f d k s)
  unfolding assigned
  assigned_fits s =
      fits_bind s 1 0 1 (parse f expr d s) _ (fits_mono 1 1 (parse_fits f expr d s) (omega arith) (omega arith))
      λ e t. fits_tell (draft kind_store k ∷ []) t 0 0 _ (fits_give t (assignment k e))

  integrated_fits : (s : List Symbol) → Fits s 0 1 (integrated f d k s)
  unfolding integrated
  integrated_fits s =
      fits_need 39 s 0 1 (begun_state f d k)
      (fits_bind (rest s) 2 0 2 (initially (rest s)) _
      (fits_mono 2 2 (initially_fits (rest s)) (omega arith) (omega arith)) λ i t.
      fits_tell (draft kind_initial k ∷ initial_draft i ∷ []) t 0 0 _
      (fits_need 43 t 0 0 (rated f d k i)
      (fits_bind (rest t) 0 0 1 (parse f expr d (rest t)) _
      (fits_mono 0 1 (parse_fits f expr d (rest t)) (omega arith) (omega arith)) λ e u.
      fits_need 40 u 0 0 (λ v. tell (draft kind_rate k ∷ []) (give (state k i e) v))
      (fits_tell (draft kind_rate k ∷ []) (rest u) 0 0 _ (fits_give (rest u) (state k i e))))))

  equated_fits : (s : List Symbol) → Fits s 0 1 (equated f d k s)
  equated_fits s =
      let plainly = assigned_fits s in
      start_cases s (λ p. Fits s 0 1 (by_integral p (λ _. integrated f d k (rest s)) (λ _. assigned f d k s)))
      (λ _ _. plainly)
      (λ q. fits_rest s 0 1 _ q (fits_mono 0 2 (integrated_fits (rest s)) (omega arith) (omega arith))) (λ _ _. plainly)
      (λ _ _. plainly) (λ _. plainly) (λ _. plainly) plainly

-- names: each pays for its draft
pub names_fits : (n f : ℕ) (s : List Symbol) → Fits s 0 0 (many_names n f s)
unfolding many_names
names_fits n zero s = fits_stop s 0 0
names_fits n (suc f) s =
    name_fits s 0 0 _ _
    (λ k. fits_tell (draft n k ∷ []) (rest s) 0 0 _ (more_fits (many_names n f) k (names_fits n f) (rest s)))
    (fits_stop s 0 0)

-- behind PROCED
headed_fits : (f : ℕ) (s : List Symbol) → Fits s 0 0 (headed f s)
unfolding headed
headed_fits f s =
    fits_bind s 0 0 0 (many_names kind_output f s) _ (names_fits kind_output f s) λ os t.
    fits_need 60 t 0 0 (block_named f os)
    (name_fits (rest t) 0 1 _ _
    (λ k. fits_need 39 (rest (rest t)) 0 2 (with_inputs f os)
    (let v = rest (rest (rest t)) in
    fits_bind v 0 0 3 (many_names kind_input f v) _
    (fits_mono 0 3 (names_fits kind_input f v) (omega arith) (omega arith)) λ is u.
    fits_need 40 u 0 0 (give (header os is))
    (fits_mono 0 1 (fits_give (rest u) (header os is)) (omega arith) (omega arith))))
    (fits_stop (rest t) 0 1))

-- a statement at the front
pub statement_fits : (f d : ℕ) (s : List Symbol) → Fits s 0 0 (statement f d s)
unfolding statement
statement_fits f d s =
    let no : Fits {A = Says} s 0 0 (stop 18 s) = fits_stop s 0 0 in
    start_cases s (λ p. Fits s 0 0 (form_of f d p s))
    (λ e q. fits_rest s 0 0 _ q
    (fits_bind (rest s) 0 0 1 (many f (rest s)) _
    (fits_mono 0 1 (many_fits f (rest s)) (omega arith) (omega arith)) λ cs t. fits_give t (constants cs)))
    (λ _. no)
    (λ k q. fits_rest s 0 0 _ q
    (fits_need 60 (rest s) 0 1 (equated f d k)
    (fits_mono 0 2 (equated_fits f d k (rest (rest s))) (omega arith) (omega arith))))
    (λ _ _. no)
    (λ q. fits_rest s 0 0 _ q (fits_mono 0 1 (headed_fits f (rest s)) (omega arith) (omega arith)))
    (λ q. fits_rest s 0 0 _ q (fits_tell (draft kind_ending 0 ∷ []) (rest s) 0 0 _ (fits_give (rest s) ending)))
    no

-- and no token more
entire_fits : (f d : ℕ) (s : List Symbol) → Fits s 0 0 (entire f d s)
unfolding entire
entire_fits f d s = fits_bind s 0 0 0 (statement f d s) at_end (statement_fits f d s) end
  where
    end : (x : Says) (t : List Symbol) → Fits t 0 0 (at_end x t)
    end x [] = fits_give [] x
    end x (t ∷ s) = fits_stop (t ∷ s) 0 0

-- what fits has no more drafts than there are tokens
fits_few : {A : Type 0} (s : List Symbol) (x : Res A) → Fits s 0 0 x → length x.out ≤ length s
fits_few {A} s x h = go x.end h.ends
  where
    go : (t : End A) → FitsEnd s 0 0 (length x.out) t → length x.out ≤ length s
    go (got e t) r = let l = length-append r.0 t in rw r.1 (omega arith)
    go (bad c t) r = let l = length-append r.0 t in rw r.1 (omega arith)

-- so a row's reading writes at most one draft for each token, a fault's too
pub room : (f d : ℕ) (row : List Symbol) → length (entire f d row).out ≤ length row
room f d row = fits_few row (entire f d row) (entire_fits f d row)
