-- A count of calls that suffices gives what every such count gives.
use Prim.Native.Nat.{ℕ, zero, suc, ◌+◌, ◌*◌, ◌≤◌, ◌<◌}
use mathlib.Core.Path.{◌≡◌, refl, ap, ◌∙◌}
use mathlib.Core.Bool.{Bool, true, false}
use mathlib.Core.List.{List, [], ◌∷◌, ◌++◌}
use native.Mathlib.Omega.{arith}
use lib.Dec.{eqb}
use lib.ListN.{length, length-append}
use Rattle.tokens.specs.Symbol.{Symbol, mark}
use Rattle.drafts.specs.Tree.{Two, Tree, two}
use Rattle.drafts.specs.Kinds.{kind_two}
use Rattle.drafts.specs.Drafts.{Draft, draft}
use Rattle.grammar.specs.Look.{next, rest, byte_of, Op, none, op, add_op, mul_op, signed, Opening, group, Given}
use Rattle.grammar.specs.Look.{full, wants, give_to}
use Rattle.grammar.specs.Look.{FactorStart, Leaf, Paren, Call, NoFactor, factor_start}
use Rattle.grammar.specs.Grammar.{Mode, expr, term, factor, terms, factors, opened, list}
use Rattle.grammar.specs.Grammar.{Der, unsigned, sign, no_terms, add, a_term, no_factors, mul, a_leaf, grouped}
use Rattle.grammar.specs.Grammar.{called, opening, last, comma}
use Rattle.grammar.specs.Parser.{End, got, bad, Res, tell, onward, bind, when, by_op, by_factor, by_given, need}
use Rattle.grammar.specs.Parser.{behind_sign, sign_drafts, one_call, parse, rank}
use Rattle.grammar.proofs.Endings.{OutEnd, here_mark, is_mark}
use Rattle.grammar.proofs.Looks.{add_here, mul_here, call_here, as_starting}
use Rattle.grammar.proofs.Sound.{Done, Via, At, sound}

-- ---- what is left is shorter

-- the least count of tokens of a mode
abbrev pub least : Mode → ℕ
least expr = 1
least term = 1
least factor = 1
least (terms l) = 0
least (factors l) = 0
least (opened p) = 1
least (list p) = 1

-- what is derived has as many
size : {m : Mode} {d : ℕ} {w : List Symbol} {e : Tree} → Der m d w e → least m ≤ length w
size (unsigned {w = w} {v = v} a b) = let x = size a in rw (length-append w v) (omega arith)
size (sign h a b) = omega arith
size no_terms = omega arith
size (add h a b) = omega arith
size (a_term {w = w} {v = v} a b) = let x = size a in rw (length-append w v) (omega arith)
size no_factors = omega arith
size (mul h a b) = omega arith
size (a_leaf h) = omega arith
size (grouped a) = size a
size (called h a) = omega arith
size (opening a) = omega arith
size (last {w = w} h a) = let x = size a in rw (length-append w (mark 41 ∷ [])) (omega arith)
size (comma {w = w} {v = v} h a b) = let x = size a in rw (length-append w (mark 44 ∷ v)) (omega arith)

-- so what is left is that much shorter
left : (f : ℕ) (m : Mode) (d : ℕ) (s : List Symbol) → At m s → (e : Tree) (t : List Symbol)
    → (parse f m d s).end ≡ got e t
    → least m + length t ≤ length s
left f m d s p e t h =
    let r : OutEnd (Done m d) (Via m d) s (parse f m d s).out (got e t) = rw h at (sound f m d s p).ends in
    let n = size r.2.0 in
    let q = length-append r.0 t in
    rw r.1 (omega arith)

-- a token less
pub shorter : {a : Symbol} (s : List Symbol) → s ≡ a ∷ rest s → length s ≡ suc (length (rest s))
shorter s q = ap length q

-- or nothing less, at the end
pub rest_le : (s : List Symbol) → length (rest s) ≤ length s
unfolding rest
rest_le [] = omega arith
rest_le (t ∷ s) = omega arith

-- behind a sign, or not
behind_le : (o : Op) (s : List Symbol) → length (behind_sign o s) ≤ length s
behind_le none s = omega arith
behind_le (op o) s = rest_le s

-- ---- two readings that differ in what they call are the same where their calls are

-- one after the other
pub bind_cong : {A B : Type 0} (x x' : Res A) (k k' : A → List Symbol → Res B) → x ≡ x'
    → ((e : A) (t : List Symbol) → x.end ≡ got e t → k e t ≡ k' e t) → bind x k ≡ bind x' k'
unfolding bind
bind_cong {A} {B} x x' k k' q h = go x.end refl ∙ ap (λ (y : Res A). onward y.out y.end k') q
  where
    go : (u : End A) → x.end ≡ u → onward x.out u k ≡ onward x.out u k'
    go (got e t) p = ap (λ (y : Res B). record { out = x.out ++ y.out; end = y.end }) (h e t p)
    go (bad c t) p = refl

module _ {A : Type 0} where
  -- at a mark, or else
  pub mark_cong : (b : ℕ) (s : List Symbol) (x x' y : Unit {0} → Res A) → (next s ≡ mark (suc b) → x tt ≡ x' tt)
      → when (eqb (byte_of (next s)) (suc b)) x y ≡ when (eqb (byte_of (next s)) (suc b)) x' y
  mark_cong b s x x' y h = go (eqb (byte_of (next s)) (suc b)) refl
    where
      go : (t : Bool) → eqb (byte_of (next s)) (suc b) ≡ t → when t x y ≡ when t x' y
      go true e = h (is_mark (next s) b e)
      go false e = refl

  -- by an operator
  op_cong : (o : Op) (x : Unit {0} → Res A) (y y' : Two → Res A) → ((k : Two) → o ≡ op k → y k ≡ y' k)
      → by_op o x y ≡ by_op o x y'
  op_cong none x y y' h = refl
  op_cong (op k) x y y' h = h k refl

  -- by what begins a factor
  factor_cong : (q : FactorStart) (x : Tree → Res A) (y y' : Unit {0} → Res A) (z z' : Opening → Res A)
      (n : Unit {0} → Res A)
      → (q ≡ Paren → y tt ≡ y' tt) → ((p : Opening) → q ≡ Call p → z p ≡ z' p)
      → by_factor q x y z n ≡ by_factor q x y' z' n
  factor_cong (Leaf e) x y y' z z' n g h = refl
  factor_cong Paren x y y' z z' n g h = g refl
  factor_cong (Call p) x y y' z z' n g h = h p refl
  factor_cong NoFactor x y y' z z' n g h = refl

  -- by what an opening makes
  given_cong : (q : Given) (x : Tree → Res A) (y y' : Opening → Res A) → ((p : Opening) → y p ≡ y' p)
      → by_given q x y ≡ by_given q x y'
  given_cong (full e) x y y' h = refl
  given_cong (wants p) x y y' h = h p

  -- behind a mark
  pub need_cong : (b : ℕ) (s : List Symbol) (k k' : List Symbol → Res A)
      → (length s ≡ suc (length (rest s)) → k (rest s) ≡ k' (rest s))
      → need (suc b) s k ≡ need (suc b) s k'
  need_cong b s k k' h = mark_cong b s _ _ _ λ m. h (shorter s (here_mark s b m))

-- ---- one call of the parser

-- a reading in each mode, with the levels that may be opened
abbrev pub Reader : Type 0
Reader = Mode → ℕ → List Symbol → Res Tree

-- two readers agree on what is less than n
abbrev pub AlikeBelow : Reader → Reader → ℕ → Type 0
AlikeBelow g g' n = (m : Mode) (d : ℕ) (s : List Symbol) → At m s → rank m + 5 * length s < n → g m d s ≡ g' m d s

module _ (f : ℕ) (g : Reader) {n : ℕ} (same : AlikeBelow (parse f) g n) (d : ℕ) where
  -- a part, and what goes on from it
  linked_cong : (part : Mode) (chain : Tree → Mode) (is : List Draft) (u : List Symbol) → At part u
      → ((e : Tree) (t : List Symbol) → At (chain e) t)
      → rank part + 5 * length u < n
      → ((e : Tree) (t : List Symbol) → least part + length t ≤ length u → rank (chain e) + 5 * length t < n)
      → bind (parse f part d u) (λ e t. tell is (parse f (chain e) d t))
      ≡ bind (g part d u) (λ e t. tell is (g (chain e) d t))
  linked_cong part chain is u p q l k =
      bind_cong (parse f part d u) _ _ _ (same part d u p l) λ e t h.
      ap (tell is) (same (chain e) d t (q e t) (k e t (left f part d u p e t h)))

-- where they agree on what is less, one call of them is the same
pub step_cong : (f : ℕ) (g : Reader) (m : Mode) (d : ℕ) (s : List Symbol) → At m s
    → AlikeBelow (parse f) g (rank m + 5 * length s)
    → one_call (parse f) m d s ≡ one_call g m d s
step_cong f g expr d s p same =
    let o = add_op (next s) in
    let l = behind_le o s in
    linked_cong f g same d term (λ e. terms (signed o e)) (sign_drafts o) (behind_sign o s) tt (λ _ _. tt)
    (omega arith) λ e t k. omega arith
step_cong f g term d s p same =
    linked_cong f g same d factor factors [] s tt (λ _ _. tt) (omega arith) λ e t k. omega arith
step_cong f g factor d s p same =
    factor_cong (factor_start (next s)) _ _ _ _ _ _
    (λ q. same (opened group) d s (as_starting (next s) q) (omega arith)) λ p q.
    let l = shorter s (call_here s p q) in
    mark_cong 39 (rest s) _ _ _ λ m. same (opened p) d (rest s) m (omega arith)
step_cong f g (terms l) d s p same =
    op_cong (add_op (next s)) _ _ _ λ o h.
    let n = shorter s (add_here s o h) in
    linked_cong f g same d term (λ e. terms (two o l e)) (draft (kind_two o) 0 ∷ []) (rest s) tt (λ _ _. tt)
    (omega arith) λ e t k. omega arith
step_cong f g (factors l) d s p same =
    op_cong (mul_op (next s)) _ _ _ λ o h.
    let n = shorter s (mul_here s o h) in
    linked_cong f g same d factor (λ e. factors (two o l e)) (draft (kind_two o) 0 ∷ []) (rest s) tt (λ _ _. tt)
    (omega arith) λ e t k. omega arith
step_cong f g (opened p) zero s q same = refl
step_cong f g (opened p) (suc d) s q same =
    let l = shorter s (here_mark s 39 q) in
    same (list p) d (rest s) tt (omega arith)
step_cong f g (list p) d s q same =
    bind_cong (parse f expr d s) _ _ _ (same expr d s tt (omega arith)) λ e t h.
    let l = left f expr d s tt e t h in
    given_cong (give_to p e) _ _ _ λ q. need_cong 43 t (parse f (list q) d) (g (list q) d) λ k. same (list q) d
    (rest t) tt (omega arith)

-- any two counts of calls that suffice give the same reading
pub enough : (f f' : ℕ) (m : Mode) (d : ℕ) (s : List Symbol) → At m s → rank m + 5 * length s < f
    → rank m + 5 * length s < f'
    → parse f m d s ≡ parse f' m d s
unfolding parse
enough zero f' m d s p b b' = absurd (omega arith)
enough (suc f) zero m d s p b b' = absurd (omega arith)
enough (suc f) (suc f') m d s p b b' =
    step_cong f (parse f') m d s p λ k D u q l. enough f f' k D u q (omega arith) (omega arith)
