-- A reading looks at no token past the place where it ends: on every row with the same front and the same token there,
-- and with as many levels or more, it does the same. A fault 19 is the one answer that hangs on the levels.
use Prim.Native.Nat.{ℕ, zero, suc, ◌≤◌}
use mathlib.Core.Path.{◌≡◌, refl, sym, ap, ◌∙◌}
use mathlib.Core.Bool.{Bool, true, false}
use mathlib.Core.List.{List, [], ◌∷◌, ◌++◌, append_assoc}
use native.Mathlib.Omega.{arith}
use lib.Dec.{eqb}
use Rattle.tokens.specs.Symbol.{Symbol, mark}
use Rattle.drafts.specs.Tree.{Two, Tree, two}
use Rattle.drafts.specs.Kinds.{kind_two}
use Rattle.drafts.specs.Drafts.{Draft, draft, drafted}
use Rattle.grammar.specs.Look.{next, rest, byte_of, Op, none, op, add_op, mul_op, signed, Opening, group, Given}
use Rattle.grammar.specs.Look.{full, wants, give_to}
use Rattle.grammar.specs.Look.{FactorStart, Leaf, Paren, Call, NoFactor, factor_start}
use Rattle.grammar.specs.Grammar.{Mode, expr, term, factor, terms, factors, opened, list}
use Rattle.grammar.specs.Parser.{End, got, bad, Res, give, stop, tell, onward, bind, when, by_op, by_factor}
use Rattle.grammar.specs.Parser.{by_given, need}
use Rattle.grammar.specs.Parser.{behind_sign, sign_drafts, open_drafts, parse}
use Rattle.grammar.proofs.Endings.{here_mark, is_mark}
use Rattle.grammar.proofs.Looks.{add_here, mul_here, leaf_here, call_here, as_starting}
use Rattle.grammar.proofs.Sound.{At}
use Rattle.grammar.proofs.Complete.{bind_end}

-- both have ended, or both go on with the same token
abbrev pub Like : List Symbol → List Symbol → Type 0
Like [] [] = Unit {0}
Like [] (b ∷ t) = ⊥
Like (a ∷ u) [] = ⊥
Like (a ∷ u) (b ∷ t) = a ≡ b

-- their next token is the same
like_next : (u t : List Symbol) → Like u t → next u ≡ next t
unfolding next
like_next [] [] h = refl
like_next [] (b ∷ t) h = absurd h
like_next (a ∷ u) [] h = absurd h
like_next (a ∷ u) (b ∷ t) h = h

-- and behind the same tokens they are like each other
like_more : (w u t : List Symbol) → Like u t → Like (w ++ u) (w ++ t)
like_more [] u t h = h
like_more (a ∷ w) u t h = refl

-- a reading, by the levels and the tokens
abbrev pub Reading : Type 0 → Type 0
Reading A = ℕ → List Symbol → Res A

-- reading ends so on every row that is like s up to there
abbrev pub LocEnd : {A : Type 0} → ℕ → List Symbol → Reading A → End A → Type 0
LocEnd d s g (got e t) =
    (w : List Symbol) × (s ≡ w ++ t) × ((d' : ℕ) (u : List Symbol) → d ≤ d' → Like u t → (g d' (w ++ u)).end ≡ got e u)
LocEnd d s g (bad c t) =
    (w : List Symbol) × (s ≡ w ++ t)
    × ((d' : ℕ) (u : List Symbol) → d ≤ d' → (c ≡ 19 → d' ≡ d) → Like u t → (g d' (w ++ u)).end ≡ bad c u)

-- the reading g of s with d levels hangs on no more
pub record Loc {A : Type 0} (d : ℕ) (s : List Symbol) (g : Reading A) : Type 0 where
  pub ends : LocEnd d s g (g d s).end

-- where the first faults, so do both
pub bind_bad : {A B : Type 0} (x : Res A) (k : A → List Symbol → Res B) {c : ℕ} {t : List Symbol} → x.end ≡ bad c t
    → (bind x k).end ≡ bad c t
unfolding bind
bind_bad {A} x k h = ap (λ (u : End A). (onward x.out u k).end) h

-- one after the other
pub loc_bind : {A B : Type 0} (d : ℕ) (s : List Symbol) (g : Reading A) (k : ℕ → A → List Symbol → Res B) → Loc d s g
    → ((e : A) (t : List Symbol) → Loc d t (λ d'. k d' e)) → Loc d s (λ d' u. bind (g d' u) (k d'))
unfolding bind
loc_bind {A} {B} d s g k h l = record { ends = go (g d s).out (g d s).end h.ends }
  where
    then : (w t : List Symbol) (e : A) → s ≡ w ++ t
        → ((d' : ℕ) (u : List Symbol) → d ≤ d' → Like u t → (g d' (w ++ u)).end ≡ got e u)
        → (y : End B) → LocEnd d t (λ d'. k d' e) y → LocEnd d s (λ d' u. bind (g d' u) (k d')) y
    then w t e q h (got z r) a = (
      w ++ a.0,
      q ∙ rw (append_assoc, a.1),
      λ d' u le like.
          let first = h d' (a.0 ++ u) le (rw a.1 (like_more a.0 u r like)) in
          rw append_assoc (bind_end (g d' (w ++ (a.0 ++ u))) (k d') first ∙ a.2 d' u le like),
    )
    then w t e q h (bad c r) a = (
      w ++ a.0,
      q ∙ rw (append_assoc, a.1),
      λ d' u le n like.
          let first = h d' (a.0 ++ u) le (rw a.1 (like_more a.0 u r like)) in
          rw append_assoc (bind_end (g d' (w ++ (a.0 ++ u))) (k d') first ∙ a.2 d' u le n like),
    )

    go : (o : List Draft) (t : End A) → LocEnd d s g t
        → LocEnd d s (λ d' u. bind (g d' u) (k d')) (onward o t (k d)).end
    go o (got e t) a = then a.0 t e a.1 a.2 (k d e t).end (l e t).ends
    go o (bad c t) a = (a.0, a.1, λ d' u le n like. bind_bad (g d' (a.0 ++ u)) (k d') (a.2 d' u le n like))

module _ {A : Type 0} (d : ℕ) (s : List Symbol) where
  -- what hangs on a look at the next token
  pub loc_seen : {X : Type 0} (look : Symbol → X) (G : X → Reading A) → Loc d s (G (look (next s)))
      → Loc d s (λ d' u. G (look (next u)) d' u)
  loc_seen look G h = record { ends = go (G (look (next s)) d s).end h.ends }
    where
      same : (w t u : List Symbol) → s ≡ w ++ t → Like u t → next (w ++ u) ≡ next s
      same w t u q like = like_next (w ++ u) (w ++ t) (like_more w u t like) ∙ ap next (sym q)

      go : (t : End A) → LocEnd d s (G (look (next s))) t → LocEnd d s (λ d' u. G (look (next u)) d' u) t
      go (got e t) a = (a.0, a.1, λ d' u le like. rw (same a.0 t u a.1 like) (a.2 d' u le like))
      go (bad c t) a = (a.0, a.1, λ d' u le n like. rw (same a.0 t u a.1 like) (a.2 d' u le n like))

  -- behind a token
  pub loc_rest : {a : Symbol} (g : Reading A) → s ≡ a ∷ rest s → Loc d (rest s) g → Loc d s (λ d' u. g d' (rest u))
  unfolding rest
  loc_rest {a} g q h = record { ends = go (g d (rest s)).end h.ends }
    where
      go : (t : End A) → LocEnd d (rest s) g t → LocEnd d s (λ d' u. g d' (rest u)) t
      go (got e t) r = (a ∷ r.0, q ∙ ap (λ (z : List Symbol). a ∷ z) r.1, r.2)
      go (bad c t) r = (a ∷ r.0, q ∙ ap (λ (z : List Symbol). a ∷ z) r.1, r.2)

  -- behind drafts
  pub loc_tell : (is : List Draft) (g : Reading A) → Loc d s g → Loc d s (λ d' u. tell is (g d' u))
  loc_tell is g h = record { ends = go (g d s).end h.ends }
    where
      go : (t : End A) → LocEnd d s g t → LocEnd d s (λ d' u. tell is (g d' u)) t
      go (got e t) r = r
      go (bad c t) r = r

  -- nothing read: it is done
  pub loc_give : (e : A) → Loc d s (λ _. give e)
  loc_give e = record { ends = ([], refl, λ d' u le like. refl) }

  -- nothing read: a fault
  pub loc_stop : (c : ℕ) → Loc {A = A} d s (λ _. stop c)
  loc_stop c = record { ends = ([], refl, λ d' u le n like. refl) }

  -- by a test
  loc_when : (b : Bool) (g h : Reading A) → (b ≡ true → Loc d s g) → (b ≡ false → Loc d s h)
      → Loc d s (λ d' u. when b (λ _. g d' u) (λ _. h d' u))
  loc_when true g h p q = p refl
  loc_when false g h p q = q refl

  -- at a mark
  pub loc_mark : (b : ℕ) (g h : Reading A) → (next s ≡ mark (suc b) → Loc d s g) → Loc d s h
      → Loc d s (λ d' u. when (eqb (byte_of (next u)) (suc b)) (λ _. g d' u) (λ _. h d' u))
  loc_mark b g h p q =
      loc_seen (λ t. eqb (byte_of t) (suc b)) (λ t d' u. when t (λ _. g d' u) (λ _. h d' u))
      (loc_when (eqb (byte_of (next s)) (suc b)) g h (λ t. p (is_mark (next s) b t)) λ t. q)

  -- behind a mark
  pub loc_need : (b : ℕ) (k : Reading A) → (next s ≡ mark (suc b) → Loc d (rest s) k)
      → Loc d s (λ d' u. need (suc b) u (k d'))
  loc_need b k h =
      loc_mark b (λ d' u. k d' (rest u)) (λ _. stop 18) (λ m. loc_rest k (here_mark s b m) (h m)) (loc_stop 18)

  -- behind a sign, or not
  pub loc_behind : (g : Reading A) (o : Op) → ((n : Two) → o ≡ op n → s ≡ next s ∷ rest s)
      → ((s : List Symbol) → Loc d s g)
      → Loc d s (λ d' u. g d' (behind_sign o u))
  loc_behind g none q h = h s
  loc_behind g (op n) q h = loc_rest g (q n refl) (h (rest s))

-- an operator and what follows it, or nothing
chain_loc : (d : ℕ) (s : List Symbol) (l : Tree) (g : Reading Tree) (k : Two → ℕ → Tree → List Symbol → Res Tree)
    (o : Op)
    → ((n : Two) → o ≡ op n → s ≡ next s ∷ rest s) → ((s : List Symbol) → Loc d s g)
    → ((n : Two) (e : Tree) (t : List Symbol) → Loc d t (λ d'. k n d' e))
    → Loc d s (λ d' u. by_op o (λ _. give l u) (λ n. bind (g d' (rest u)) (k n d')))
chain_loc d s l g k none q h j = loc_give d s l
chain_loc d s l g k (op n) q h j =
    loc_rest d s (λ d' u. bind (g d' u) (k n d')) (q n refl) (loc_bind d (rest s) g (k n) (h (rest s)) (j n))

-- a level less
loc_suc : {A : Type 0} (d : ℕ) (s : List Symbol) (g h : Reading A)
    → ((d' : ℕ) (u : List Symbol) → h (suc d') u ≡ g d' u) → Loc d s g → Loc (suc d) s h
loc_suc {A} d s g h q l = record { ends = rw (q d s) (go (g d s).end l.ends) }
  where
    go : (t : End A) → LocEnd d s g t → LocEnd (suc d) s h t
    go (got e t) a = (
      a.0,
      a.1,
      λ d'. elim d' as (λ j. (u : List Symbol) → suc d ≤ j → Like u t → (h j (a.0 ++ u)).end ≡ got e u) [
        | zero ↦ λ u le like. absurd (omega arith)
        | suc n ↦ λ u le like. rw (q n (a.0 ++ u)) (a.2 n u (omega arith) like)
      ],
    )
    go (bad c t) a = (
      a.0,
      a.1,
      λ d'. elim d' as (λ j. (u : List Symbol) → suc d ≤ j → (c ≡ 19 → j ≡ suc d) → Like u t
          → (h j (a.0 ++ u)).end ≡ bad c u) [
            | zero ↦ λ u le n like. absurd (omega arith)
            | suc n ↦ λ u le m like. rw (q n (a.0 ++ u)) (a.2 n u (omega arith) (λ z. let y = m z in omega arith) like)
          ],
    )

module _ (f d : ℕ) (ih : (m : Mode) (s : List Symbol) → At m s → Loc d s (parse f m)) where
  -- a factor, by what its token begins
  factor_loc : (s : List Symbol) (h : FactorStart) → factor_start (next s) ≡ h
      → Loc d s (λ d' u. by_factor h (λ e. tell (drafted e) (give e (rest u))) (λ _. parse f (opened group) d' u)
      (λ p. when (eqb (byte_of (next (rest u))) 40) (λ _. parse f (opened p) d' (rest u)) (λ _. stop 18 (rest u)))
      (λ _. stop 18 u))
  factor_loc s (Leaf e) q =
      loc_rest d s (λ _ u. tell (drafted e) (give e u)) (leaf_here s e q)
      (loc_tell d (rest s) (drafted e) (λ _. give e) (loc_give d (rest s) e))
  factor_loc s Paren q = ih (opened group) s (as_starting (next s) q)
  factor_loc s (Call p) q =
      loc_rest d s (λ d' u. when (eqb (byte_of (next u)) 40) (λ _. parse f (opened p) d' u) (λ _. stop 18 u))
      (call_here s p q)
      (loc_mark d (rest s) 39 (parse f (opened p)) (λ _. stop 18) (λ m. ih (opened p) (rest s) m)
      (loc_stop d (rest s) 18))
  factor_loc s NoFactor q = loc_stop d s 18

  -- behind an expression of an opening
  given_loc : (p : Opening) (g : Given) (t : List Symbol)
      → Loc d t
      (λ d' u. by_given g (λ x. need 41 u λ v. tell (open_drafts p) (give x v)) (λ q. need 44 u (parse f (list q) d')))
  given_loc p (full x) t =
      loc_need d t 40 (λ _ v. tell (open_drafts p) (give x v)) λ m. loc_tell d (rest t) (open_drafts p) (λ _. give x)
      (loc_give d (rest t) x)
  given_loc p (wants q) t = loc_need d t 43 (parse f (list q)) λ m. ih (list q) (rest t) tt

-- in each mode, whatever the count of calls
pub local : (f : ℕ) (m : Mode) (d : ℕ) (s : List Symbol) → At m s → Loc d s (parse f m)
unfolding parse
local zero m d s p = loc_stop d s 18
local (suc f) expr d s p =
    let o = add_op (next s) in
    loc_seen d s add_op
    (λ o d' u. bind (parse f term d' (behind_sign o u)) λ e t. tell (sign_drafts o) (parse f (terms (signed o e)) d' t))
    (loc_bind d s (λ d' u. parse f term d' (behind_sign o u)) _
    (loc_behind d s (parse f term) o (add_here s) (λ s. local f term d s tt))
    λ e t. loc_tell d t (sign_drafts o) (parse f (terms (signed o e))) (local f (terms (signed o e)) d t tt))
local (suc f) term d s p = loc_bind d s (parse f factor) _ (local f factor d s tt) λ e t. local f (factors e) d t tt
local (suc f) factor d s p =
    loc_seen d s factor_start
    (λ h d' u. by_factor h (λ e. tell (drafted e) (give e (rest u))) (λ _. parse f (opened group) d' u)
    (λ p. when (eqb (byte_of (next (rest u))) 40) (λ _. parse f (opened p) d' (rest u)) (λ _. stop 18 (rest u)))
    (λ _. stop 18 u))
    (factor_loc f d (λ m s p. local f m d s p) s (factor_start (next s)) refl)
local (suc f) (terms l) d s p =
    loc_seen d s add_op
    (λ o d' u. by_op o (λ _. give l u) λ n. bind (parse f term d' (rest u)) λ e t. tell (draft (kind_two n) 0 ∷ [])
    (parse f (terms (two n l e)) d' t))
    (chain_loc d s l (parse f term) _ (add_op (next s)) (add_here s) (λ s. local f term d s tt)
    λ n e t. loc_tell d t (draft (kind_two n) 0 ∷ []) (parse f (terms (two n l e)))
    (local f (terms (two n l e)) d t tt))
local (suc f) (factors l) d s p =
    loc_seen d s mul_op
    (λ o d' u. by_op o (λ _. give l u) λ n. bind (parse f factor d' (rest u)) λ e t. tell (draft (kind_two n) 0 ∷ [])
    (parse f (factors (two n l e)) d' t))
    (chain_loc d s l (parse f factor) _ (mul_op (next s)) (mul_here s) (λ s. local f factor d s tt)
    λ n e t. loc_tell d t (draft (kind_two n) 0 ∷ []) (parse f (factors (two n l e)))
    (local f (factors (two n l e)) d t tt))
local (suc f) (opened p) zero s q = record { ends = ([], refl, λ d' u le c like. rw (c refl)) }
local (suc f) (opened p) (suc d) s q =
    loc_suc d s (λ d' u. parse f (list p) d' (rest u)) _ (λ d' u. refl)
    (loc_rest d s (parse f (list p)) (here_mark s 39 q) (local f (list p) d (rest s) tt))
local (suc f) (list p) d s q =
    loc_bind d s (parse f expr)
    (λ d' e t. by_given (give_to p e) (λ x. need 41 t λ u. tell (open_drafts p) (give x u))
    (λ q. need 44 t (parse f (list q) d')))
    (local f expr d s tt) λ e t. given_loc f d (λ m s p. local f m d s p) p (give_to p e) t
