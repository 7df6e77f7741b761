-- What a reading of s gives: it is done, and has read a front w of s with `L out w e`; or it faults with the code c
-- behind a front w with `F c w`.
use Prim.Native.Nat.{ℕ, suc, ◌≤◌}
use mathlib.Core.Path.{◌≡◌, refl, sym, ap, subst, ◌∙◌}
use mathlib.Core.Bool.{Bool, true, false}
use mathlib.Core.List.{List, [], ◌∷◌, ◌++◌, append_assoc, append-nil}
use native.Mathlib.Omega.{arith}
use borrow.Author.Tests.{eqb-true}
use lib.Dec.{eqb}
use Rattle.tokens.specs.Symbol.{Symbol, mark, number, name, word}
use Rattle.drafts.specs.Drafts.{Draft}
use Rattle.grammar.specs.Look.{next, rest, byte_of}
use Rattle.grammar.specs.Parser.{End, got, bad, Res, give, stop, tell, onward, bind, when, need}
use Rattle.grammar.specs.Meaning.{Calm}

-- where two constructors meet, anything holds: `cc` finds 0 ≡ 1 there
pub clash : {X : Type 0} → ◌≡◌ {A = ℕ} 0 1 → X
clash h = absurd (omega arith)

-- what is asked of a reading that is done: of what it wrote, of the tokens that it read, of what they are; and of a
-- fault, and the tokens before it
abbrev pub Asked : Type 0 → Type 1
Asked A = List Draft → List Symbol → A → Type 0

abbrev pub Before : Type 1
Before = ℕ → List Symbol → Type 0

-- the code of a fault before t: the grammar; or the depth, at an opening
pub data Code (t : List Symbol) : ℕ → Type 0 where
  for_grammar : Code t 18
  for_depth : next t ≡ mark 40 → Code t 19

-- each of them holds of the end that reading came to
abbrev pub OutEnd : {A : Type 0} → Asked A → Before → List Symbol → List Draft → End A → Type 0
OutEnd L F s o (got e t) = (w : List Symbol) × (s ≡ w ++ t) × L o w e
OutEnd L F s o (bad c t) = (w : List Symbol) × (s ≡ w ++ t) × F c w × Code t c

-- the reading x of s is right
pub record Out {A : Type 0} (L : Asked A) (F : Before) (s : List Symbol) (x : Res A) : Type 0 where
  pub ends : OutEnd L F s x.out x.end

module _ {A : Type 0} (L : Asked A) (F : Before) where
  -- what asks less
  pub out_mono : {K : Asked A} {E : Before} (s : List Symbol) (x : Res A) → Out K E s x
      → ((o : List Draft) (w : List Symbol) (e : A) → K o w e → L o w e) → ((c : ℕ) (w : List Symbol) → E c w → F c w)
      → Out L F s x
  out_mono {K} {E} s x h l p = record { ends = go x.end h.ends }
    where
      go : (t : End A) → OutEnd K E s x.out t → OutEnd L F s x.out t
      go (got e t) r = (r.0, r.1, l _ _ _ r.2)
      go (bad c t) r = (r.0, r.1, p _ _ r.2, r.3)

  -- behind drafts
  pub out_tell : (is : List Draft) (s : List Symbol) (x : Res A) → Out (λ o. L (is ++ o)) F s x → Out L F s (tell is x)
  out_tell is s x h = record { ends = go x.end h.ends }
    where
      go : (t : End A) → OutEnd (λ o. L (is ++ o)) F s x.out t → OutEnd L F s (is ++ x.out) t
      go (got e t) r = r
      go (bad c t) r = r

  -- nothing read: it is done
  pub out_give : (s : List Symbol) (e : A) → L [] [] e → Out L F s (give e s)
  out_give s e h = record { ends = ([], refl, h) }

  -- nothing read: the grammar stops it
  pub out_stop : (s : List Symbol) → F 18 [] → Out L F s (stop 18 s)
  out_stop s h = record { ends = ([], refl, h, for_grammar) }

  -- behind a token
  pub out_rest : {t : Symbol} (s : List Symbol) (x : Res A) → s ≡ t ∷ rest s
      → Out (λ o w. L o (t ∷ w)) (λ c w. F c (t ∷ w)) (rest s) x → Out L F s x
  out_rest {t} s x q h = record { ends = go x.end h.ends }
    where
      go : (u : End A) → OutEnd (λ o w. L o (t ∷ w)) (λ c w. F c (t ∷ w)) (rest s) x.out u → OutEnd L F s x.out u
      go (got e u) r = (t ∷ r.0, q ∙ ap (λ (z : List Symbol). t ∷ z) r.1, r.2)
      go (bad c u) r = (t ∷ r.0, q ∙ ap (λ (z : List Symbol). t ∷ z) r.1, r.2, r.3)

-- one after the other
pub out_bind : {A B : Type 0} {K : Asked A} {E : Before} (L : Asked B) (F : Before) (s : List Symbol) (x : Res A)
    (k : A → List Symbol → Res B)
    → Out K E s x
    → ((o : List Draft) (w : List Symbol) (e : A) (t : List Symbol) → K o w e
    → Out (λ o' v. L (o ++ o') (w ++ v)) (λ c v. F c (w ++ v)) t (k e t))
    → ((c : ℕ) (w : List Symbol) → E c w → F c w)
    → Out L F s (bind x k)
unfolding bind
out_bind {A} {B} {K} {E} L F s x k h g p = record { ends = go x.end h.ends }
  where
    then : (w t : List Symbol) (o : List Draft) (e : A) → s ≡ w ++ t → (y : End B)
        → OutEnd (λ o' v. L (o ++ o') (w ++ v)) (λ c v. F c (w ++ v)) t (k e t).out y
        → OutEnd L F s (o ++ (k e t).out) y
    then w t o e q (got z u) r = (w ++ r.0, q ∙ rw (append_assoc, r.1), r.2)
    then w t o e q (bad c u) r = (w ++ r.0, q ∙ rw (append_assoc, r.1), r.2, r.3)

    go : (t : End A) → OutEnd K E s x.out t → OutEnd L F s (onward x.out t k).out (onward x.out t k).end
    go (got e t) r = then r.0 t x.out e r.1 (k e t).end (g x.out r.0 e t r.2).ends
    go (bad c t) r = (r.0, r.1, p _ _ r.2, r.3)

-- and nothing read after it
pub out_map : {A B : Type 0} {K : Asked A} {E : Before} (L : Asked B) (F : Before) (s : List Symbol) (x : Res A)
    (g : A → B)
    → Out K E s x
    → ((o : List Draft) (w : List Symbol) (e : A) → K o w e → L o w (g e))
    → ((c : ℕ) (w : List Symbol) → E c w → F c w)
    → Out L F s (bind x λ e t. give (g e) t)
out_map {A} {B} L F s x g h l p =
    out_bind L F s x (λ e t. give (g e) t) h
    (λ o w e t q. out_give (λ o' v. L (o ++ o') (w ++ v)) (λ c v. F c (w ++ v)) t (g e)
    (rw (append-nil o, append-nil w) (l o w e q))) p

-- ---- the token that stands next

-- it is no end: it stands there
pub here : (s : List Symbol) → (next s ≡ mark 0 → ⊥) → s ≡ next s ∷ rest s
unfolding next rest
here [] h = absurd (h refl)
here (t ∷ s) h = refl

-- a token with a mark's byte is that mark
byte_mark : (t : Symbol) (b : ℕ) → byte_of t ≡ suc b → t ≡ mark (suc b)
unfolding byte_of
byte_mark (mark a) b h = ap mark h
byte_mark (number x) b h = absurd (omega arith)
byte_mark (name k) b h = absurd (omega arith)
byte_mark (word w) b h = absurd (omega arith)

-- the same, by the test
pub is_mark : (t : Symbol) (b : ℕ) → eqb (byte_of t) (suc b) ≡ true → t ≡ mark (suc b)
is_mark t b h = byte_mark t b (eqb-true (byte_of t) (suc b) h)

-- a mark stands next: it stands there
pub here_mark : (s : List Symbol) (b : ℕ) → next s ≡ mark (suc b) → s ≡ mark (suc b) ∷ rest s
here_mark s b h = here s (λ z. let q : 0 ≡ suc b = cc in omega arith) ∙ ap (λ (t : Symbol). t ∷ rest s) h

module _ {A : Type 0} (L : Asked A) (F : Before) where
  -- at a mark, or else
  pub out_mark : (b : ℕ) (s : List Symbol) (x y : Unit {0} → Res A) → (next s ≡ mark (suc b) → Out L F s (x tt))
      → Out L F s (y tt)
      → Out L F s (when (eqb (byte_of (next s)) (suc b)) x y)
  out_mark b s x y g h = go (eqb (byte_of (next s)) (suc b)) refl
    where
      go : (t : Bool) → eqb (byte_of (next s)) (suc b) ≡ t → Out L F s (when t x y)
      go true e = g (is_mark (next s) b e)
      go false e = h

  -- behind a mark that must stand next
  pub out_need : (b : ℕ) (s : List Symbol) (k : List Symbol → Res A)
      → (next s ≡ mark (suc b) → Out (λ o w. L o (mark (suc b) ∷ w)) (λ c w. F c (mark (suc b) ∷ w)) (rest s)
      (k (rest s)))
      → F 18 [] → Out L F s (need (suc b) s k)
  out_need b s k h p = out_mark b s _ _ (λ m. out_rest L F s (k (rest s)) (here_mark s b m) (h m)) (out_stop L F s p)

-- ---- fronts

-- w is the front of a word that G derives with d levels
abbrev pub Begins : {A : Type 0} → (ℕ → List Symbol → A → Type 0) → ℕ → List Symbol → Type 0
Begins {A} G d w = (v : List Symbol) × (e : A) × G d (w ++ v) e

-- it is one with d levels, unless it ends with a function's name, and with one level more in any case: there, at a
-- fault for depth, with an opening next
pub record Fronts {A : Type 0} (G : ℕ → List Symbol → A → Type 0) (d c : ℕ) (w : List Symbol) : Type 0 where
  pub over : (v : List Symbol) × (e : A) × G (suc d) (w ++ v) e × (c ≡ 19 → next v ≡ mark 40)
  pub calm : Calm w → Begins G d w

-- what begins with an opening still does with more tokens behind it
next_more : (v z : List Symbol) → next v ≡ mark 40 → next (v ++ z) ≡ mark 40
unfolding next
next_more [] z h = clash (cc)
next_more (t ∷ v) z h = h

-- a part at the end of calm tokens is calm
pub calm_end : (w v : List Symbol) → Calm (w ++ v) → Calm v
calm_end w v h = λ u t p q k. h (w ++ u) t p (rw (append_assoc, q)) k

module _ {A B : Type 0} {G : ℕ → List Symbol → A → Type 0} {H : ℕ → List Symbol → B → Type 0} {d c : ℕ} where
  -- behind the tokens p, what G derives can go on as H
  pub extend : (p : List Symbol)
      → ((D : ℕ) (w : List Symbol) (e : A) → d ≤ D → G D w e → (v : List Symbol) × (x : B) × H D (p ++ (w ++ v)) x)
      → (w : List Symbol) → Fronts G d c w → Fronts H d c (p ++ w)
  extend p g w r =
      let a = r.over in
      let b = g (suc d) (w ++ a.0) a.1 (omega arith) a.2 in
      record {
        over = (a.0 ++ b.0, b.1, again a.0 b.0 b.2, λ z. next_more a.0 b.0 (a.3 z));
        calm = λ q.
            let a = r.calm (calm_end p w q) in
            let b = g d (w ++ a.0) a.1 (omega arith) a.2 in
            (a.0 ++ b.0, b.1, again a.0 b.0 b.2);
      }
    where
      again : (a b : List Symbol) {D : ℕ} {x : B} → H D (p ++ ((w ++ a) ++ b)) x → H D ((p ++ w) ++ (a ++ b)) x
      again a b {D} {x} h =
          subst (λ (z : List Symbol). H D z x)
          (ap (λ (z : List Symbol). p ++ z) (append_assoc w a b) ∙ sym (append_assoc p w (a ++ b))) h

  -- behind the tokens w, G goes on as H
  pub behind : (w : List Symbol) → ((D : ℕ) (v : List Symbol) (e : A) → d ≤ D → G D v e → (x : B) × H D (w ++ v) x)
      → (v : List Symbol) → Fronts G d c v → Fronts H d c (w ++ v)
  behind w g v r =
      let a = r.over in
      let b = g (suc d) (v ++ a.0) a.1 (omega arith) a.2 in
      record {
        over = (a.0, b.0, rw append_assoc b.1, a.3);
        calm = λ q.
            let a = r.calm (calm_end w v q) in
            let b = g d (v ++ a.0) a.1 (omega arith) a.2 in
            (a.0, b.0, rw append_assoc b.1);
      }

-- a front that any count of levels completes
pub fresh : {A : Type 0} {G : ℕ → List Symbol → A → Type 0} {d : ℕ} (w : List Symbol)
    → ((D : ℕ) → d ≤ D → Begins G D w) → Fronts G d 18 w
fresh {d = d} w g =
    let a = g (suc d) (omega arith) in
    record { over = (a.0, a.1, a.2, λ z. absurd (omega arith)); calm = λ _. g d (omega arith) }
