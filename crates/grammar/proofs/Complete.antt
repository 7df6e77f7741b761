-- What the grammar derives, before a token that does not go on with it, `parse` reads, at every count of calls that
-- suffices.
use Prim.Native.Nat.{ℕ, suc, ◌+◌, ◌*◌, ◌≤◌, ◌<◌}
use mathlib.Core.Path.{◌≡◌, refl, ap, ◌∙◌}
use mathlib.Core.List.{List, [], ◌∷◌, ◌++◌, append_assoc}
use native.Mathlib.Omega.{arith}
use lib.ListN.{length, length-append}
use Rattle.laws.proofs.Tests.{for_suc}
use Rattle.tokens.specs.Symbol.{Symbol, mark}
use Rattle.drafts.specs.Tree.{Tree}
use Rattle.grammar.specs.Look.{next, rest, byte_of, none, add_op, mul_op, Opening, NoFactor, factor_start}
use Rattle.grammar.specs.Grammar.{Mode, expr, term, factor, terms, factors, opened, list}
use Rattle.grammar.specs.Grammar.{Der, unsigned, sign, no_terms, add, a_term, no_factors, mul, a_leaf, grouped}
use Rattle.grammar.specs.Grammar.{called, opening, last, comma}
use Rattle.grammar.specs.Parser.{End, got, Res, onward, bind, parse, rank}
use Rattle.grammar.proofs.Endings.{clash}
use Rattle.grammar.proofs.Looks.{add_no_mul, factor_no_add}

-- the token after what is read does not go on with it
abbrev pub Follow : Mode → Symbol → Type 0
Follow expr t = (add_op t ≡ none) × (mul_op t ≡ none)
Follow (terms l) t = (add_op t ≡ none) × (mul_op t ≡ none)
Follow term t = mul_op t ≡ none
Follow (factors l) t = mul_op t ≡ none
Follow factor t = Unit {0}
Follow (opened p) t = Unit {0}
Follow (list p) t = Unit {0}

-- where the first is done, the second decides
pub bind_end : {A B : Type 0} (x : Res A) (k : A → List Symbol → Res B) {e : A} {t : List Symbol} → x.end ≡ got e t
    → (bind x k).end ≡ (k e t).end
unfolding bind
bind_end {A} x k {e} {t} h = ap (λ (u : End A). (onward x.out u k).end) h

-- ---- what a word begins with

-- an opening with its mark
at_mark : {p : Opening} {d : ℕ} {w : List Symbol} {e : Tree} → Der (opened p) d w e
    → (v : List Symbol) × (w ≡ mark 40 ∷ v)
at_mark (opening {w = w} a) = (w, refl)

-- a factor with what begins one
begins : {d : ℕ} {w : List Symbol} {e : Tree} → Der factor d w e → (r : List Symbol)
    → factor_start (next (w ++ r)) ≡ NoFactor → ⊥
unfolding next factor_start
begins (a_leaf h) r z = clash (cc)
begins (grouped a) r z = let y : factor_start (mark 40) ≡ NoFactor = rw (at_mark a).1 at z in clash (cc)
begins (called h a) r z = clash (cc)

-- and so a term
pub begins_term : {d : ℕ} {w : List Symbol} {e : Tree} → Der term d w e → (r : List Symbol)
    → factor_start (next (w ++ r)) ≡ NoFactor → ⊥
begins_term (a_term {v = v} a b) r = rw append_assoc (begins a (v ++ r))

-- behind a term stands nothing that multiplies
after_term : {d : ℕ} {l e : Tree} {w : List Symbol} → Der (terms l) d w e → (r : List Symbol) → mul_op (next r) ≡ none
    → mul_op (next (w ++ r)) ≡ none
unfolding next
after_term no_terms r h = h
after_term (add {o = o} {t = t} k a b) r h = add_no_mul t o k

-- ---- the parser reads it

-- every count of calls that suffices for w reads it, whatever follows that does not go on with it
abbrev Reads : Mode → ℕ → List Symbol → Tree → Type 0
Reads m d w e =
    (r : List Symbol) → Follow m (next r) → (f : ℕ) → rank m + 5 * length w < f → (parse f m d (w ++ r)).end ≡ got e r

-- one call is enough to speak of
one_call : (m : Mode) (d : ℕ) (s : List Symbol) (n : ℕ) (e : Tree) (r : List Symbol)
    → ((f : ℕ) → n ≤ f → (parse (suc f) m d s).end ≡ got e r)
    → (f : ℕ) → n < f → (parse f m d s).end ≡ got e r
one_call m d s n e r h = for_suc (λ f. (parse f m d s).end ≡ got e r) n h

-- what is derived is read
pub complete : {m : Mode} {d : ℕ} {w : List Symbol} {e : Tree} → Der m d w e → Reads m d w e
unfolding parse next rest byte_of factor_start
complete (unsigned {d} {w} {v} {e} {x} a b) r fo =
    let l = length-append w v in
    rw append_assoc (one_call expr d (w ++ (v ++ r)) (3 + 5 * length (w ++ v)) x r λ f le.
    rw (factor_no_add (next (w ++ (v ++ r))) (begins_term a (v ++ r)))
    (bind_end (parse f term d (w ++ (v ++ r))) _ (complete a (v ++ r) (after_term b r fo.1) f (omega arith))
    ∙ complete b r fo f (omega arith)))
complete (sign {d} {o} {t} {w} {v} {e} {x} h a b) r fo =
    let l = length-append w v in
    rw append_assoc (one_call expr d (t ∷ w ++ (v ++ r)) (3 + 5 * length (t ∷ w ++ v)) x r λ f le.
    rw h
    (bind_end (parse f term d (w ++ (v ++ r))) _ (complete a (v ++ r) (after_term b r fo.1) f (omega arith))
    ∙ complete b r fo f (omega arith)))
complete (no_terms {d} {l}) r fo = one_call (terms l) d r 0 l r λ f le. rw fo.0
complete (add {d} {o} {t} {w} {v} {l} {e} {x} h a b) r fo =
    let q = length-append w v in
    rw append_assoc (one_call (terms l) d (t ∷ w ++ (v ++ r)) (0 + 5 * length (t ∷ w ++ v)) x r λ f le.
    rw h
    (bind_end (parse f term d (w ++ (v ++ r))) _ (complete a (v ++ r) (after_term b r fo.1) f (omega arith))
    ∙ complete b r fo f (omega arith)))
complete (a_term {d} {w} {v} {e} {x} a b) r fo =
    let l = length-append w v in
    rw append_assoc (one_call term d (w ++ (v ++ r)) (2 + 5 * length (w ++ v)) x r λ f le.
    bind_end (parse f factor d (w ++ (v ++ r))) _ (complete a (v ++ r) tt f (omega arith))
    ∙ complete b r fo f (omega arith))
complete (no_factors {d} {l}) r fo = one_call (factors l) d r 0 l r λ f le. rw fo
complete (mul {d} {o} {t} {w} {v} {l} {e} {x} h a b) r fo =
    let q = length-append w v in
    rw append_assoc (one_call (factors l) d (t ∷ w ++ (v ++ r)) (0 + 5 * length (t ∷ w ++ v)) x r λ f le.
    rw h
    (bind_end (parse f factor d (w ++ (v ++ r))) _ (complete a (v ++ r) tt f (omega arith))
    ∙ complete b r fo f (omega arith)))
complete (a_leaf {d} {t} {e} h) r fo = one_call factor d (t ∷ r) 6 e r λ f le. rw h
complete (grouped {d} {w} {e} a) r fo =
    one_call factor d (w ++ r) (1 + 5 * length w) e r λ f le. rw (at_mark a).1
    (rw (at_mark a).1 at (complete a r tt f (omega arith)))
complete (called {d} {p} {t} {w} {e} h a) r fo =
    one_call factor d (t ∷ w ++ r) (1 + 5 * length (t ∷ w)) e r λ f le. rw (h, (at_mark a).1)
    (rw (at_mark a).1 at (complete a r tt f (omega arith)))
complete (opening {d} {p} {w} {e} a) r fo =
    one_call (opened p) (suc d) (mark 40 ∷ w ++ r) (0 + 5 * length (mark 40 ∷ w)) e r λ f le. complete a r tt f
    (omega arith)
complete (last {d} {p} {w} {e} {x} h a) r fo =
    let l = length-append w (mark 41 ∷ []) in
    rw append_assoc (one_call (list p) d (w ++ mark 41 ∷ r) (4 + 5 * length (w ++ mark 41 ∷ [])) x r λ f le.
    bind_end (parse f expr d (w ++ mark 41 ∷ r)) _ (complete a (mark 41 ∷ r) (refl, refl) f (omega arith)) ∙ rw h)
complete (comma {d} {p} {q} {w} {v} {e} {x} h a b) r fo =
    let l = length-append w (mark 44 ∷ v) in
    rw append_assoc (one_call (list p) d (w ++ mark 44 ∷ (v ++ r)) (4 + 5 * length (w ++ mark 44 ∷ v)) x r λ f le.
    bind_end (parse f expr d (w ++ mark 44 ∷ (v ++ r))) _ (complete a (mark 44 ∷ v ++ r) (refl, refl) f (omega arith))
    ∙ rw h (complete b r tt f (omega arith)))
