-- A front that ends with a function's name can want one level more than there are: (((..(INSW behind name =, with as
-- many openings as levels.
use Prim.Native.Nat.{ℕ, zero, suc, ◌+◌, ◌*◌, ◌<◌}
use mathlib.Core.Path.{◌≡◌, refl, ap, subst, ◌∙◌}
use mathlib.Core.Bool.{Bool, true, false}
use mathlib.Core.List.{List, [], ◌∷◌, ◌++◌, append_assoc, append-nil}
use native.Mathlib.Omega.{arith}
use lib.Dec.{eqb}
use lib.ListN.{length}
use Rattle.tokens.specs.Symbol.{INTGRL, INSW, PROCED, ENDPRO, Symbol, mark, name, word}
use Rattle.drafts.specs.Tree.{Tree, insw, Says, assignment}
use Rattle.grammar.specs.Look.{next, rest, byte_of, group, triple, give_to, factor_start, Integral, start_of}
use Rattle.grammar.specs.Grammar.{expr, term, factor, Der, unsigned, no_terms, a_term, no_factors, grouped}
use Rattle.grammar.specs.Grammar.{called, opening, last}
use Rattle.grammar.specs.Grammar.{Derives, of_constants, of_assignment, of_state, of_header, of_ending}
use Rattle.grammar.specs.Parser.{bad, bind, parse}
use Rattle.grammar.specs.Meaning.{Front, inside, deepest}
use Rattle.grammar.proofs.Endings.{clash, Begins}
use Rattle.grammar.proofs.Sound.{zero_list}
use Rattle.grammar.proofs.Complete.{complete}
use Rattle.grammar.proofs.Local.{bind_bad}

-- ---- with one level more it is the front of a statement

-- a factor alone is an expression
single : {d : ℕ} {w : List Symbol} {e : Tree} → Der factor d w e → Der expr d w e
single {d} {w} {e} a = subst (λ (z : List Symbol). Der expr d z e) (append-nil (w ++ []) ∙ append-nil w)
    (unsigned (a_term a no_factors) no_terms)

-- each opening takes one level, INSW one more
inside_begins : (n : ℕ) → Begins (Der expr) (suc n) (inside n [])
unfolding factor_start give_to
inside_begins zero = let z = zero_list (triple insw) in (mark 40 ∷ z.0, z.1, single (called refl (opening z.2)))
inside_begins (suc n) =
    let z = inside_begins n in (
      z.0 ++ mark 41 ∷ [],
      z.1,
      rw (← append_assoc (inside n []))
          (single (grouped (opening (last {p = group} refl z.2)))),
    )

-- so with n + 1 levels it begins a statement
pub loose : (n : ℕ) → Front (suc n) (deepest n)
unfolding deepest
loose n =
    let z = inside_begins n in record { behind = z.0; says = assignment 1 z.1; derived = of_assignment z.2 }

-- ---- with as many levels as openings it is none

-- where reading an expression stops, so does reading it in parentheses
in_parens : (f n c : ℕ) (s r : List Symbol) → (parse f expr n s).end ≡ bad c r
    → (parse (suc (suc (suc (suc (suc f))))) expr (suc n) (mark 40 ∷ s)).end ≡ bad c r
unfolding parse next rest byte_of factor_start
in_parens f n c s r h =
    bind_bad (parse (suc (suc (suc (suc f)))) term (suc n) (mark 40 ∷ s)) _
    (bind_bad (parse (suc (suc (suc f))) factor (suc n) (mark 40 ∷ s)) _ (bind_bad (parse f expr n s) _ h))

-- reading stops behind INSW, whatever stands there and however many the calls
stuck : (n k : ℕ) (r : List Symbol) → (f : ℕ) × (c : ℕ) × (k < f) × ((parse f expr n (inside n r)).end ≡ bad c r)
unfolding parse next rest byte_of factor_start bind
stuck zero k r = go (eqb (byte_of (next r)) 40) refl
  where
    go : (b : Bool) → eqb (byte_of (next r)) 40 ≡ b
        → (f : ℕ) × (c : ℕ) × (k < f) × ((parse f expr 0 (word INSW ∷ r)).end ≡ bad c r)
    go true e = (suc (suc (suc (suc k))), 19, omega arith, rw e)
    go false e = (suc (suc (suc (suc k))), 18, omega arith, rw e)
stuck (suc n) k r =
    let z = stuck n k r in
    (suc (suc (suc (suc (suc z.0)))), z.1, omega arith, in_parens z.0 n z.1 (inside n r) r z.3)

-- behind name = stands an expression, unless INTGRL does
equation : {d k : ℕ} {row : List Symbol} {x : Says} → Derives d row x → (s : List Symbol) → row ≡ name k ∷ mark 61 ∷ s
    → (start_of (next s) ≡ Integral → ⊥) → (e : Tree) × Der expr d s e
unfolding start_of next
equation {k = k} (of_constants {t = t} h a) s q n = let z : t ≡ name k = cc in clash (cc (ap start_of z))
equation {d} (of_assignment {w = w} {e = e} a) s q n = let z : w ≡ s = cc in (e, rw (← z) a)
equation (of_state {w = w} {v = v} i a) s q n =
    let z : word INTGRL ∷ mark 40 ∷ (w ++ mark 44 ∷ (v ++ mark 41 ∷ [])) ≡ s = cc in absurd (n (rw (← z)))
equation {k = k} (of_header j a b) s q n = let z : word PROCED ≡ name k = cc in clash (cc)
equation {k = k} of_ending s q n = let z : word ENDPRO ≡ name k = cc in clash (cc)

-- it does not begin with INTGRL
not_integral : (n : ℕ) (r : List Symbol) → start_of (next (inside n r)) ≡ Integral → ⊥
unfolding start_of next
not_integral zero r h = clash (cc)
not_integral (suc n) r h = clash (cc)

-- so with n levels it begins no statement
pub tight : (n : ℕ) → Front n (deepest n) → ⊥
unfolding deepest next byte_of
tight n r =
    let v = r.behind in
    let a : Derives n (name 1 ∷ mark 61 ∷ inside n v) r.says = rw append_assoc at r.derived in
    let b = equation a (inside n v) refl (not_integral n v) in
    let k : ℕ = 3 + 5 * length (inside n v) in
    let z = stuck n k v in
    let y = complete b.1 [] (refl, refl) z.0 z.2 in
    clash (cc (ap (λ (s : List Symbol). (parse z.0 expr n s).end) (append-nil (inside n v))))
