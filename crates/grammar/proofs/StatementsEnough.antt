-- Statements: any two counts of calls that suffice read alike.
use Prim.Native.Nat.{ℕ, zero, suc, ◌+◌, ◌*◌, ◌≤◌, ◌<◌}
use mathlib.Core.Path.{◌≡◌, refl, ap}
use mathlib.Core.List.{List, [], ◌∷◌}
use native.Mathlib.Omega.{arith}
use lib.Ieee.{Float}
use lib.ListN.{length, length-append}
use Rattle.tokens.specs.Symbol.{Symbol}
use Rattle.drafts.specs.Tree.{constant_of}
use Rattle.drafts.specs.Kinds.{kind_initial, kind_output, kind_input}
use Rattle.drafts.specs.Drafts.{draft, constant_drafts, initial_draft}
use Rattle.grammar.specs.Look.{next, rest, Start, Constants, Integral, Named, Valued, Header, Ending, Other}
use Rattle.grammar.specs.Look.{start_of}
use Rattle.grammar.specs.Grammar.{expr}
use Rattle.grammar.specs.Parser.{got, Res, tell, by_start, parse, by_signed_number, valued, many, initially}
use Rattle.grammar.specs.Parser.{assigned, rated, begun_state, integrated, equated, many_names, with_inputs}
use Rattle.grammar.specs.Parser.{block_named, headed, statement, at_end, entire}
use Rattle.grammar.proofs.Endings.{Asked, Before, Out, OutEnd, here_mark}
use Rattle.grammar.proofs.StatementsSound.{signed_out, initially_out, names_out}
use Rattle.grammar.proofs.Enough.{bind_cong, mark_cong, need_cong, shorter, rest_le, enough}

-- what is left is no longer
out_left : {A : Type 0} {L : Asked A} {F : Before} (s : List Symbol) (x : Res A) → Out L F s x
    → (e : A) (t : List Symbol) → x.end ≡ got e t
    → length t ≤ length s
out_left {A} {L} {F} s x o e t h =
    let r : OutEnd L F s x.out (got e t) = rw h at o.ends in
    let q = length-append r.0 t in
    rw r.1 (omega arith)

-- readings that differ in what they call are the same where their calls are
module _ {A : Type 0} where
  -- by what stands next
  start_cong : (p : Start) (c c' i i' : Unit {0} → Res A) (k k' : ℕ → Res A) (v v' : Float → Res A)
      (h h' e e' z z' : Unit {0} → Res A)
      → c tt ≡ c' tt → i tt ≡ i' tt → ((n : ℕ) → k n ≡ k' n) → ((x : Float) → v x ≡ v' x) → h tt ≡ h' tt
      → e tt ≡ e' tt → z tt ≡ z' tt
      → by_start p c i k v h e z ≡ by_start p c' i' k' v' h' e' z'
  start_cong Constants c c' i i' k k' v v' h h' e e' z z' p q r s t u w = p
  start_cong Integral c c' i i' k k' v v' h h' e e' z z' p q r s t u w = q
  start_cong (Named n) c c' i i' k k' v v' h h' e e' z z' p q r s t u w = r n
  start_cong (Valued x) c c' i i' k k' v v' h h' e e' z z' p q r s t u w = s x
  start_cong Header c c' i i' k k' v v' h h' e e' z z' p q r s t u w = t
  start_cong Ending c c' i i' k k' v v' h h' e e' z z' p q r s t u w = u
  start_cong Other c c' i i' k k' v v' h h' e e' z z' p q r s t u w = w

-- constants
many_enough : (f f' : ℕ) (s : List Symbol) → length s < f → length s < f' → many f s ≡ many f' s
unfolding many
many_enough zero f' s b b' = absurd (omega arith)
many_enough (suc f) zero s b b' = absurd (omega arith)
many_enough (suc f) (suc f') s b b' =
    let r = rest_le s in
    start_cong (start_of (next s)) _ _ _ _ _ _ _ _ _ _ _ _ _ _ refl refl
    (λ k. need_cong 60 (rest s) (valued (many f) k) (valued (many f') k) λ l.
    bind_cong (by_signed_number (rest (rest s))) _ _ _ refl λ x t h.
    let n = out_left (rest (rest s)) _ (signed_out 0 (rest (rest s))) x t h in
    ap (tell (constant_drafts (constant_of k x))) (mark_cong 43 t _ _ _ λ m.
    let z = shorter t (here_mark t 43 m) in
    bind_cong (many f (rest t)) _ _ _ (many_enough f f' (rest t) (omega arith) (omega arith)) λ e t h. refl))
    (λ x. refl) refl refl refl

module _ (f f' d k : ℕ) where
  -- an expression behind name =
  assigned_enough : (s : List Symbol) → 3 + 5 * length s < f → 3 + 5 * length s < f'
      → assigned f d k s ≡ assigned f' d k s
  unfolding assigned
  assigned_enough s b b' = bind_cong (parse f expr d s) _ _ _ (enough f f' expr d s tt b b') λ e t h. refl

  -- behind name = INTGRL
  integrated_enough : (s : List Symbol) → 3 + 5 * length s < f → 3 + 5 * length s < f'
      → integrated f d k s ≡ integrated f' d k s
  unfolding integrated
  integrated_enough s b b' =
      need_cong 39 s (begun_state f d k) (begun_state f' d k) λ l.
      bind_cong (initially (rest s)) _ _ _ refl λ i t h.
      let n = out_left (rest s) _ (initially_out 0 (rest s)) i t h in
      ap (tell (draft kind_initial k ∷ initial_draft i ∷ [])) (need_cong 43 t (rated f d k i) (rated f' d k i) λ m.
      bind_cong (parse f expr d (rest t)) _ _ _ (enough f f' expr d (rest t) tt (omega arith) (omega arith)) λ e u h.
      refl)

  -- behind name =
  equated_enough : (s : List Symbol) → 3 + 5 * length s < f → 3 + 5 * length s < f' → equated f d k s ≡ equated f' d k s
  equated_enough s b b' =
      let r = rest_le s in
      let plainly = assigned_enough s b b' in
      start_cong (start_of (next s)) _ _ _ _ _ _ _ _ _ _ _ _ _ _
      plainly (integrated_enough (rest s) (omega arith) (omega arith)) (λ _. plainly) (λ _. plainly)
      plainly plainly plainly

-- names
names_enough : (n f f' : ℕ) (s : List Symbol) → length s < f → length s < f' → many_names n f s ≡ many_names n f' s
unfolding many_names
names_enough n zero f' s b b' = absurd (omega arith)
names_enough n (suc f) zero s b b' = absurd (omega arith)
names_enough n (suc f) (suc f') s b b' =
    start_cong (start_of (next s)) _ _ _ _ _ _ _ _ _ _ _ _ _ _ refl refl
    (λ k. ap (tell (draft n k ∷ [])) (mark_cong 43 (rest s) _ _ _ λ m.
    let z = shorter (rest s) (here_mark (rest s) 43 m) in
    let r = rest_le s in
    bind_cong (many_names n f (rest (rest s))) _ _ _
    (names_enough n f f' (rest (rest s)) (omega arith) (omega arith)) λ e t h. refl))
    (λ x. refl) refl refl refl

-- behind PROCED
headed_enough : (f f' : ℕ) (s : List Symbol) → length s < f → length s < f' → headed f s ≡ headed f' s
unfolding headed
headed_enough f f' s b b' =
    bind_cong (many_names kind_output f s) _ _ _ (names_enough kind_output f f' s b b') λ os t h.
    let n = out_left s _ (names_out kind_output f 0 s) os t h in
    need_cong 60 t (block_named f os) (block_named f' os) λ l.
    start_cong (start_of (next (rest t))) _ _ _ _ _ _ _ _ _ _ _ _ _ _ refl refl
    (λ k. need_cong 39 (rest (rest t)) (with_inputs f os) (with_inputs f' os) λ m.
    let r = rest_le (rest t) in
    let v = rest (rest (rest t)) in
    bind_cong (many_names kind_input f v) _ _ _ (names_enough kind_input f f' v (omega arith) (omega arith)) λ is u h.
    refl)
    (λ x. refl) refl refl refl

-- a statement at the front
statement_enough : (f f' d : ℕ) (s : List Symbol) → 3 + 5 * length s < f → 3 + 5 * length s < f'
    → statement f d s ≡ statement f' d s
unfolding statement
statement_enough f f' d s b b' =
    let r = rest_le s in
    start_cong (start_of (next s)) _ _ _ _ _ _ _ _ _ _ _ _ _ _
    (bind_cong (many f (rest s)) _ _ _ (many_enough f f' (rest s) (omega arith) (omega arith)) λ e t h. refl)
    refl
    (λ k. need_cong 60 (rest s) (equated f d k) (equated f' d k) λ l. equated_enough f f' d k (rest (rest s))
    (omega arith) (omega arith))
    (λ x. refl) (headed_enough f f' (rest s) (omega arith) (omega arith)) refl refl

-- any two counts of calls that suffice read a row alike
pub entire_enough : (f f' d : ℕ) (s : List Symbol) → 3 + 5 * length s < f → 3 + 5 * length s < f'
    → entire f d s ≡ entire f' d s
unfolding entire
entire_enough f f' d s b b' = bind_cong (statement f d s) _ at_end at_end (statement_enough f f' d s b b') λ e t h. refl
