-- How many values stand at once while a tree's postfix runs: with d levels at most 3 + 4 · d, so the stack's places
-- suffice.
use Prim.Native.Nat.{ℕ, ◌+◌, ◌*◌, ◌≤◌, max}
use mathlib.Core.Path.{◌≡◌, refl, subst}
use mathlib.Core.List.{List}
use native.Mathlib.Omega.{arith}
use Rattle.limits.specs.Limits.{levels, stack_places}
use Rattle.tokens.specs.Symbol.{Symbol}
use Rattle.drafts.specs.Tree.{Two, plus, minus, times, over, compar, Tree, Says}
use Rattle.drafts.specs.Items.{peak, peak_of}
use Rattle.grammar.specs.Look.{op, signed}
use Rattle.grammar.specs.Look.{Opening, group, pair, pair_of, triple, triple_of, triple_of_two, Given, full}
use Rattle.grammar.specs.Look.{wants, give_to}
use Rattle.grammar.specs.Grammar.{Mode, expr, term, factor, terms, factors, opened, list}
use Rattle.grammar.specs.Grammar.{Der, unsigned, sign, no_terms, add, a_term, no_factors, mul, a_leaf, grouped}
use Rattle.grammar.specs.Grammar.{called, opening, last, comma}
use Rattle.grammar.specs.Grammar.{Derives, of_constants, of_assignment, of_state, of_header, of_ending}
use Rattle.grammar.proofs.Looks.{Bare, bare_value, bare_name, bare_time, New, new_pair, new_triple, as_starting}

-- ---- openings

-- of the expressions that an opening has been given so far
abbrev held : Opening → ℕ
held group = 0
held pair = 0
held (pair_of a) = peak a
held (triple o) = 0
held (triple_of o a) = peak a
held (triple_of_two o a b) = max (peak a) (1 + peak b)

-- nothing is given yet, so nothing stands
new_peak : {p : Opening} → New p → held p ≡ 0
new_peak new_pair = refl
new_peak new_triple = refl

-- given one more: at most two stand below it
abbrev Raised : Opening → Tree → Given → Type 0
Raised p e (full x) = peak x ≤ max (held p) (2 + peak e)
Raised p e (wants q) = held q ≤ max (held p) (2 + peak e)

-- it is so for each opening
raised : (p : Opening) (e : Tree) → Raised p e (give_to p e)
unfolding give_to peak
raised group e = omega arith
raised pair e = omega arith
raised (pair_of a) e = omega arith
raised (triple o) e = omega arith
raised (triple_of o a) e = omega arith
raised (triple_of_two o a b) e = omega arith

-- so it is where what it makes is known
as_raised : (p : Opening) (e : Tree) {g : Given} → give_to p e ≡ g → Raised p e g
as_raised p e q = subst (λ (g : Given). Raised p e g) q (raised p e)

-- ---- over the depth

-- what a mode can reach within d levels
abbrev high : Mode → ℕ → ℕ
high expr d = 3 + 4 * d
high (terms l) d = 3 + 4 * d
high term d = 2 + 4 * d
high (factors l) d = 2 + 4 * d
high factor d = 1 + 4 * d
high (opened p) d = 1 + 4 * d
high (list p) d = 5 + 4 * d

-- what it goes on from has not reached more
abbrev Low : Mode → ℕ → Type 0
Low expr d = Unit {0}
Low (terms l) d = peak l ≤ high (terms l) d
Low term d = Unit {0}
Low (factors l) d = peak l ≤ high (factors l) d
Low factor d = Unit {0}
Low (opened p) d = held p ≤ high (opened p) d
Low (list p) d = held p ≤ high (list p) d

-- a sign adds nothing
peak_signed : (o : Two) (e : Tree) → peak (signed (op o) e) ≡ peak e
unfolding peak
peak_signed plus e = refl
peak_signed minus e = refl
peak_signed times e = refl
peak_signed over e = refl
peak_signed compar e = refl

-- a number, a name or TIME is one value
bare_peak : {e : Tree} → Bare e → peak e ≡ 1
unfolding peak
bare_peak bare_value = refl
bare_peak bare_name = refl
bare_peak bare_time = refl

-- no mode reaches more
stack : {m : Mode} {d : ℕ} {w : List Symbol} {e : Tree} → Der m d w e → Low m d → peak e ≤ high m d
unfolding peak
stack (unsigned a b) p = stack b (let x = stack a tt in omega arith)
stack (sign {o = o} {e = e} h a b) p = stack b (rw (peak_signed o e) (let x = stack a tt in omega arith))
stack no_terms p = p
stack (add h a b) p = stack b (let x = stack a tt in omega arith)
stack (a_term a b) p = stack b (let x = stack a tt in omega arith)
stack no_factors p = p
stack (mul h a b) p = stack b (let x = stack a tt in omega arith)
stack (a_leaf {t = t} h) p = rw (bare_peak (as_starting t h)) (omega arith)
stack (grouped a) p = stack a (omega arith)
stack (called {t = t} h a) p = stack a (rw (new_peak (as_starting t h)) (omega arith))
stack (opening a) p = let x = stack a (omega arith) in omega arith
stack (last {p = q} {e = e} h a) p = let x = stack a tt in let y = as_raised q e h in omega arith
stack (comma {p = q} {e = e} h a b) p = stack b (let x = stack a tt in let y = as_raised q e h in omega arith)

-- one fact over the depth: for a statement, whatever the levels
pub stack_of : {d : ℕ} {w : List Symbol} {x : Says} → Derives d w x → peak_of x ≤ 3 + 4 * d
stack_of (of_constants h a) = omega arith
stack_of (of_assignment a) = stack a tt
stack_of (of_state i a) = stack a tt
stack_of (of_header k a b) = omega arith
stack_of of_ending = omega arith

-- the places of the stack suffice
pub suffices : {w : List Symbol} {x : Says} → Derives levels w x → peak_of x ≤ stack_places
suffices a = let h = stack_of a in omega arith
