-- The parser accepts a row exactly if the grammar derives it, with the same tree; and what it writes is the drafts of
-- what it says.
use Prim.Native.Nat.{ℕ, zero, suc, ◌+◌, ◌*◌, ◌<◌}
use mathlib.Core.Path.{◌≡◌, refl, sym, ap, subst, ◌∙◌}
use mathlib.Core.List.{List, [], ◌∷◌, ◌++◌, append_assoc, append-nil}
use mathlib.Core.Logic.{◌↔◌}
use native.Mathlib.Omega.{arith}
use borrow.Author.Tests.{ne_eqb}
use lib.ListN.{length, length-append}
use lib.Ieee.{Float}
use Rattle.limits.specs.Limits.{levels}
use Rattle.tokens.specs.Symbol.{Symbol, mark, number, name}
use Rattle.drafts.specs.Tree.{Tree, Constant, Initial, Says}
use Rattle.drafts.specs.Kinds.{kind_output, kind_input}
use Rattle.drafts.specs.Drafts.{Draft, drafts_of}
use Rattle.grammar.specs.Look.{next, rest, byte_of, factor_start, Start, Constants, Integral, Named, Valued}
use Rattle.grammar.specs.Look.{Header, Ending, Other, start_of}
use Rattle.grammar.specs.Grammar.{expr, Der, unsigned, sign, Signed, unsigned_number, signed_number, Many, one}
use Rattle.grammar.specs.Grammar.{more}
use Rattle.grammar.specs.Grammar.{Initially, of_number, of_name, Names, one_name, more_names}
use Rattle.grammar.specs.Grammar.{Derives, of_constants, of_assignment, of_state, of_header, of_ending}
use Rattle.grammar.specs.Parser.{End, got, bad, Res, onward, bind, by_integral, by_signed_number, many, initially}
use Rattle.grammar.specs.Parser.{parse, calls}
use Rattle.grammar.specs.Parser.{assigned, integrated, many_names, headed, statement, at_end, entire, read}
use Rattle.grammar.specs.Parser.{row_answer, read_row}
use Rattle.grammar.proofs.Endings.{clash, OutEnd}
use Rattle.grammar.proofs.Looks.{add_other, as_known}
use Rattle.grammar.proofs.StatementsSound.{Stated, StatedVia, entire_out}
use Rattle.grammar.proofs.Complete.{bind_end, begins_term, complete}

-- [sign] number is read
signed_complete : {w : List Symbol} {x : Float} → Signed w x → (r : List Symbol)
    → (by_signed_number (w ++ r)).end ≡ got x r
unfolding by_signed_number start_of next rest byte_of
signed_complete unsigned_number r = refl
signed_complete (signed_number h) r = rw h

-- an initial is read
initially_complete : {w : List Symbol} {i : Initial} → Initially w i → (r : List Symbol)
    → (initially (w ++ r)).end ≡ got i r
unfolding initially start_of next rest
initially_complete (of_number (unsigned_number {x})) r =
    bind_end (by_signed_number (number x ∷ r)) _ (signed_complete unsigned_number r)
initially_complete (of_number (signed_number {o} {t} {x} h)) r =
    rw (add_other t o h) (bind_end (by_signed_number (t ∷ number x ∷ r)) _ (signed_complete (signed_number h) r))
initially_complete of_name r = refl

-- constants are read, up to a token that is no comma
many_complete : {w : List Symbol} {cs : List Constant} → Many w cs → (r : List Symbol) → (byte_of (next r) ≡ 44 → ⊥)
    → (f : ℕ) → length w < f
    → (many f (w ++ r)).end ≡ got cs r
unfolding many start_of next rest byte_of
many_complete m r n zero le = absurd (omega arith)
many_complete (one {k} {w} {x} a) r n (suc f) le =
    bind_end (by_signed_number (w ++ r)) _ (signed_complete a r) ∙ rw (ne_eqb _ _ n)
many_complete (more {k} {w} {s} {x} {cs} a b) r n (suc f) le =
    let q = length-append w (mark 44 ∷ s) in
    let p : (by_signed_number ((w ++ mark 44 ∷ s) ++ r)).end ≡ got x (mark 44 ∷ (s ++ r)) =
    rw append_assoc (signed_complete a (mark 44 ∷ (s ++ r))) in
    bind_end (by_signed_number ((w ++ mark 44 ∷ s) ++ r)) _ p
    ∙ bind_end (many f (s ++ r)) _ (many_complete b r n f (omega arith))

-- names are read, up to a token that is no comma
names_complete : (n : ℕ) {w : List Symbol} {ks : List ℕ} → Names w ks → (r : List Symbol) → (byte_of (next r) ≡ 44 → ⊥)
    → (f : ℕ) → length w < f
    → (many_names n f (w ++ r)).end ≡ got ks r
unfolding many_names start_of next rest byte_of
names_complete n m r c zero le = absurd (omega arith)
names_complete n one_name r c (suc f) le = rw (ne_eqb _ _ c)
names_complete n (more_names {k} {w} {ks} a) r c (suc f) le =
    bind_end (many_names n f (w ++ r)) _ (names_complete n a r c f (omega arith))

-- no expression begins with INTGRL
no_integral : {d : ℕ} {w : List Symbol} {e : Tree} → Der expr d w e → start_of (next w) ≡ Integral → ⊥
unfolding next factor_start
no_integral (unsigned {w = w} {v = v} a b) z = begins_term a v (rw (as_known (next (w ++ v)) z))
no_integral (sign {o = o} {t = t} h a b) z = clash (cc (add_other t o h))

-- so behind name = the assignment is read
not_integral : {A : Type 0} (p : Start) (x y : Unit {0} → Res A) → (p ≡ Integral → ⊥) → by_integral p x y ≡ y tt
not_integral Constants x y n = refl
not_integral Integral x y n = absurd (n refl)
not_integral (Named k) x y n = refl
not_integral (Valued k) x y n = refl
not_integral Header x y n = refl
not_integral Ending x y n = refl
not_integral Other x y n = refl

-- a statement that is derived is read, at every count of calls that suffices
statement_complete : {d : ℕ} {w : List Symbol} {x : Says} → Derives d w x → (f : ℕ) → 3 + 5 * length w < f
    → (statement f d w).end ≡ got x []
unfolding statement assigned integrated headed start_of next rest byte_of
statement_complete {d} (of_constants {t} {w} {cs} h a) f le =
    let m : (many f w).end ≡ got cs [] = rw append-nil at (many_complete a [] (λ z. omega arith) f (omega arith)) in
    rw h (bind_end (many f w) _ m)
statement_complete {d} (of_assignment {k} {w} {e} a) f le =
    let m : (parse f expr d w).end ≡ got e [] = rw append-nil at (complete a [] (refl, refl) f (omega arith)) in
    ap (λ (z : Res Says). z.end) (not_integral (start_of (next w)) _ _ (no_integral a))
    ∙ bind_end (parse f expr d w) _ m
statement_complete {d} (of_state {k} {w} {v} {i} {e} a b) f le =
    let q = length-append w (mark 44 ∷ (v ++ mark 41 ∷ [])) in
    let p = length-append v (mark 41 ∷ []) in
    bind_end (initially (w ++ mark 44 ∷ (v ++ mark 41 ∷ []))) _ (initially_complete a (mark 44 ∷ (v ++ mark 41 ∷ [])))
    ∙ bind_end (parse f expr d (v ++ mark 41 ∷ [])) _ (complete b (mark 41 ∷ []) (refl, refl) f (omega arith))
statement_complete (of_header k {w} {v} a b) f le =
    let t = mark 61 ∷ name k ∷ mark 40 ∷ (v ++ mark 41 ∷ []) in
    let q = length-append w t in
    let p = length-append v (mark 41 ∷ []) in
    bind_end (many_names kind_output f (w ++ t)) _ (names_complete kind_output a t (λ z. omega arith) f (omega arith))
    ∙ bind_end (many_names kind_input f (v ++ mark 41 ∷ [])) _
    (names_complete kind_input b (mark 41 ∷ []) (λ z. omega arith) f (omega arith))
statement_complete of_ending f le = refl

-- and nothing is left of it
pub entire_complete : {d : ℕ} {w : List Symbol} {x : Says} → Derives d w x → (f : ℕ) → 3 + 5 * length w < f
    → (entire f d w).end ≡ got x []
unfolding entire
entire_complete {d} {w} a f le = bind_end (statement f d w) at_end (statement_complete a f le)

-- reading is done only at the end
entire_end : (f d : ℕ) (s : List Symbol) {x : Says} {t : List Symbol} → (entire f d s).end ≡ got x t → t ≡ []
unfolding entire bind
entire_end f d s {x} {t} = go (statement f d s).out (statement f d s).end
  where
    go : (o : List Draft) (u : End Says) → (onward o u at_end).end ≡ got x t → t ≡ []
    go o (got y []) h = cc
    go o (got y (a ∷ u)) h = clash (cc)
    go o (bad c u) h = clash (cc)

-- a row that is read, taken apart: it is derived, and what is written are its drafts
taken : (row : List Symbol) (x : Says) → read_row row ≡ read x
    → Derives levels row x × ((entire (calls row) levels row).out ≡ drafts_of x)
unfolding read_row
taken row x = go (entire (calls row) levels row).end (entire_out (calls row) levels row).ends refl
  where
    go : (t : End Says) → OutEnd (Stated levels) (StatedVia levels) row (entire (calls row) levels row).out t
        → (entire (calls row) levels row).end ≡ t
        → row_answer (length row) t ≡ read x
        → Derives levels row x × ((entire (calls row) levels row).out ≡ drafts_of x)
    go (got y t) r e h =
        let q : y ≡ x = cc in
        let z : row ≡ r.0 =
        r.1 ∙ ap (λ (u : List Symbol). r.0 ++ u) (entire_end (calls row) levels row e) ∙ append-nil r.0 in
        rw (← q) (subst (λ (w : List Symbol). Derives levels w y) (sym z) r.2.0, r.2.1)
    go (bad c t) r e h = clash (cc)

-- the parser accepts a row with the tree x exactly if the grammar derives it with the tree x
pub accepts : (row : List Symbol) (x : Says) → (read_row row ≡ read x) ↔ Derives levels row x
unfolding read_row
accepts row x =
    (λ h. (taken row x h).0, λ a. ap (row_answer (length row)) (entire_complete a (calls row) (omega arith)))

-- for a row that is read, what is written are the drafts of what it says
pub written : (row : List Symbol) (x : Says) → read_row row ≡ read x → (entire (calls row) levels row).out ≡ drafts_of x
written row x h = (taken row x h).1
