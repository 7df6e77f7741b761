-- What is told of one statement, by how its size, its tokens and its grammar end.
use Prim.Native.Nat.{ℕ, ◌+◌, ◌*◌, ◌≤◌}
use mathlib.Core.Path.{◌≡◌, refl, sym, ap, ap₂, ◌∙◌}
use mathlib.Core.Bool.{Bool, cond}
use mathlib.Core.List.{List, [], ◌∷◌, map, Memᴰ}
use native.Mathlib.Omega.{arith}
use borrow.Author.Tests.{ne_eqb}
use lib.ListN.{length, take, drop, set, length-map, length-drop}
use lib.Seq.{sets}
use Rattle.std.specs.Prelude.{Result, Ok, Err}
use Rattle.limits.specs.Limits.{fault_bytes}
use Rattle.laws.proofs.Sets.{sets_back}
use Rattle.deck.specs.Lines.{Line, lines_of}
use Rattle.deck.specs.Next.{lines_at}
use Rattle.deck.specs.Faults.{Flaw, flaw, size_flaw}
use Rattle.deck.specs.Spots.{spot_of}
use Rattle.deck.specs.declared.Place.{Place}
use Rattle.deck.specs.declared.Place.TheVariants.{AtStart, AtToken, AtEnd}
use Rattle.deck.specs.declared.Spot.{Spot}
use Rattle.deck.specs.Joined.{joined}
use Rattle.deck.proofs.Cutting.{spread_many, spread_take, lines_spread}
use Rattle.deck.proofs.Covered.{spot_few}
use Rattle.tokens.specs.Symbol.{Symbol, mark, number, name, word}
use Rattle.tokens.specs.Held.{symbol_kind, arg_of, held_row}
use Rattle.tokens.specs.Row.{Placed, Close, all_good, bad, Row, row_of, symbols}
use Rattle.tokens.specs.Contract.{no_room, tokens, fault, close_end, row_end, kinds_of, args_of}
use Rattle.tokens.proofs.Holding.{Holds, AllHold, held_back}
use Rattle.tokens.proofs.Rows.{row_short, Fine, symbols_fine, mark_above}
use Rattle.tokens.proofs.Answers.{ends_well, ends_badly}
use Rattle.drafts.specs.Tree.{Says as Statement}
use Rattle.drafts.specs.Drafts.{drafts_of}
use Rattle.grammar.specs.Parser.{read_row}
use Rattle.sheet.specs.Sheet.{Told, says, faulty, fault_at_spot, entry_of}
use Rattle.sheet.specs.Reader.{parsed, scanned, tokened, sized, cards_told, spotted}
use Rattle.faults.specs.Codes.{code_of}
use Rattle.translator.specs.declared.Flawed.{Flawed}
use Rattle.translator.specs.declared.SoFar.{SoFar}
use Rattle.translator.specs.Working.{behind, flawed, saying_in, TellsOf, Tells, Size, AddsOf, Adds}

-- ---- what is told

-- the same of what is told otherwise
pub tells_of : {t v : Told Place} {p : ℕ} {l u l' u' : List ℕ} {r : Result ℕ Flawed} → t ≡ v → Tells v p l u r l' u'
    → Tells t p l u r l' u'
tells_of e w = rw e w

-- a fault, and nothing written
pub tells_fault : {t : Told Place} {p : ℕ} {l u : List ℕ} (x : Flawed) → t ≡ faulty (code_of x.fault) x.place
    → Tells t p l u (Err x) l u
tells_fault x e = tells_of e (record { long_kinds = refl; long_args = refl; by_told = (refl, refl, refl) })

-- so many numbers of a buffer are those that were written to its front
pub taken : {n : ℕ} (l vs l' : List ℕ) → n ≡ length vs → length vs ≤ length l → l' ≡ sets l 0 vs → take n l' ≡ vs
taken l vs l' e h q = rw (e, q) (sets_back l 0 vs (omega arith))

-- ---- by its tokens

-- two numbers can hold a token that is fine
holds : (t : Symbol) → Fine t → Holds t
holds (mark b) h = omega (arith, mark_above b h)
holds (number x) h = h.1
holds (name k) h = tt
holds (word w) h = tt

-- and so with all tokens of a row
all_hold : (ts : List Symbol) → ((t : Symbol) → Memᴰ t ts → Fine t) → AllHold ts
all_hold [] f = tt
all_hold (t ∷ ts) f = (holds t (f t (Memᴰ.head refl)), all_hold ts (λ q m. f q (Memᴰ.tail m)))

module _ (s : List ℕ) where
  -- with a bad token
  pub tokened_bad : {code n at : ℕ} → row_end (row_of s) ≡ fault code n at
      → tokened (row_of s) ≡ faulty code (AtToken at)
  tokened_bad {code} {n} {at} e = ap (scanned (row_of s).tokens) (ends_badly (row_of s) code n at e).0

  -- with none
  pub tokened_well : {n : ℕ} → row_end (row_of s) ≡ tokens n
      → tokened (row_of s) ≡ parsed (row_of s).tokens (read_row (symbols (row_of s).tokens))
  tokened_well {n} e = ap (scanned (row_of s).tokens) (ends_well (row_of s) n e).0

  -- the row that was written holds its tokens
  pub row_held : {n : ℕ} (ks us ks' us' : List ℕ) → row_end (row_of s) ≡ tokens n → length s ≤ length ks
      → length s ≤ length us
      → ks' ≡ sets ks 0 (kinds_of (row_of s)) → us' ≡ sets us 0 (args_of (row_of s))
      → held_row (take n ks') (take n us') ≡ symbols (row_of s).tokens
  row_held {n} ks us ks' us' e hk hu ek eu =
      rw (held symbol_kind ks ks' hk ek, held arg_of us us' hu eu) (held_back ts (all_hold ts (symbols_fine s)))
    where
      ts : List Symbol
      ts = symbols (row_of s).tokens

      held : (f : Symbol → ℕ) (l l' : List ℕ) → length s ≤ length l → l' ≡ sets l 0 (map f ts) → take n l' ≡ map f ts
      held f l l' h q =
          let m : length (map f ts) ≡ n =
          length-map ts f ∙ length-map (row_of s).tokens (λ (p : Placed). p.symbol) ∙ (ends_well (row_of s) n e).1 in
          taken l (map f ts) l' (sym m) (omega (arith, row_short s, (ends_well (row_of s) n e).1)) q

-- a row ends some way
pub never_full : (r : Row) → row_end r ≡ no_room → ⊥
never_full r e = go r.close (length r.tokens) e
  where
    go : (c : Close) (n : ℕ) → close_end c n ≡ no_room → ⊥
    go all_good n e = let z : ◌≡◌ {A = ℕ} 0 1 = cc in omega arith
    go (bad code at) n e = let z : ◌≡◌ {A = ℕ} 0 1 = cc in omega arith

-- ---- by its size
module _ (cards : List Line) (closed : Bool) where
  -- with a fault for size
  pub told_sized : (code : ℕ) → Size cards closed code → (code ≡ 0 → ⊥)
      → cards_told cards closed ≡ faulty code (cond closed AtStart AtEnd)
  unfolding cards_told
  told_sized code e h =
      let f : size_flaw cards closed ≡ flaw code (cond closed AtStart AtEnd) = e ∙ rw (ne_eqb code 0 h) in
      ap (λ (f : Flaw). sized f (joined cards)) f

  -- without
  pub told_joined : Size cards closed 0 → cards_told cards closed ≡ tokened (row_of (joined cards))
  unfolding cards_told
  told_joined e = ap (λ (f : Flaw). sized f (joined cards)) e

-- a spot of lines that stand in a text is no further down than the text has bytes, and one
pub down_few : (text : List ℕ) (start lines : ℕ) (place : Place) (s : Spot)
    → s ≡ spot_of (lines_at text start lines) place → s.down ≤ length text + 1
down_few text start lines place s e =
    let ls = lines_at text start lines in
    omega (
      arith,
      ap (λ (x : Spot). x.down) e,
      spot_few ls place,
      spread_many ls,
      spread_take lines (lines_of (drop start text)),
      lines_spread (drop start text),
      length-drop start text,
    )

-- ---- one statement more: the cards of the lines ls tell t
module _ {t : Told Place} {l u l' u' : List ℕ} {r : Result ℕ Flawed} (n : SoFar) (w : Tells t n.drafts l u r l' u')
    (ls : List Line) where
  -- where it says something, by at most m drafts, the answer is not too far on
  pub end_near : {end : ℕ} (m : ℕ) → ((x : Statement) → t ≡ says x → length (drafts_of x) ≤ m) → r ≡ Ok end
      → end ≤ n.drafts + m
  end_near {end} m few e = go (ap saying_in e) t refl w.by_told
    where
      go : saying_in r ≡ behind end → (v : Told Place) → t ≡ v → TellsOf v n.drafts l u (saying_in r) l' u'
          → end ≤ n.drafts + m
      go k (says x) h (a, b, c) = let q : end ≡ n.drafts + length (drafts_of x) = cc in omega (arith, few x h)
      go k (faulty c q) h (a, b, d) = absurd (let z : ◌≡◌ {A = ℕ} 0 1 = cc in omega arith)

  -- so its number and that end are noted
  pub adds_says : {end : ℕ} (first : ℕ) (lines bs fs : List ℕ) → r ≡ Ok end
      → Adds (spotted ls t) first n l u lines bs fs
      (record { statements = n.statements + 1; drafts = end; faults = n.faults }) l' u'
      (set lines n.statements first) (set bs (n.statements + 1) end) fs
  adds_says {end} first lines bs fs e =
      record { long_kinds = w.long_kinds; long_args = w.long_args; by_told = go (ap saying_in e) t w.by_told }
    where
      go : saying_in r ≡ behind end → (t : Told Place) → TellsOf t n.drafts l u (saying_in r) l' u'
          → AddsOf (spotted ls t) first n l u lines bs fs
          (record { statements = n.statements + 1; drafts = end; faults = n.faults }) l' u'
          (set lines n.statements first) (set bs (n.statements + 1) end) fs
      go k (says x) (a, b, c) = let q : end ≡ n.drafts + length (drafts_of x) = cc in (rw q, b, c, refl, rw q, refl)
      go k (faulty c q) (a, b, d) = absurd (let z : ◌≡◌ {A = ℕ} 0 1 = cc in omega arith)

  -- where it has a fault, that is listed with its spot
  pub adds_faulty : (x : Flawed) {code : ℕ} (first : ℕ) (lines bs fs fs' : List ℕ) (s : Spot)
      → r ≡ Err x → code ≡ code_of x.fault → s ≡ spot_of ls x.place
      → fs' ≡ sets fs (fault_bytes * n.faults) (entry_of (fault_at_spot first code s))
      → Adds (spotted ls t) first n l u lines bs fs
      (record { statements = n.statements; drafts = n.drafts; faults = n.faults + 1 }) l' u' lines bs fs'
  adds_faulty x {code} first lines bs fs fs' s e same spot f =
      record { long_kinds = w.long_kinds; long_args = w.long_args; by_told = go (ap saying_in e) t w.by_told }
    where
      go : saying_in r ≡ flawed (code_of x.fault) x.place → (t : Told Place)
          → TellsOf t n.drafts l u (saying_in r) l' u'
          → AddsOf (spotted ls t) first n l u lines bs fs
          (record { statements = n.statements; drafts = n.drafts; faults = n.faults + 1 }) l' u' lines bs fs'
      go h (says x) (a, b, c) = absurd (let z : ◌≡◌ {A = ℕ} 0 1 = cc in omega arith)
      go h (faulty c q) (a, b, d) =
          let k : code ≡ c = cc in
          let p : x.place ≡ q = cc in
          let there : s ≡ spot_of ls q = spot ∙ ap (spot_of ls) p in
          let written : ℕ → Spot → List ℕ =
          λ (c : ℕ) (s : Spot). sets fs (fault_bytes * n.faults) (entry_of (fault_at_spot first c s)) in
          (refl, b, d, refl, refl, f ∙ ap₂ written k there)
