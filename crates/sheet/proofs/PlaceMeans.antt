-- The place of a statement's fault is in the statement.
use Prim.Native.Nat.{ℕ, suc, ◌-◌, ◌<◌}
use mathlib.Core.Path.{◌≡◌, refl, sym, ap, subst, ◌∙◌}
use mathlib.Core.Bool.{Bool, cond}
use mathlib.Core.List.{List, [], ◌∷◌}
use mathlib.Core.Logic.{⊎_elim}
use native.Mathlib.Omega.{arith}
use borrow.Author.Tests.{lt-ltb, ltb-true, eqb-false}
use lib.Dec.{ltb}
use lib.ListN.{length, get_or, drop, length-drop}
use lib.Seq.{drop-cons}
use Rattle.laws.specs.Every.{Every}
use Rattle.laws.proofs.Tests.{cond_ind}
use Rattle.limits.specs.Limits.{most_cards}
use Rattle.deck.specs.Lines.{Line}
use Rattle.deck.specs.Reading.{cards_of}
use Rattle.deck.specs.Joined.{line_part, joined}
use Rattle.deck.specs.Faults.{Flaw, none, flaw, any_long, size_flaw}
use Rattle.deck.specs.Spots.{spot_of}
use Rattle.deck.specs.InPlace.{line_at_spot, InCard, Earlier}
use Rattle.deck.specs.declared.Place.{Place}
use Rattle.deck.specs.declared.Place.TheVariants.{AtStart, AtToken, AtEnd}
use Rattle.deck.specs.declared.Spot.{Spot}
use Rattle.deck.proofs.InPlace.{Begun, first_in, end_in, Solid, byte_stands, spot_order}
use Rattle.tokens.specs.Row.{Placed, Close, all_good, bad, no_token, row_of, symbols}
use Rattle.tokens.specs.Seen.{Seen, token, ill}
use Rattle.tokens.proofs.Local.{cut_local}
use Rattle.tokens.proofs.RowPlaces.{Stood, RowThere, row_there, token_stood, tokens_rise, bad_stood}
use Rattle.grammar.specs.Parser.{Read, read, fault, read_row}
use Rattle.grammar.proofs.Means.{means}
use Rattle.sheet.specs.Sheet.{Told, says, faulty}
use Rattle.sheet.specs.Reader.{place_of, parsed, scanned, sized, cards_told, spotted, told}
use Rattle.sheet.specs.StatementMeans.{tokens_of, Scanned}
use Rattle.sheet.specs.PlaceMeans.{CutThere, token_spot, GoodBefore, FaultAt, PlaceMeans}
use Rattle.sheet.proofs.StatementMeans.{statement_means}

module _ (lines : List Line) (begun : Begun lines) where
  abbrev body : List ℕ
  body = joined (cards_of lines)

  abbrev toks : List Placed
  toks = tokens_of (cards_of lines)

  -- ---- a token that stands in the joined text stands in a card, and is cut alike from it
  stood_solid : {n : ℕ} {x : Seen} → Stood body n x → Solid lines n
  stood_solid {n} w =
      record {
        first = get_or body n 0;
        rest = drop (suc n) body;
        there = drop-cons body n 0 w.inside;
        no_space = eqb-false (get_or body n 0) 32 w.solid;
      }

  stood_there : {n : ℕ} {x : Seen} → Stood body n x → CutThere lines n x (spot_of lines (AtToken n))
  stood_there {n} {x} w =
      let p = spot_of lines (AtToken n) in
      let at = byte_stands lines n (stood_solid w) in
      let part = line_part (line_at_spot lines p) in
      let rest = drop (p.column - 1) part in
      let some : 0 < length rest =
      omega (arith, length-drop (p.column - 1) part, at.in_part, at.in_card.column) in
      record {
        stands = at;
        cut =
            sym (cut_local body part n (p.column - 1) rest at.behind at.goes_on refl at.apart some w.solid)
            ∙ w.seen;
      }

  -- an earlier one is earlier there
  stood_order : {m n : ℕ} {x y : Seen} → m < n → Stood body m x → Stood body n y
      → Earlier (spot_of lines (AtToken m)) (spot_of lines (AtToken n))
  stood_order {m} {n} h v w = spot_order lines m n h (stood_solid v) (stood_solid w)

  -- ---- whatever is told, its place is in a card
  abbrev ToldIn : Told Place → Type 0
  ToldIn (says x) = Unit {0}
  ToldIn (faulty c p) = InCard lines (spot_of lines p)

  abbrev FlawIn : Flaw → Type 0
  FlawIn none = Unit {0}
  FlawIn (flaw c p) = InCard lines (spot_of lines p)

  -- of the faults for size
  size_in : (cards : List Line) (closed : Bool) → FlawIn (size_flaw cards closed)
  unfolding size_flaw
  size_in cards closed =
      let one = first_in lines begun in
      cond_ind FlawIn closed
      (cond (ltb most_cards (length cards)) (flaw 12 AtStart) (cond (any_long cards) (flaw 13 AtStart) none))
      (flaw 11 AtEnd)
      (λ _. cond_ind FlawIn (ltb most_cards (length cards)) (flaw 12 AtStart)
      (cond (any_long cards) (flaw 13 AtStart) none) (λ _. one)
      (λ _. cond_ind FlawIn (any_long cards) (flaw 13 AtStart) none (λ _. one) (λ _. tt)))
      (λ _. end_in lines begun)

  -- of the grammar's
  parsed_in : (d : Read) → ToldIn (parsed toks d)
  parsed_in (read x) = tt
  parsed_in (fault c i) =
      cond_ind (λ (p : Place). InCard lines (spot_of lines p)) (ltb i (length toks))
      (AtToken (get_or toks i no_token).at) AtEnd
      (λ e. (stood_there (token_stood body 0 toks (row_of body).close (row_there body) i (ltb-true i (length toks) e)).1
      ).stands.in_card)
      (λ _. end_in lines begun)

  -- of a bad token
  scanned_in : (c : Close) → (row_of body).close ≡ c → ToldIn (scanned toks c)
  scanned_in all_good e = parsed_in (read_row (symbols toks))
  scanned_in (bad code at) e =
      let w = bad_stood body 0 toks code at (subst (RowThere body 0 toks) e (row_there body)) in
      (stood_there w.1).stands.in_card

  sized_in : (f : Flaw) → FlawIn f → ToldIn (sized f body)
  sized_in none h = scanned_in (row_of body).close refl
  sized_in (flaw c p) h = h

  cards_in : (closed : Bool) → ToldIn (cards_told (cards_of lines) closed)
  unfolding cards_told
  cards_in closed = sized_in (size_flaw (cards_of lines) closed) (size_in (cards_of lines) closed)

  -- of whatever is told
  told_in : (t : Told Place) → ToldIn t → (c : ℕ) (p : Spot) → spotted lines t ≡ faulty c p → InCard lines p
  told_in (says x) h c p e = absurd (let z : ◌≡◌ {A = ℕ} 0 1 = cc in omega arith)
  told_in (faulty b q) h c p e = let z : spot_of lines q ≡ p = cc in subst (InCard lines) z h

  -- ---- the same spot
  told_spot : (closed : Bool) (b c : ℕ) (p q : Spot) → told lines closed ≡ faulty b p → told lines closed ≡ faulty c q
      → p ≡ q
  told_spot closed b c p q e f = let z : faulty b p ≡ faulty c q = sym e ∙ f in cc

  -- tokens before place n of the joined text are earlier than its spot, and are cut from their own
  each_before : {n : ℕ} {x : Seen} (p : Spot) → p ≡ spot_of lines (AtToken n) → Stood body n x
      → (b : ℕ) (qs : List Placed) (c : Close) → RowThere body b qs c → Every (λ (q : Placed). q.at < n) qs
      → Every (GoodBefore lines p) qs
  each_before p e v b [] c w h = tt
  each_before p e v b (q ∷ qs) c w h =
      ((rw e (stood_order h.0 w.1 v), stood_there w.1), each_before p e v (suc q.at) qs c w.2 h.1)

  -- the grammar's fault is the parser's
  fault_read : (c i : ℕ) → FaultAt (symbols toks) c i → read_row (symbols toks) ≡ fault c i
  fault_read c i f =
      let m = means (symbols toks) in
      ⊎_elim (λ e. (m.eighteen i).1 e.1 ∙ ap (λ (k : ℕ). fault k i) (sym e.0))
      (λ e. (m.nineteen i).1 e.1 ∙ ap (λ (k : ℕ). fault k i) (sym e.0)) f

  -- so there is one
  fault_one : (c d i j : ℕ) → FaultAt (symbols toks) c i → FaultAt (symbols toks) d j → i ≡ j
  fault_one c d i j f g = let z : fault c i ≡ fault d j = sym (fault_read c i f) ∙ fault_read d j g in cc

  -- it is told with the token's spot
  fault_told : (closed : Bool) → Scanned (cards_of lines) closed → (c i : ℕ) → FaultAt (symbols toks) c i
      → i < length toks → told lines closed ≡ faulty c (token_spot lines (get_or toks i no_token))
  fault_told closed w c i f h =
      let m = statement_means lines closed in
      let place : place_of toks i ≡ AtToken (get_or toks i no_token).at = rw (lt-ltb i (length toks) h) in
      let there : told lines closed ≡ faulty c (spot_of lines (place_of toks i)) =
      ⊎_elim (λ e. rw e.0 (m.for_eighteen w i e.1)) (λ e. rw e.0 (m.for_nineteen w i e.1)) f in
      there ∙ ap (λ (q : Place). faulty c (spot_of lines q)) place

  -- WHERE THE PLACE IS
  pub place_means : (closed : Bool) → PlaceMeans lines closed
  unfolding told
  place_means closed =
      let row = row_there body in
      record {
        in_statement = told_in (cards_told (cards_of lines) closed) (cards_in closed);
        bad_token = λ none c at e p t.
            let with_bad = subst (RowThere body 0 toks) e row in
            let w = bad_stood body 0 toks c at with_bad in
            let same = told_spot closed c c p _ t ((statement_means lines closed).for_token none c at e) in (
              subst (CutThere lines at (ill c)) (sym same) (stood_there w.1),
              each_before p same w.1 0 toks (bad c at) with_bad w.2,
            );
        wrong_token = λ w c i f h p t.
            let close = (row_of body).close in
            let one = (token_stood body 0 toks close row i h).1 in
            let same = told_spot closed c c p _ t (fault_told closed w c i f h) in (
              subst (CutThere lines (get_or toks i no_token).at (token (get_or toks i no_token).symbol)) (sym same)
                  (stood_there one),
              λ j k. (
                rw same
                    (stood_order (tokens_rise body 0 toks close row j i k h)
                    (token_stood body 0 toks close row j (omega arith)).1 one),
                λ d g. omega (arith, fault_one c d i j f g),
              ),
            );
      }
