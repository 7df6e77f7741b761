-- A statement of a text: its fault for size, its first bad token, or what the grammar says of its tokens.
use Prim.Native.Nat.{ℕ}
use mathlib.Core.Path.{◌≡◌, sym, ap, ◌∙◌}
use mathlib.Core.Bool.{Bool}
use mathlib.Core.List.{List}
use mathlib.Core.Logic.{◌⊎◌, inl, inr, ⊎_elim}
use native.Mathlib.Omega.{arith}
use Rattle.deck.specs.Lines.{Line}
use Rattle.deck.specs.Reading.{cards_of}
use Rattle.deck.specs.Spots.{spot_of}
use Rattle.deck.specs.declared.Place.{Place}
use Rattle.deck.specs.declared.Spot.{Spot}
use Rattle.tokens.specs.Row.{Placed, symbols}
use Rattle.drafts.specs.Tree.{Says}
use Rattle.grammar.specs.Parser.{Read, read, fault, read_row}
use Rattle.grammar.specs.Meaning.{Eighteen, Nineteen}
use Rattle.grammar.proofs.Means.{means}
use Rattle.sheet.specs.Sheet.{Told, says, faulty}
use Rattle.sheet.specs.Reader.{place_of, parsed, cards_told, spotted, told}
use Rattle.sheet.specs.StatementMeans.{tokens_of, Scanned, StatementMeans}

-- what is said was read
pub parsed_says : (ps : List Placed) (r : Read) (x : Says) → parsed ps r ≡ says x → r ≡ read x
parsed_says ps (read y) x e = cc
parsed_says ps (fault c i) x e = absurd (let z : ◌≡◌ {A = ℕ} 0 1 = cc in omega arith)

-- a fault was found at a token
parsed_faulty : (ps : List Placed) (r : Read) (c : ℕ) (p : Place) → parsed ps r ≡ faulty c p
    → (i : ℕ) × (r ≡ fault c i) × (p ≡ place_of ps i)
parsed_faulty ps (read y) c p e = absurd (let z : ◌≡◌ {A = ℕ} 0 1 = cc in omega arith)
parsed_faulty ps (fault b i) c p e = let z : b ≡ c = cc in (i, ap (λ (k : ℕ). fault k i) z, (cc))

-- ---- a place as a spot

-- what is said with spots is said with places
pub spotted_says : (ls : List Line) (t : Told Place) (x : Says) → spotted ls t ≡ says x → t ≡ says x
spotted_says ls (says y) x e = let z : y ≡ x = cc in ap says z
spotted_says ls (faulty c p) x e = absurd (let z : ◌≡◌ {A = ℕ} 0 1 = cc in omega arith)

-- a fault at a spot is one at a place there
pub spotted_faulty : (ls : List Line) (t : Told Place) (c : ℕ) (s : Spot) → spotted ls t ≡ faulty c s
    → (p : Place) × (t ≡ faulty c p) × (s ≡ spot_of ls p)
spotted_faulty ls (says x) c s e = absurd (let z : ◌≡◌ {A = ℕ} 0 1 = cc in omega arith)
spotted_faulty ls (faulty b p) c s e = let z : b ≡ c = cc in (p, ap (λ (k : ℕ). faulty k p) z, (cc))

-- what a statement says its cards say
pub told_says : (lines : List Line) (closed : Bool) (x : Says) → told lines closed ≡ says x
    → cards_told (cards_of lines) closed ≡ says x
unfolding told
told_says lines closed x e = spotted_says lines (cards_told (cards_of lines) closed) x e

module _ (lines : List Line) (closed : Bool) where
  -- its tokens
  abbrev placed : List Placed
  placed = tokens_of (cards_of lines)

  -- without an earlier fault the grammar decides
  by_grammar : Scanned (cards_of lines) closed
      → told lines closed ≡ spotted lines (parsed placed (read_row (symbols placed)))
  unfolding told cards_told
  by_grammar w = rw (w.sized, w.good)

  -- the fault, with its code and token
  found : Scanned (cards_of lines) closed → (c : ℕ) (p : Spot) → told lines closed ≡ faulty c p
      → (i : ℕ) × (p ≡ spot_of lines (place_of placed i))
      × (((c ≡ 18) × Eighteen (symbols placed) i) ⊎ ((c ≡ 19) × Nineteen (symbols placed) i))
  found w c p e =
      let m = means (symbols placed) in
      let at = spotted_faulty lines (parsed placed (read_row (symbols placed))) c p (sym (by_grammar w) ∙ e) in
      let f = parsed_faulty placed (read_row (symbols placed)) c at.0 at.1 in
      let with_code : (b : ℕ) → c ≡ b → read_row (symbols placed) ≡ fault b f.0 =
      λ b z. f.1 ∙ ap (λ (k : ℕ). fault k f.0) z in (
        f.0,
        at.2 ∙ ap (spot_of lines) f.2,
        ⊎_elim (λ z. inl (z, (m.eighteen f.0).0 (with_code 18 z)))
            (λ z. inr (z, (m.nineteen f.0).0 (with_code 19 z))) (m.no_other c f.0 f.1),
      )

  -- WHAT A STATEMENT MEANS
  pub statement_means : StatementMeans lines closed
  unfolding told cards_told
  statement_means =
      let m = means (symbols placed) in
      let read_as : Read → Told Spot = λ (r : Read). spotted lines (parsed placed r) in
      record {
        for_size = λ c p e. rw e;
        for_token = λ e c at b. rw (e, b);
        for_grammar = λ w x. (
          λ e. (m.statement x).0
              (parsed_says placed (read_row (symbols placed)) x
              (spotted_says lines (parsed placed (read_row (symbols placed))) x (sym (by_grammar w) ∙ e))),
          λ a. by_grammar w ∙ ap read_as ((m.statement x).1 a),
        );
        for_eighteen = λ w i E. by_grammar w ∙ ap read_as ((m.eighteen i).1 E);
        for_nineteen = λ w i N. by_grammar w ∙ ap read_as ((m.nineteen i).1 N);
        no_other = found;
      }
