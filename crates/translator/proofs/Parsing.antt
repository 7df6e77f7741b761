-- What the grammar's answer for a row of tokens tells.
use Prim.Native.Nat.{ℕ, suc, ◌+◌, ◌≤◌}
use mathlib.Core.Path.{◌≡◌, refl, sym, ap, ◌∙◌}
use mathlib.Core.Bool.{Bool, cond}
use mathlib.Core.Logic.{⊎_elim}
use mathlib.Core.List.{List, [], ◌∷◌}
use native.Mathlib.Omega.{arith}
use borrow.Author.Tests.{eq-eqb, le-leb, lt-ltb, le-ltb}
use lib.Dec.{ltb}
use lib.ListN.{length, take, set, length-map}
use lib.Seq.{sets, length-sets, take-set-le}
use Rattle.std.specs.Prelude.{Result, Err}
use Rattle.limits.specs.Limits.{levels}
use Rattle.laws.proofs.Tests.{lt_or_ge}
use Rattle.deck.specs.Lines.{Line}
use Rattle.deck.specs.Joined.{joined}
use Rattle.deck.specs.Faults.{Flaw, none, flaw, size_flaw}
use Rattle.deck.specs.declared.Place.TheVariants.{AtStart, AtToken, AtEnd}
use Rattle.tokens.specs.Held.{held_row}
use Rattle.tokens.specs.Row.{Placed, Close, all_good, bad, row_of, symbols}
use Rattle.tokens.specs.Skips.{place_behind}
use Rattle.tokens.proofs.Rows.{row_short}
use Rattle.tokens.proofs.Skips.{place_of_token}
use Rattle.drafts.specs.Tree.{Says as Statement}
use Rattle.drafts.specs.Drafts.{Draft, drafts_of}
use Rattle.grammar.specs.Parser.{Read, read, fault, read_row, entire, calls}
use Rattle.grammar.specs.Contract.{ParseOutcome, parse_outcome, wrote, Parsed, Done, Fault, NoRoom, parsed_in}
use Rattle.grammar.specs.Contract.{parsed_as}
use Rattle.grammar.specs.Contract.{row_wrote, row_outcome, ParsesRow}
use Rattle.grammar.specs.declared.ParseError.{ParseError}
use Rattle.grammar.specs.declared.ParseError.TheVariants.{NoRoom as TooShort}
use Rattle.grammar.proofs.Accepts.{written}
use Rattle.grammar.proofs.Room.{room}
use Rattle.sheet.specs.Sheet.{says}
use Rattle.sheet.specs.Reader.{place_of, parsed, scanned, sized, cards_told}
use Rattle.sheet.specs.Layout.{draft_kinds, draft_args}
use Rattle.translator.specs.declared.Flawed.{Flawed}
use Rattle.translator.specs.Working.{TellsOf, Tells, RowRoom, Saying, behind, flawed, saying_in}

-- what is written from a place on keeps what stands before
take_before : (p : ℕ) (l : List ℕ) (i : ℕ) (vs : List ℕ) → p ≤ i → take p (sets l i vs) ≡ take p l
take_before p l i [] h = refl
take_before p l i (a ∷ vs) h = take_before p (set l i a) (suc i) vs (omega arith) ∙ take-set-le p l i a h

-- the place that is found for token i of a row of n tokens is its own
pub place_same : (s : List ℕ) (n i : ℕ) → length (row_of s).tokens ≡ n
    → cond (ltb i n) (AtToken (place_behind i s 0)) AtEnd ≡ place_of (row_of s).tokens i
place_same s n i e =
    let m = length (row_of s).tokens in
    rw (← e)
    (⊎_elim (λ l. rw (lt-ltb i m l) (ap AtToken (sym (place_of_token s i l)))) (λ g. rw (le-ltb i m g)) (lt_or_ge i m))

-- the answer here for the grammar's
abbrev pub answer_of : List Placed → Parsed → Saying
answer_of ps (Done q) = behind q
answer_of ps (Fault c i) = flawed c (place_of ps i)
answer_of ps NoRoom = flawed 0 AtStart

-- what reading a row writes
abbrev out_of : List Placed → List Draft
out_of ps = (entire (calls (symbols ps)) levels (symbols ps)).out

module _ {ks us : List ℕ} {p : ℕ} {l u : List ℕ} (h : RowRoom ks us p l u) (r : Result ℕ ParseError) (l' u' : List ℕ)
    (w : ParsesRow ks us l u p r l' u')
    (ps : List Placed) (held : held_row ks us ≡ symbols ps) where
  -- there is room
  same : parse_outcome (parsed_in r) l' u' ≡ row_wrote (symbols ps) p l u
  unfolding row_outcome
  same =
      w
      ∙ rw (
        eq-eqb (length us) (length ks) h.even,
        le-leb (p + length ks) (length l) h.room_kinds,
        le-leb (p + length ks) (length u) h.room_args,
        held,
      )

  -- so the answer and both buffers are those of the reading
  replied : parsed_in r ≡ parsed_as (p + length (out_of ps)) (read_row (symbols ps))
  unfolding wrote
  replied = ap (λ (z : ParseOutcome Parsed). z.reply) same

  kinds_are : l' ≡ sets l p (draft_kinds (out_of ps))
  unfolding wrote
  kinds_are = ap (λ (z : ParseOutcome Parsed). z.kinds) same

  args_are : u' ≡ sets u p (draft_args (out_of ps))
  unfolding wrote
  args_are = ap (λ (z : ParseOutcome Parsed). z.args) same

  -- by what was read
  by_read : (d : Read) → read_row (symbols ps) ≡ d → parsed_in r ≡ parsed_as (p + length (out_of ps)) d
      → TellsOf (parsed ps d) p l u (answer_of ps (parsed_in r)) l' u'
  by_read (read x) e a =
      let d : out_of ps ≡ drafts_of x = written (symbols ps) x e in (
        ap (answer_of ps) a ∙ ap (λ (ds : List Draft). behind (p + length ds)) d,
        kinds_are ∙ ap (λ (ds : List Draft). sets l p (draft_kinds ds)) d,
        args_are ∙ ap (λ (ds : List Draft). sets u p (draft_args ds)) d,
      )
  by_read (fault c i) e a = (
    ap (answer_of ps) a,
    ap (take p) kinds_are ∙ take_before p l p (draft_kinds (out_of ps)) (omega arith),
    ap (take p) args_are ∙ take_before p u p (draft_args (out_of ps)) (omega arith),
  )

  -- an answer that is the grammar's here, and the buffers, are what the row tells
  pub parsed_tells : (a : Result ℕ Flawed) → saying_in a ≡ answer_of ps (parsed_in r)
      → Tells (parsed ps (read_row (symbols ps))) p l u a l' u'
  parsed_tells a e =
      record {
        long_kinds = ap length kinds_are ∙ length-sets l p (draft_kinds (out_of ps));
        long_args = ap length args_are ∙ length-sets u p (draft_args (out_of ps));
        by_told = rw e (by_read (read_row (symbols ps)) refl replied);
      }

-- a row that has room is parsed, or misread
pub never_unparsed : {ks us : List ℕ} {p : ℕ} {l u : List ℕ} → RowRoom ks us p l u → (r : Result ℕ ParseError)
    → (l' u' : List ℕ) → ParsesRow ks us l u p r l' u' → r ≡ Err TooShort → ⊥
unfolding row_outcome wrote
never_unparsed {ks} {us} {p} {l} {u} h r l' u' w e =
    let roomed : parse_outcome (parsed_in r) l' u' ≡ row_wrote (held_row ks us) p l u =
    w
    ∙ rw (
      eq-eqb (length us) (length ks) h.even,
      le-leb (p + length ks) (length l) h.room_kinds,
      le-leb (p + length ks) (length u) h.room_args,
    ) in
    let none : parsed_in r ≡ NoRoom = rw e in
    go _ (read_row (held_row ks us)) (sym none ∙ ap (λ (z : ParseOutcome Parsed). z.reply) roomed)
  where
    go : (q : ℕ) (d : Read) → NoRoom ≡ parsed_as q d → ⊥
    go q (read x) z = let y : ◌≡◌ {A = ℕ} 0 1 = cc in omega arith
    go q (fault c i) z = let y : ◌≡◌ {A = ℕ} 0 1 = cc in omega arith

-- ---- how many drafts there are

module _ (s : List ℕ) (x : Statement) where
  -- a row of as many tokens as bytes, at most, says x by as many drafts, at most
  few_parsed : (ps : List Placed) → length ps ≤ length s → (d : Read) → read_row (symbols ps) ≡ d → parsed ps d ≡ says x
      → length (drafts_of x) ≤ length s
  few_parsed ps h (read y) e q =
      let z : y ≡ x = cc in
      omega (
        arith,
        room (calls (symbols ps)) levels (symbols ps),
        ap length (written (symbols ps) y e ∙ ap drafts_of z),
        length-map ps (λ (t : Placed). t.symbol),
      )
  few_parsed ps h (fault c i) e q = absurd (let z : ◌≡◌ {A = ℕ} 0 1 = cc in omega arith)

  -- by how the row closes
  few_scanned : (ps : List Placed) → length ps ≤ length s → (c : Close) → scanned ps c ≡ says x
      → length (drafts_of x) ≤ length s
  few_scanned ps h all_good q = few_parsed ps h (read_row (symbols ps)) refl q
  few_scanned ps h (bad c at) q = absurd (let z : ◌≡◌ {A = ℕ} 0 1 = cc in omega arith)

  -- by the fault for size
  few_sized : (f : Flaw) → sized f s ≡ says x → length (drafts_of x) ≤ length s
  few_sized none q = few_scanned (row_of s).tokens (row_short s) (row_of s).close q
  few_sized (flaw c p) q = absurd (let z : ◌≡◌ {A = ℕ} 0 1 = cc in omega arith)

-- each draft of a statement takes a byte of its joined text
pub drafts_few : (cards : List Line) (closed : Bool) (x : Statement) → cards_told cards closed ≡ says x
    → length (drafts_of x) ≤ length (joined cards)
unfolding cards_told
drafts_few cards closed x q = few_sized (joined cards) x (size_flaw cards closed) q
