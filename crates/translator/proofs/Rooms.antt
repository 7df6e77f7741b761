-- From the reading to the verdict: a statement fault stands, or the model decides; in arrays that have room.
use Prim.Native.Nat.{ℕ, ◌+◌, ◌*◌, ◌≤◌, ◌<◌}
use mathlib.Core.Path.{◌≡◌, refl, sym, ap, ◌∙◌}
use mathlib.Core.Bool.{Bool, false}
use mathlib.Core.List.{List, [], ◌∷◌}
use native.Mathlib.Omega.{arith}
use native.Mathlib.Numerals.{add-one}
use borrow.Author.Tests.{lt-ltb, le-ltb}
use lib.Dec.{ltb}
use lib.ListN.{length, take, replicate, length-map, length-take}
use lib.Seq.{sets, length-sets}
use Rattle.std.specs.Prelude.{Option, None, Some, IsSome, Result, Ok, Err}
use Rattle.limits.specs.Limits.{most_statements, fault_room, fault_bytes}
use Rattle.laws.specs.Lists.{concat_map}
use Rattle.laws.proofs.Sets.{sets_back}
use Rattle.deck.specs.Lines.{lines_of}
use Rattle.deck.proofs.Sizing.{statements_le, lines_le}
use Rattle.drafts.specs.Drafts.{Draft}
use Rattle.sheet.specs.Sheet.{Numbered, Fault, said, statement_faults, fault_list}
use Rattle.sheet.specs.Reader.{sheet_of}
use Rattle.sheet.specs.Layout.{drafts_in, Laid}
use Rattle.sheet.proofs.Entries.{list_length}
use Rattle.translator.specs.declared.Refusal.{Refusal}
use Rattle.translator.specs.declared.Refusal.TheVariants.{ManyStatements, StatementFaults}
use Rattle.translator.specs.declared.Short.{Short}
use Rattle.translator.specs.declared.Short.TheVariants.{NoRoom as Roomless, TooMany}
use Rattle.translator.specs.declared.SoFar.{SoFar}
use Rattle.translator.specs.declared.Ordered.{Ordered}
use Rattle.translator.specs.Contract.{ordered_reply}
use Rattle.translator.specs.Verdict.{if_faults, modelled, decided_within}
use Rattle.translator.specs.Working.{ReadThrough, CameShort, ReadFar, AllRead, ArraysReady, ConcludesFor, Taken, Room}
use Rattle.translator.specs.Working.{Decides, DecidesFor}
use Rattle.translator.specs.Working.{TriesFor, room_for, reply_for}
use Rattle.model.specs.Definitions.{definitions}
use Rattle.model.specs.Text.{text_units}
use Rattle.blocks.proofs.TextHeaded.{text_headed}
use Rattle.blocks.proofs.SheetFits.{bounds_many, laid_groups}
use Rattle.translator.proofs.Counted.{counts, faults_few}
use Rattle.translator.proofs.Verdicts.{sheet_many}

module _ {text list₀ : List ℕ} (taken : Taken text list₀) (not_many : length (sheet_of text) ≤ most_statements)
    {n : SoFar} {kinds args lines bounds list : List ℕ}
    (r : ReadThrough text list₀ n kinds args lines bounds list) where
  few : ltb most_statements (length (sheet_of text)) ≡ false
  few = le-ltb most_statements (length (sheet_of text)) not_many

  -- 5: some fault stands, and the list is written
  pub says_five : (b : Bool) (p o : List ℕ) → 0 < n.faults
      → DecidesFor b text list₀ p o (Err (StatementFaults n.faults)) list p o
  unfolding decided_within
  says_five b p o h = rw (few, r.faults, r.listed) (go (statement_faults (sheet_of text)) (rw (← r.faults) h))
    where
      go : (fs : List Fault) → 0 < length fs
          → ordered_reply (Err (StatementFaults (length fs))) (sets list₀ 0 (fault_list fs)) p o
          ≡ reply_for (if_faults 5 fs (modelled (room_for b (length p)) (said (sheet_of text)))) b
          (definitions (text_units text)) list₀ p o
      go [] h = absurd (omega arith)
      go (f ∷ fs) h = refl

  module _ (none : n.faults ≤ 0) where
    clean : statement_faults (sheet_of text) ≡ []
    clean = go (statement_faults (sheet_of text)) (omega (arith, r.faults))
      where
        go : (fs : List Fault) → length fs ≤ 0 → fs ≡ []
        go [] h = refl
        go (f ∷ fs) h = absurd (omega arith)

    -- the list is as it was lent
    listed_none : list ≡ list₀
    unfolding fault_list concat_map
    listed_none = r.listed ∙ ap (λ (fs : List Fault). sets list₀ 0 (fault_list fs)) clean

  -- no more statements than there may be
  pub statements_few : n.statements ≤ most_statements
  statements_few = omega (arith, r.statements, counts (sheet_of text), not_many)

  -- the drafts stand in both arrays
  abbrev drafts : List Draft
  drafts = drafts_in (said (sheet_of text))

  pub kinds_many : length (take n.drafts kinds) ≡ n.drafts
  kinds_many = ap length r.laid.kinds_held ∙ length-map drafts (λ (d : Draft). d.kind) ∙ sym r.drafts

  pub args_many : length (take n.drafts args) ≡ n.drafts
  args_many = ap length r.laid.args_held ∙ length-map drafts (λ (d : Draft). d.arg) ∙ sym r.drafts

  pub kinds_enough : n.drafts ≤ length kinds
  kinds_enough = omega (arith, kinds_many, length-take n.drafts kinds)

  pub args_enough : n.drafts ≤ length args
  args_enough = omega (arith, args_many, length-take n.drafts args)

  pub bounds_laid : Laid (said (sheet_of text)) (take n.drafts kinds) (take n.drafts args)
      (take n.statements lines) (take (n.statements + 1) bounds)
  bounds_laid = rw add-one r.laid

  pub lines_many : length (take n.statements lines) ≡ n.statements
  lines_many = ap length r.laid.lines_held ∙ length-map (said (sheet_of text)) (λ (s : Numbered). s.line)
      ∙ sym r.statements

  pub bounds_count : length (take (n.statements + 1) bounds) ≡ n.statements + 1
  bounds_count = omega (arith, ap length bounds_laid.bounds_held, bounds_many 0 (said (sheet_of text)), r.statements)

  -- and all fits
  pub ready_so : {used : List ℕ} → n.drafts ≤ length used
      → ArraysReady (take n.statements lines) (take (n.statements + 1) bounds) (take n.drafts kinds)
      (take n.drafts args) used list
  ready_so uses =
      let fs = fault_list (statement_faults (sheet_of text)) in
      let long : length list ≡ length list₀ = ap length r.listed ∙ length-sets list₀ 0 fs in
      record {
        statements = said (sheet_of text);
        laid = bounds_laid;
        headed = text_headed text;
        fits =
            laid_groups (said (sheet_of text)) _ _ _ _ bounds_laid _ _ _ _ _
            (omega (arith, statements_few, r.statements))
            (omega (arith, kinds_many, r.within, taken.brief)) (omega (arith, kinds_many, args_many))
            (omega (arith, statements_few, r.statements, long, taken.list_room))
            (omega (arith, statements_few, r.statements)) (omega (arith, statements_few, r.statements))
            (omega (arith, statements_few, r.statements));
        uses_room = omega (arith, kinds_many, uses);
      }

  -- the model decides
  pub says_model : n.faults ≤ 0 → (b : Bool) (v : Result Ordered Refusal) (p o : List ℕ) {used f' p' o' : List ℕ}
      → n.drafts ≤ length used
      → ((a : ArraysReady (take n.statements lines) (take (n.statements + 1) bounds) (take n.drafts kinds)
      (take n.drafts args) used list) → ConcludesFor b a.statements list p o v f' p' o')
      → DecidesFor b text list₀ p o v f' p' o'
  unfolding decided_within ready_so
  says_model none b v p o uses w = rw (few, clean none, ← (listed_none none)) (w (ready_so uses))

-- a room: k places for drafts, and a place for each statement that there may be
pub room_of : {text list : List ℕ} (k : ℕ) → Taken text list
    → Room text list (replicate k 0) (replicate k 0) (replicate most_statements 0) (replicate (most_statements + 1) 0)
room_of k taken =
    record {
      taken = taken;
      args_room = omega arith;
      lines_room = omega arith;
      bounds_room = omega arith;
      bounds_first = refl;
    }

-- a room's own list has room for the faults
pub own_list : {text list : List ℕ} → Taken text list → Taken text (replicate fault_room 0)
own_list taken = record { brief = taken.brief; list_room = omega arith }

-- ---- reading came through
module _ {text list₀ kinds args lines bounds list : List ℕ} {r : Result SoFar Short}
    (w : ReadFar text list₀ r kinds args lines bounds list) where
  pub came_through : {n : SoFar} → r ≡ Ok n
      → ReadThrough text list₀ n kinds args lines bounds list × (length (sheet_of text) ≤ most_statements)
  came_through e = rw e at w

-- of a text with a place for each byte, and no more statements than there may be, it does
pub never_short : (e : Short) (text : List ℕ) (places : ℕ) → CameShort e text places → length text ≤ places
    → length (sheet_of text) ≤ most_statements → ⊥
never_short Roomless text places w all few = omega (arith, w)
never_short TooMany text places w all few = omega (arith, w)

-- then there is all that the verdict on it asks, with so much room for what is used
unfoldable pub read_so : {text list₀ kinds args used lines bounds list : List ℕ} {n : SoFar} → Taken text list₀
    → length (sheet_of text) ≤ most_statements → ReadThrough text list₀ n kinds args lines bounds list
    → length kinds ≤ length used
    → AllRead n list kinds args used lines bounds
read_so {text} {list₀} taken few r uses =
    record {
      text = text;
      list₀ = list₀;
      taken = taken;
      few = few;
      read = r;
      uses_room = omega (arith, kinds_enough taken few r);
    }

-- ---- more statements than there may be

-- 4: nothing is written
pub says_four : (text f p o : List ℕ) → most_statements < length (sheet_of text)
    → Decides text f p o (Err ManyStatements) f p o
unfolding decided_within
says_four text f p o h = rw (lt-ltb most_statements (length (sheet_of text)) h)

pub says_four_for : (b : Bool) (text f p o : List ℕ) → most_statements < length (sheet_of text)
    → DecidesFor b text f p o (Err ManyStatements) f p o
unfolding decided_within
says_four_for b text f p o h = rw (lt-ltb most_statements (length (sheet_of text)) h)

-- a short text has no more
pub text_few : (text : List ℕ) → length text ≤ most_statements → length (sheet_of text) ≤ most_statements
text_few text h = omega (arith, sheet_many text, statements_le (lines_of text), lines_le text)

-- ---- a list of the room's own
module _ {text own₀ kinds args lines bounds own : List ℕ} {n : SoFar}
    (r : ReadThrough text own₀ n kinds args lines bounds own) (few : length (sheet_of text) ≤ most_statements)
    (roomy : fault_room ≤ length own₀) where
  abbrev faults : List Fault
  faults = statement_faults (sheet_of text)

  pub faults_most : n.faults ≤ most_statements
  faults_most = omega (arith, few, faults_few (sheet_of text), r.faults)

  -- so many bytes of it are written
  own_long : length (fault_list faults) ≡ fault_bytes * n.faults
  own_long = omega (arith, list_length faults, r.faults)

  pub own_room : fault_bytes * n.faults ≤ length own
  own_room =
      let long : length own ≡ length own₀ = ap length r.listed ∙ length-sets own₀ 0 (fault_list faults) in
      omega (arith, faults_few (sheet_of text), r.faults)

  -- and these are the faults
  own_front : take (fault_bytes * n.faults) own ≡ fault_list faults
  own_front =
      rw (r.listed, ← own_long)
      (sets_back own₀ 0 (fault_list faults) (omega (arith, own_long, faults_few (sheet_of text), r.faults)))

  -- so, written to another list, they are listed there
  pub read_listed : (f : List ℕ) {f' : List ℕ} → f' ≡ sets f 0 (take (fault_bytes * n.faults) own)
      → ReadThrough text f n kinds args lines bounds f'
  read_listed f e =
      record {
        statements = r.statements;
        drafts = r.drafts;
        faults = r.faults;
        laid = r.laid;
        listed = e ∙ ap (sets f 0) own_front;
        within = r.within;
      }

-- ---- a room that was too small

-- with a place for each byte it is not
pub never_full : (b : Bool) (text f p o : List ℕ) (k : ℕ) (r : Option (Result Ordered Refusal)) (f' p' o' : List ℕ)
    → TriesFor b text k f p o r f' p' o'
    → length text ≤ k
    → IsSome r
never_full b text f p o k (Some r) f' p' o' t h = refl
never_full b text f p o k None f' p' o' t h = absurd (omega (arith, t.0))

-- where nothing was written, a second try decides as the first would have
pub second_try : (text f p o : List ℕ) {f₁ p₁ o₁ f' p' o' : List ℕ} (r : Result Ordered Refusal) → f₁ ≡ f → p₁ ≡ p
    → o₁ ≡ o → Decides text f₁ p₁ o₁ r f' p' o'
    → Decides text f p o r f' p' o'
second_try text f p o r x y z d = rw (x, y, z) at d

pub second_try_for : (b : Bool) (text f p o : List ℕ) {f₁ p₁ o₁ f' p' o' : List ℕ} (r : Result Ordered Refusal)
    → f₁ ≡ f → p₁ ≡ p → o₁ ≡ o → DecidesFor b text f₁ p₁ o₁ r f' p' o'
    → DecidesFor b text f p o r f' p' o'
second_try_for b text f p o r x y z d = rw (x, y, z) at d
