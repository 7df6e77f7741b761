-- The place is in the statement, of every fault of a text.
use Prim.Native.Nat.{ℕ, ◌+◌, ◌-◌, ◌/◌}
use mathlib.Core.Path.{◌≡◌, refl, ap}
use mathlib.Core.Bool.{◌||◌}
use mathlib.Core.List.{List, [], ◌∷◌, map, Memᴰ}
use native.Mathlib.Omega.{arith}
use lib.Dec.{ltb}
use lib.ListN.{length}
use Rattle.std.specs.Prelude.{Result}
use Rattle.limits.specs.Limits.{fault_room, text_bytes, text_lines, most_statements, most_definitions, most_records}
use Rattle.limits.specs.Limits.{record_bytes}
use Rattle.laws.specs.Every.{Every}
use Rattle.laws.proofs.Every.{every_map, every_mapped, every_concat}
use Rattle.laws.proofs.Tests.{cond_ind}
use Rattle.deck.specs.Lines.{lines_of}
use Rattle.deck.specs.Reading.{Statement}
use Rattle.deck.specs.Reports.{Report, report}
use Rattle.deck.specs.InPlace.{InCard}
use Rattle.deck.specs.declared.Spot.{Spot}
use Rattle.deck.proofs.InPlace.{Begun, all_begun, first_in}
use Rattle.sheet.specs.Sheet.{Told, says, faulty, Fault, said_by, fault_by, said}
use Rattle.sheet.specs.Reader.{told, sheet_of, faults_of}
use Rattle.sheet.specs.Numbers.{statements_of}
use Rattle.sheet.specs.PlaceMeans.{PlaceMeans}
use Rattle.sheet.proofs.PlaceMeans.{place_means}
use Rattle.model.proofs.NumbersBelow.{SaidOn, FirstFault, all_first}
use Rattle.blocks.specs.Members.{settings, units_of}
use Rattle.model.specs.Definitions.{unit_at}
use Rattle.model.specs.Faults.{order_of}
use Rattle.records.specs.Record.{Rec}
use Rattle.program.specs.Program.{program}
use Rattle.translator.specs.declared.Refusal.{Refusal}
use Rattle.translator.specs.Verdict.{Decision, refused, faulty as faults, translated, if_faults, fitted, programmed}
use Rattle.translator.specs.Verdict.{modelled, decided, decided_within, verdict_of, verdict_within}
use Rattle.translator.specs.Rules.{model_faults_of}
use Rattle.translator.specs.Contract.{Reply, reply, reply_of, verdict_in, Translates}
use Rattle.meaning.proofs.Rows.{every_of, every_member}
use Rattle.promises.specs.InPlace.{InStatement, InPlace, PlacedBy}

module _ (text : List ℕ) where
  -- each statement begins with a card
  begun : (s : Statement) → Memᴰ s (statements_of text) → Begun s.lines
  begun s m = every_of (λ (t : Statement). Begun t.lines) (statements_of text) (all_begun (lines_of text)) s m

  -- so its place means what it says
  means : (s : Statement) → Memᴰ s (statements_of text) → PlaceMeans s.lines s.closed
  means s m = place_means s.lines (begun s m) s.closed

  -- the fault of a statement is in it
  fault_in : (s : Statement) → Memᴰ s (statements_of text)
      → Every (InStatement text) (fault_by s.first (told s.lines s.closed))
  fault_in s m = go (told s.lines s.closed) (λ c p e. (means s m).in_statement c p e)
    where
      go : (t : Told Spot) → ((c : ℕ) (p : Spot) → t ≡ faulty c p → InCard s.lines p)
          → Every (InStatement text) (fault_by s.first t)
      go (says x) f = tt
      go (faulty c p) f =
          let down : s.first + p.down - s.first ≡ p.down = omega arith in
          (record { statement = s; member = m; line = refl; below = omega arith; place = rw down (f c p refl) }, tt)

  -- a line is a statement's first
  abbrev FirstOf : ℕ → Type 0
  FirstOf l = (s : Statement) × Memᴰ s (statements_of text) × (l ≡ s.first)

  -- that of what is said is
  said_first : Every (SaidOn FirstOf) (said (sheet_of text))
  unfolding sheet_of
  said_first =
      every_concat (λ (r : Report (Told Spot)). FirstOf r.line) (SaidOn FirstOf)
      (λ (r : Report (Told Spot)). said_by r.line r.what) (λ r h. one r.line r.what h) (sheet_of text)
      (every_mapped (λ (s : Statement). FirstOf s.first) (λ (r : Report (Told Spot)). FirstOf r.line)
      (report told) (λ s h. h) (statements_of text)
      (every_member (λ (s : Statement). FirstOf s.first) (statements_of text) (λ s m. (s, m, refl))))
    where
      one : (l : ℕ) (t : Told Spot) → FirstOf l → Every (SaidOn FirstOf) (said_by l t)
      one l (says x) h = (h, tt)
      one l (faulty c p) h = tt

  -- so model faults are at first bytes
  first_fault : (f : Fault) → FirstFault FirstOf f → InStatement text f
  first_fault f w =
      let s = w.0.0 in
      let m = w.0.1 in
      let none : f.place - f.line ≡ 0 = omega (arith, w.1) in
      record {
        statement = s;
        member = m;
        line = w.0.2;
        below = omega (arith, w.1);
        place = rw (none, w.2) (first_in s.lines (begun s m));
      }

  -- THE PLACE IS IN THE STATEMENT
  pub in_place : InPlace text
  unfolding sheet_of
  in_place =
      let firsts = all_first FirstOf (said (sheet_of text)) said_first in
      let faults_at : Report (Told Spot) → List Fault = λ r. fault_by r.line r.what in
      record {
        statement_faults =
            every_concat (λ (r : Report (Told Spot)). Every (InStatement text) (faults_at r)) (InStatement text)
            faults_at (λ r h. h) (sheet_of text)
            (every_mapped (λ (s : Statement). Every (InStatement text) (faults_at (report told s)))
            (λ (r : Report (Told Spot)). Every (InStatement text) (faults_at r)) (report told) (λ s h. h)
            (statements_of text) (every_member _ (statements_of text) fault_in));
        model_faults = every_map (FirstFault FirstOf) (InStatement text) (model_faults_of text) first_fault firsts;
        model_first = every_map (FirstFault FirstOf) _ (model_faults_of text) (λ f w. (w.1, w.2)) firsts;
        tokens = every_member _ (statements_of text) means;
      }

  -- ---- from the entry

  -- each fault that a decision names is in its statement
  abbrev DecidedIn : Decision → Type 0
  DecidedIn (refused n) = Unit {0}
  DecidedIn (faults n fs) = Every (InStatement text) fs
  DecidedIn (translated rs ls) = Unit {0}

  if_in : (n : ℕ) (fs : List Fault) (v : Decision) → Every (InStatement text) fs → DecidedIn v
      → DecidedIn (if_faults n fs v)
  if_in n [] v h w = w
  if_in n (f ∷ fs) v h w = h

  -- that of the text
  verdict_placed : (f p : ℕ) → DecidedIn (verdict_of text f p)
  unfolding verdict_within decided_within
  verdict_placed f p =
      let us = units_of (said (sheet_of text)) in
      let rs = program us (order_of us) in
      let fits = fitted_in p rs (map (λ (i : ℕ). (unit_at us i).line) (order_of us)) in
      let model = if_in 7 (model_faults_of text) (programmed p us) in_place.model_faults fits in
      let many = ltb most_definitions (length (settings (said (sheet_of text)))) in
      let counted = cond_ind DecidedIn many (refused 6) (if_faults 7 (model_faults_of text) (programmed p us)) (λ _. tt)
      (λ _. model) in
      let read = modelled p (said (sheet_of text)) in
      let statements = if_in 5 (faults_of text) read in_place.statement_faults counted in
      cond_ind DecidedIn (ltb f fault_room) (refused 1) _ (λ _. tt)
      (λ _. cond_ind DecidedIn (ltb text_bytes (length text)) (refused 2) _ (λ _. tt)
      (λ _. cond_ind DecidedIn (ltb text_lines (length (lines_of text))) (refused 3) (decided p (sheet_of text))
      (λ _. tt)
      (λ _. cond_ind DecidedIn (ltb most_statements (length (sheet_of text))) (refused 4) _ (λ _. tt)
      (λ _. statements))))
    where
      fitted_in : (room : ℕ) (rs : List Rec) (ls : List ℕ) → DecidedIn (fitted room rs ls)
      fitted_in room rs ls =
          cond_ind DecidedIn (ltb most_records (length rs) || ltb (room / record_bytes) (length rs)) (refused 8)
          (translated rs ls) (λ _. tt) (λ _. tt)

  -- THE PLACE IS IN THE STATEMENT, FROM THE ENTRY
  pub in_place_for : (f p f' p' : List ℕ) (r : Result ℕ Refusal) → Translates text f p r f' p'
      → PlacedBy text (verdict_in r) f f'
  in_place_for f p f' p' r m =
      go (verdict_of text (length f) (length p)) (verdict_placed (length f) (length p)) m
    where
      go : (v : Decision) → DecidedIn v → reply r f' p' ≡ reply_of v f p → PlacedBy text (verdict_in r) f f'
      go (refused n) h q = rw (ap (λ (x : Reply). x.answer) q) tt
      go (faults n fs) h q = rw (ap (λ (x : Reply). x.answer) q) (fs, refl, ap (λ (x : Reply). x.faults) q, h)
      go (translated rs ls) h q = rw (ap (λ (x : Reply). x.answer) q) tt
