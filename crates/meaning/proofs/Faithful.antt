-- Of a text with verdict 0, with its units in any good order: the program is accepted, evaluates, starts and steps by
-- the text's units; there is one solution; and nothing is lost.
use Prim.Native.Nat.{ℕ}
use mathlib.Core.Path.{◌≡◌, refl, sym, ap, subst}
use mathlib.Core.List.{List}
use lib.ListN.{length}
use lib.Ieee.{Float}
use Rattle.sheet.specs.Reader.{sheet_of}
use Rattle.blocks.specs.Units.{TextUnit}
use Rattle.model.specs.Faults.{GoodOrder, order_of}
use Rattle.model.specs.Text.{text_units}
use Rattle.records.specs.declared.Instr.{Instr}
use Rattle.records.specs.Record.{Rec, program_bytes, instrs, decoded}
use Rattle.program.specs.Program.{program}
use Rattle.translator.specs.Verdict.{Translation, translation}
use Rattle.evaluator.specs.Machine.{Machine}
use Rattle.evaluator.specs.Evaluate.{ran, evaluated, evaluated_within, started, started_within, move_all, advanced}
use Rattle.evaluator.specs.Evaluate.{stepped, stepped_within}
use Rattle.meaning.specs.Statements.{slot_among, Resolves, EachAsked, Solution, Stepping}
use Rattle.meaning.specs.Recorded.{ConstantRecorded, AssignmentRecorded, StateRecorded, BlockRecorded}
use Rattle.meaning.specs.Recorded.{NothingLost}
use Rattle.meaning.specs.Faithful.{handed_on, Evaluates, Starts, Steps, HasSlots, Faithful}
use Rattle.translator.proofs.Zero.{Clear, clear, zero_translated}
use Rattle.meaning.proofs.Runs.{run_program}
use Rattle.meaning.proofs.RunSolves.{solves}
use Rattle.meaning.proofs.Asked.{names_same}
use Rattle.meaning.proofs.Beginnings.{beginning, stepping}
use Rattle.meaning.proofs.Unique.{only_one}
use Rattle.meaning.proofs.Lost.{all_taken, each_recorded}
use Rattle.meaning.proofs.Made.{made_of}
use Rattle.meaning.proofs.Acceptance.{sound, once, known, ordered, initials, read_back, not_refused, cut_back}

-- ---- a text that is clear, with its units in a good order
module _ {text : List ℕ} {room : ℕ} {rs : List Rec} (c : Clear text room rs) where
  abbrev us : List TextUnit
  us = text_units text

  -- its units have one solution
  pub one : (v d v₁ d₁ v₂ d₂ : List Float) → Solution us v d v₁ d₁ → Solution us v d v₂ d₂ → (v₁ ≡ v₂) × (d₁ ≡ d₂)
  one = only_one us (sound c) (once c) (known c) (order_of us) (ordered c)

  module _ (q : List ℕ) (g : GoodOrder us q) where
    -- the records of its program
    abbrev recs : List Rec
    recs = program us q

    -- what is asked of the records, with slots by these names
    abbrev EachRecorded : List ℕ → Type 0
    EachRecorded ns =
        EachAsked (ConstantRecorded (slot_among ns) recs) (AssignmentRecorded (slot_among ns) recs)
        (StateRecorded (slot_among ns) (Resolves us) recs) (BlockRecorded (slot_among ns) recs) us

    -- nothing of it is lost
    lost_nothing : NothingLost text recs
    unfolding sheet_of
    lost_nothing =
        record {
          taken = all_taken (sheet_of text) c.sound;
          recorded = subst EachRecorded (names_same us) (each_recorded us (sound c) (once c) q g (initials c));
          made_of = made_of us q g (initials c);
        }

    -- ---- with two buffers that are long enough
    module _ (v d : List Float) (roomy : HasSlots v d) where
      -- what the run leaves
      abbrev end : Machine
      end = ran (program_bytes recs) v d

      -- is the solution
      pub ran_solves : Solution us v d end.values end.derivs
      ran_solves =
          rw (read_back c q g, run_program us q v d)
          (solves us (sound c) (once c) (known c) q g v d c.few roomy.values roomy.derivs)

      -- so evaluating leaves it
      evaluates : Evaluates text v d (evaluated (program_bytes recs) v d)
      unfolding evaluated_within
      evaluates = rw (not_refused c q g v d roomy) (record { accepted = refl; solved = ran_solves })

      -- starting leaves the beginning
      starts : Starts text v d (started (program_bytes recs) v d)
      unfolding started_within
      starts =
          rw (not_refused c q g v d roomy, read_back c q g)
          (record {
            accepted = refl;
            begun = beginning us (sound c) (once c) c.few q (initials c) v roomy.values;
            kept = refl;
          })

      -- a step goes on from the solution
      steps : (h : Float) → Steps text h v d (stepped (program_bytes recs) h v d)
      unfolding stepped_within
      steps h =
          let moving : List Instr → List Float = λ (xs : List Instr). advanced h
          (move_all h end.derivs end.values xs) in
          let same : moving (decoded (program_bytes recs)) ≡ moving (instrs recs) = ap moving (read_back c q g) in
          rw (not_refused c q g v d roomy)
          (record {
            accepted = refl;
            u = end.values;
            solved = ran_solves;
            moved =
                subst (Stepping us h end.values end.derivs) (sym same)
                (stepping us (sound c) (once c) c.few q h end.values end.derivs
                (rw ran_solves.long.0 roomy.values));
          })

    -- all of it
    pub faithful_in : Faithful text (program_bytes recs)
    faithful_in =
        record {
          accepted = not_refused c q g;
          evaluates = λ v d r a v' d' m. subst (Evaluates text v d) (sym m.meets) (evaluates v d r);
          starts = λ v d r a v' d' m. subst (Starts text v d) (sym m.meets) (starts v d r);
          steps = λ h v d r a v' d' m. subst (Steps text h v d) (sym m.meets) (steps v d r h);
          one_solution = one;
          records = recs;
          written = refl;
          nothing_lost = lost_nothing;
        }

  -- in its own order
  pub faithful : Faithful text (program_bytes rs)
  faithful =
      subst (λ (x : List Rec). Faithful text (program_bytes x)) (sym c.written) (faithful_in (order_of us) (ordered c))

-- ---- from a translation

-- what a translation with number 0 leaves in the lent program buffer
handed_on_holds : (text f p : List ℕ) → (translation text f p).number ≡ 0
    → Faithful text (handed_on (translation text f p).count (translation text f p).program)
unfolding translation
handed_on_holds text f p z =
    let r = zero_translated text (length f) (length p) z in
    let c = clear text (length f) (length p) r.0 r.1 r.2 in
    rw (r.2, cut_back c p refl) (faithful c)

-- the same of an answer by number and count
pub by_answer : (text f p : List ℕ) (t : Translation) → t ≡ translation text f p → t.number ≡ 0
    → Faithful text (handed_on t.count t.program)
by_answer text f p t e z = rw e (handed_on_holds text f p (rw e at z))
