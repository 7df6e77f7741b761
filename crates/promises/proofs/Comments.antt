-- Comments change nothing: what a text with a comment more says, and its faults, are those of the text, line numbers
-- moved, and so is all that is made of them.
use Prim.Native.Nat.{ℕ, zero-le}
use mathlib.Core.Path.{◌≡◌, refl, sym, ap, ap₂, ◌∙◌, ◌≡⟨◌⟩◌, ◌∎}
use mathlib.Core.List.{List, [], ◌∷◌, ◌++◌, map, append-nil}
use native.Mathlib.Omega.{arith}
use lib.ListN.{length, length-map}
use Rattle.std.specs.Prelude.{Result}
use Rattle.laws.specs.Every.{Every}
use Rattle.deck.specs.Lines.{Line, lines_of}
use Rattle.deck.specs.Later.{line_moved}
use Rattle.deck.proofs.Comments.{moved_stays}
use Rattle.deck.proofs.Cutting.{lines_append, lines_lacking, lines_whole}
use Rattle.sheet.specs.Sheet.{Numbered, said}
use Rattle.sheet.specs.Reader.{sheet_of}
use Rattle.sheet.specs.Numbers.{renumber_fault}
use Rattle.sheet.proofs.Numbers.{renumber_numbered}
use Rattle.sheet.proofs.Comments.{sheet_commented}
use Rattle.blocks.specs.Units.{TextUnit}
use Rattle.blocks.specs.Members.{units_of}
use Rattle.blocks.proofs.Renumbering.{renumber_unit, units_renumbered}
use Rattle.model.specs.Faults.{order_of}
use Rattle.model.specs.Text.{text_units, model_faults_in}
use Rattle.model.proofs.Renumbering.{order_kept, faults_in_renumbered}
use Rattle.records.specs.Record.{Rec, renumber_rec}
use Rattle.program.specs.Program.{program}
use Rattle.program.proofs.Renumbering.{program_renumbered}
use Rattle.translator.specs.declared.Refusal.{Refusal}
use Rattle.translator.specs.Verdict.{Decision, refused, faulty, translated, verdict_of, number_of, count_of}
use Rattle.translator.specs.Refusals.{Admitted}
use Rattle.translator.specs.Rules.{records_of}
use Rattle.translator.specs.Renumbered.{renumber_decision}
use Rattle.translator.specs.Contract.{Refused, Faulty, Translated, verdict_in, Reply, reply, reply_of, lines_in}
use Rattle.translator.specs.Contract.{Translates}
use Rattle.translator.proofs.Verdicts.{verdict_whole}
use Rattle.translator.proofs.Renumbering.{verdict_renumbered, number_kept, count_kept, lines_moved}
use Rattle.promises.specs.Comments.{Commented, Unchanged, UnchangedFor}

-- COMMENTS CHANGE NOTHING
pub unchanged : (pre : List Line) (c : Line) (post : List Line) (a b : List ℕ) → Commented pre c post a b
    → (f p : ℕ) → Admitted (verdict_of a f p) → Admitted (verdict_of b f p)
    → Unchanged (length pre) a b f p
unchanged pre c post a b w f p ok_a ok_b =
    let move = line_moved (length pre) in
    let zero = moved_stays (length pre) 0 zero-le in
    let sheet = sheet_commented pre c post a b w.without w.with w.comment in
    let ss = said (sheet_of a) in
    let said_moved = sheet.all_said in
    let verdict = verdict_renumbered move zero a b sheet f p ok_a ok_b in
    let us = text_units a in
    let sorted : List TextUnit → List Rec = λ (v : List TextUnit). program v (order_of v) in
    record {
      number = ap number_of verdict ∙ number_kept move (verdict_of a f p);
      count = ap count_of verdict ∙ count_kept move (verdict_of a f p);
      statement_faults = sheet.all_faults;
      model_faults = ap model_faults_in said_moved ∙ faults_in_renumbered move zero ss;
      records =
          records_of b ≡⟨ ap (λ (ss : List Numbered). sorted (units_of ss)) said_moved ⟩
          sorted (units_of (map (renumber_numbered move) ss)) ≡⟨ ap sorted (units_renumbered move ss) ⟩
          sorted (map (renumber_unit move) us) ≡⟨ ap (program (map (renumber_unit move) us)) (order_kept move zero us) ⟩
          program (map (renumber_unit move) us) (order_of us) ≡⟨ program_renumbered move zero us (order_of us) ⟩
          map (renumber_rec move) (records_of a) ∎;
      lines = ap lines_in verdict ∙ lines_moved move (verdict_of a f p);
    }

-- COMMENTS CHANGE NOTHING, FROM THE ENTRY
pub unchanged_for : (pre : List Line) (c : Line) (post : List Line) (a b : List ℕ) → Commented pre c post a b
    → (f p g s : List ℕ) → length g ≡ length f → length s ≡ length p
    → Admitted (verdict_of a (length f) (length p)) → Admitted (verdict_of b (length f) (length p))
    → (r t : Result ℕ Refusal) (f' p' g' s' : List ℕ) → Translates a f p r f' p' → Translates b g s t g' s'
    → UnchangedFor (length pre) r f p f' p' t g s g' s'
unchanged_for pre c post a b w f p g s even_f even_p ok_a ok_b r t f' p' g' s' m n =
    let sheet = sheet_commented pre c post a b w.without w.with w.comment in
    let zero = moved_stays (length pre) 0 zero-le in
    let old = verdict_of a (length f) (length p) in
    let verdict : verdict_of b (length g) (length s) ≡ renumber_decision move old =
    rw (even_f, even_p) (verdict_renumbered move zero a b sheet (length f) (length p) ok_a ok_b) in
    go old m (n ∙ ap (λ (v : Decision). reply_of v g s) verdict)
  where
    move : ℕ → ℕ
    move = line_moved (length pre)

    go : (v : Decision) → reply r f' p' ≡ reply_of v f p → reply t g' s' ≡ reply_of (renumber_decision move v) g s
        → UnchangedFor (length pre) r f p f' p' t g s g' s'
    go (refused k) q w =
        let old : verdict_in r ≡ Refused k = ap (λ (x : Reply). x.answer) q in
        record {
          answer = verdict_whole (ap (λ (x : Reply). x.answer) w ∙ sym old);
          written =
              rw old (
                ap (λ (x : Reply). x.faults) q,
                ap (λ (x : Reply). x.program) q,
                ap (λ (x : Reply). x.faults) w,
                ap (λ (x : Reply). x.program) w,
              );
        }
    go (faulty k fs) q w =
        let old : verdict_in r ≡ Faulty k (length fs) = ap (λ (x : Reply). x.answer) q in
        record {
          answer =
              verdict_whole
              (ap (λ (x : Reply). x.answer) w ∙ ap (Faulty k) (length-map fs (renumber_fault move)) ∙ sym old);
          written =
              rw old (
                fs,
                refl,
                ap (λ (x : Reply). x.faults) q,
                ap (λ (x : Reply). x.faults) w,
                ap (λ (x : Reply). x.program) q,
                ap (λ (x : Reply). x.program) w,
              );
        }
    go (translated rs ls) q w =
        let old : verdict_in r ≡ Translated (length rs) = ap (λ (x : Reply). x.answer) q in
        record {
          answer =
              verdict_whole
              (ap (λ (x : Reply). x.answer) w ∙ ap Translated (length-map rs (renumber_rec move)) ∙ sym old);
          written =
              rw old (
                rs,
                refl,
                ap (λ (x : Reply). x.program) q,
                ap (λ (x : Reply). x.program) w,
                ap (λ (x : Reply). x.faults) q,
                ap (λ (x : Reply). x.faults) w,
              );
        }

-- ---- such texts, in bytes: a comment line is a star and bytes c, none of which is a byte 10

module _ (c : List ℕ) (none : Every (λ (x : ℕ). x ≡ 10 → ⊥) c) where
  -- it is one line
  comment_line : lines_of ((42 ∷ c) ++ (10 ∷ [])) ≡ (42 ∷ c) ∷ []
  comment_line = lines_whole (42 ∷ c) ((λ e. absurd (omega arith)), none)

  -- put before the first line
  pub comment_first : (post : List ℕ) → Commented [] (42 ∷ c) (lines_of post) post ((42 ∷ c) ++ (10 ∷ post))
  comment_first post =
      record {
        without = refl;
        with = lines_append (42 ∷ c) post ∙ ap (λ (ls : List Line). ls ++ lines_of post) comment_line;
        comment = refl;
      }

  -- put behind a line with its byte 10
  pub comment_between : (pre post : List ℕ)
      → Commented (lines_of (pre ++ (10 ∷ []))) (42 ∷ c) (lines_of post) (pre ++ (10 ∷ post))
      (pre ++ (10 ∷ ((42 ∷ c) ++ (10 ∷ post))))
  comment_between pre post =
      let front = lines_of (pre ++ (10 ∷ [])) in
      record {
        without = lines_append pre post;
        with =
            lines_append pre ((42 ∷ c) ++ (10 ∷ post))
            ∙ ap (λ (ls : List Line). front ++ ls) (comment_first post).with;
        comment = refl;
      }

  -- put behind a text whose last byte is not 10, with a byte 10 between
  pub comment_last : (x : List ℕ) (last : ℕ) → (last ≡ 10 → ⊥)
      → Commented (lines_of (x ++ (last ∷ []))) (42 ∷ c) [] (x ++ (last ∷ []))
      ((x ++ (last ∷ [])) ++ (10 ∷ ((42 ∷ c) ++ (10 ∷ []))))
  comment_last x last e =
      let text = x ++ (last ∷ []) in
      record {
        without = sym (append-nil (lines_of text));
        with = lines_append text ((42 ∷ c) ++ (10 ∷ [])) ∙ ap₂ ◌++◌ (lines_lacking x last e) comment_line;
        comment = refl;
      }
