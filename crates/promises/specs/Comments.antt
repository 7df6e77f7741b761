-- Comments change nothing: a comment line is put into a text, anywhere, also between continued cards; or taken out.
use Rattle.std.specs.Prelude.{ℕ, ◌≡◌, true, List, ◌∷◌, ◌++◌, Result, map, length}
use Rattle.std.proofs.lemmas.List.Edits.{sets}
use Rattle.deck.specs.Lines.{Line, lines_of, starred}
use Rattle.deck.specs.Later.{line_moved}
use Rattle.sheet.specs.Sheet.{Fault, fault_list}
use Rattle.sheet.specs.Reader.{faults_of}
use Rattle.sheet.specs.Numbers.{renumber_fault}
use Rattle.records.specs.Record.{Rec, renumber_rec, program_bytes}
use Rattle.translator.specs.declared.Refusal.{Refusal}
use Rattle.translator.specs.Verdict.{verdict_of, number_of, count_of}
use Rattle.translator.specs.Rules.{records_of, model_faults_of}
use Rattle.translator.specs.Contract.{Verdict, Refused, Faulty, Translated, verdict_in, lines_in}

-- the two texts: the line c, a comment, stands in b behind the lines pre, and not in a
pub record Commented (pre : List Line) (c : Line) (post : List Line) (a b : List ℕ) : Type 0 where
  pub without : lines_of a ≡ pre ++ post
  pub with : lines_of b ≡ pre ++ (c ∷ post)
  pub comment : starred c ≡ true

-- COMMENTS CHANGE NOTHING. f and p bytes are lent for either text, and n lines stand before the comment: the verdict's
-- number and its count are the same; each fault has the same code and column, its line and that of its place moved by
-- the comment if that stands in front of them; the records are the same but for the line fields, moved alike
pub record Unchanged (n : ℕ) (a b : List ℕ) (f p : ℕ) : Type 0 where
  pub number : number_of (verdict_of b f p) ≡ number_of (verdict_of a f p)
  pub count : count_of (verdict_of b f p) ≡ count_of (verdict_of a f p)
  pub statement_faults : faults_of b ≡ map (renumber_fault (line_moved n)) (faults_of a)
  pub model_faults : model_faults_of b ≡ map (renumber_fault (line_moved n)) (model_faults_of a)
  pub records : records_of b ≡ map (renumber_rec (line_moved n)) (records_of a)
  -- so are the first lines of the ordered units, which the listing prints
  pub lines : lines_in (verdict_of b f p) ≡ map (line_moved n) (lines_in (verdict_of a f p))

-- ---- as the callers of both texts meet it, who lent f and p for a, g and s for b, as many bytes, and find f' and p',
-- g' and s' in their places

-- by the answer: with a refusal all stays as lent; with faults both lists stand at the front, the second with lines
-- moved; with a program both programs do likewise
abbrev pub AnswerSame : ℕ → Verdict → List ℕ → List ℕ → List ℕ → List ℕ → List ℕ → List ℕ → List ℕ → List ℕ → Type 0
AnswerSame n (Refused k) f p f' p' g s g' s' = (f' ≡ f) × (p' ≡ p) × (g' ≡ g) × (s' ≡ s)
AnswerSame n (Faulty k m) f p f' p' g s g' s' = (fs : List Fault) × (length fs ≡ m)
    × (f' ≡ sets f 0 (fault_list fs)) × (g' ≡ sets g 0 (fault_list (map (renumber_fault (line_moved n)) fs)))
    × (p' ≡ p) × (s' ≡ s)
AnswerSame n (Translated m) f p f' p' g s g' s' = (rs : List Rec) × (length rs ≡ m)
    × (p' ≡ sets p 0 (program_bytes rs)) × (s' ≡ sets s 0 (program_bytes (map (renumber_rec (line_moved n)) rs)))
    × (f' ≡ f) × (g' ≡ g)

-- COMMENTS CHANGE NOTHING, FROM THE ENTRY: both answers are the same
pub record UnchangedFor (n : ℕ) (r : Result ℕ Refusal) (f p f' p' : List ℕ) (t : Result ℕ Refusal)
    (g s g' s' : List ℕ) : Type 0 where
  pub answer : t ≡ r
  pub written : AnswerSame n (verdict_in r) f p f' p' g s g' s'
