-- Demand 3: of a text's lines one run is changed. What the reading, the sheet and the statement faults keep, and what a
-- statement fault means.
use Rattle.std.specs.Prelude.{ℕ, ◌+◌, ◌*◌, ◌≡◌, false, List, [], ◌∷◌, ◌++◌, Result, map, length, take, drop}
use Rattle.limits.specs.Limits.{fault_bytes}
use Rattle.deck.specs.Lines.{Line, lines_of, dotted, starred}
use Rattle.deck.specs.Later.{later, later_report, Begin, Share}
use Rattle.sheet.specs.Sheet.{Fault, fault_list}
use Rattle.sheet.specs.Reader.{sheet_of, faults_of, Faulted}
use Rattle.sheet.specs.Numbers.{statements_in, sheet_from, faults_from, closed_of, statements_of, FreshBehind}
use Rattle.sheet.specs.Numbers.{statement_line, report_line, fault_line, later_fault}
use Rattle.translator.specs.declared.Refusal.{Refusal}
use Rattle.translator.specs.Replies.{Answered, NoProgram, Convicts}

-- ---- the two texts

-- a text is its list of lines: those before the change, the run, the later ones. The run old of a is new in b
pub record Change (pre old new post : List Line) (a b : List ℕ) : Type 0 where
  pub lines_old : lines_of a ≡ pre ++ (old ++ post)
  pub lines_new : lines_of b ≡ pre ++ (new ++ post)

-- ---- the clauses

-- statements closed by a line without dots before the change read as before, with the same numbers and the same faults
pub record FrontKept (pre : List Line) (a b : List ℕ) : Type 0 where
  pub statements : Begin (closed_of pre) (statements_of a) (statements_of b)
  pub sheet : Begin (sheet_from (closed_of pre)) (sheet_of a) (sheet_of b)
  pub faults : Begin (faults_from (closed_of pre)) (faults_of a) (faults_of b)

-- both readings do behind p, the first of the later lines
pub record Afresh (pre old new p : List Line) : Type 0 where
  pub in_old : FreshBehind (pre ++ (old ++ p))
  pub in_new : FreshBehind (pre ++ (new ++ p))

-- from that line on statements and statement faults are those of the lines q that are left, numbers raised by the count
-- m or n of lines before them
pub record SameFrom (pre q : List Line) (m n : ℕ) (a b : List ℕ) : Type 0 where
  pub statements : Share statement_line later (closed_of pre) (statements_in q) m n (statements_of a) (statements_of b)
  pub sheet : Share report_line later_report (sheet_from (closed_of pre)) (sheet_from (statements_in q)) m n
      (sheet_of a) (sheet_of b)
  pub faults : Share fault_line later_fault (faults_from (closed_of pre)) (faults_from (statements_in q)) m n
      (faults_of a) (faults_of b)

-- the lines before them are pre, the run and p
pub record TailKept (pre old new p q : List Line) (a b : List ℕ) : Type 0 where
  pub same : SameFrom pre q (length (pre ++ (old ++ p))) (length (pre ++ (new ++ p))) a b
  -- so all numbers are shifted alike: by the lines that the run gained or lost
  pub shift : length (pre ++ (old ++ p)) + length new ≡ length (pre ++ (new ++ p)) + length old

-- DEMAND 3, of two texts that differ in one run of lines
pub record Local (pre old new post : List Line) (a b : List ℕ) : Type 0 where
  pub front : FrontKept pre a b
  -- from every later line on where both readings begin afresh, and so from the first
  pub tail : (p q : List Line) → post ≡ p ++ q → Afresh pre old new p → TailKept pre old new p q a b
  -- just behind an unchanged later line l without closing dots, which is no comment, is such a place
  pub place : (p : List Line) (l : Line) (q : List Line) → post ≡ p ++ (l ∷ q) → dotted l ≡ false → starred l ≡ false
      → Afresh pre old new (p ++ (l ∷ []))
  -- a text with a statement fault gets no program, whatever fault list f and program p are lent
  pub no_program_old : Faulted a → (f p : List ℕ) → NoProgram a f p
  pub no_program_new : Faulted b → (f p : List ℕ) → NoProgram b f p
  pub verdict_old : Convicts a
  pub verdict_new : Convicts b

-- ---- as the callers of both texts meet it, who find the lists f' and g' in their buffers

-- a list in a buffer, of the faults fs, begins with the entries of the faults `front`
abbrev pub ListBegins : List Fault → List ℕ → Type 0
ListBegins front f' = take (fault_bytes * length front) f' ≡ fault_list front

-- .. and ends with those of the faults `tail`, line numbers raised by n
pub record ListEnds (fs tail : List Fault) (n : ℕ) (f' : List ℕ) : Type 0 where
  pub before : List Fault
  pub many : length fs ≡ length before + length tail
  pub entries : take (fault_bytes * length tail) (drop (fault_bytes * length before) f')
      ≡ fault_list (map (later_fault n) tail)

-- DEMAND 3, FROM THE ENTRY: both texts have a statement fault; p and s were lent for their programs
pub record LocalFor (pre old new post : List Line) (a b : List ℕ) (r : Result ℕ Refusal) (f' p p' : List ℕ)
    (t : Result ℕ Refusal) (g' s s' : List ℕ) : Type 0 where
  -- both answers are 5 with the count, the list in full, the program as lent
  pub answer_old : Answered 5 (faults_of a) r f' p p'
  pub answer_new : Answered 5 (faults_of b) t g' s s'
  -- both lists begin with the same bytes: those of the statements closed before the change
  pub front : ListBegins (faults_from (closed_of pre)) f' × ListBegins (faults_from (closed_of pre)) g'
  -- from every later line on where both readings begin afresh they end with the same but that line numbers are raised,
  -- in each by the count of lines before that one
  pub tail : (l q : List Line) → post ≡ l ++ q → Afresh pre old new l
      → ListEnds (faults_of a) (faults_from (statements_in q)) (length (pre ++ (old ++ l))) f'
      × ListEnds (faults_of b) (faults_from (statements_in q)) (length (pre ++ (new ++ l))) g'
