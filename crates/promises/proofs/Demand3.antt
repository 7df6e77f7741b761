-- Demand 3: what a change of one run of lines leaves as it was, and what a statement fault means.
use Prim.Native.Nat.{ℕ, ◌+◌, ◌*◌, ◌≤◌}
use mathlib.Core.Path.{◌≡◌, refl, sym, ap, ap₂, ◌∙◌}
use mathlib.Core.List.{List, [], ◌∷◌, ◌++◌, map, append_assoc, append-nil}
use native.Mathlib.Omega.{arith}
use lib.ListN.{length, take, length-append, length-map}
use Rattle.std.specs.Prelude.{Result}
use Rattle.limits.specs.Limits.{fault_bytes, fault_room}
use Rattle.laws.specs.Text.{bytes}
use Rattle.laws.proofs.Concats.{none_left}
use Rattle.deck.specs.Lines.{Line, lines_of}
use Rattle.deck.specs.Later.{Ends}
use Rattle.deck.proofs.Cutting.{lines_append, lines_lacking}
use Rattle.sheet.specs.Sheet.{Fault, fault_list}
use Rattle.sheet.specs.Reader.{sheet_of, faults_of, Faulted}
use Rattle.sheet.specs.Numbers.{statements_in, faults_from, closed_of, fault_line, later_fault}
use Rattle.sheet.proofs.Entries.{list_front, list_tail}
use Rattle.sheet.proofs.Changes.{front_statements, front_sheets, front_faults, tail_statements, tail_sheets}
use Rattle.sheet.proofs.Changes.{tail_faults, fresh_there}
use Rattle.translator.specs.declared.Refusal.{Refusal}
use Rattle.translator.specs.Contract.{Translates}
use Rattle.translator.specs.Verdict.{verdict_of, Translation, translation}
use Rattle.translator.specs.Refusals.{Admitted}
use Rattle.translator.proofs.Replies.{no_program, convicts, answered}
use Rattle.promises.specs.Demand3.{Change, Afresh, TailKept, Local, ListEnds, LocalFor}

-- DEMAND 3. Two texts that differ in one run of lines
pub local : (pre old new post : List Line) (a b : List ℕ) → Change pre old new post a b → Local pre old new post a b
unfolding sheet_of
local pre old new post a b c =
    record {
      front =
          record {
            statements = rw (c.lines_old, c.lines_new) (front_statements pre (old ++ post) (new ++ post));
            sheet = rw (c.lines_old, c.lines_new) (front_sheets pre (old ++ post) (new ++ post));
            faults = rw (c.lines_old, c.lines_new) (front_faults pre (old ++ post) (new ++ post));
          };
      tail = same_from;
      place =
          λ p l q e d c. record { in_old = fresh_there pre old p l d c; in_new = fresh_there pre new p l d c };
      no_program_old = λ w f p. no_program a f p w;
      no_program_new = λ w f p. no_program b f p w;
      verdict_old = convicts a;
      verdict_new = convicts b;
    }
  where
    -- from a later line on where both readings begin afresh
    same_from : (p q : List Line) → post ≡ p ++ q → Afresh pre old new p → TailKept pre old new p q a b
    same_from p q e w =
        let cut : (run : List Line) → pre ++ (run ++ post) ≡ (pre ++ (run ++ p)) ++ q =
        λ run. rw e (simp append_assoc) in
        let lines_old = c.lines_old ∙ cut old in
        let lines_new = c.lines_new ∙ cut new in
        record {
          same =
              record {
                statements =
                    rw (lines_old, lines_new) (tail_statements pre (old ++ p) (new ++ p) q w.in_old w.in_new);
                sheet = rw (lines_old, lines_new) (tail_sheets pre (old ++ p) (new ++ p) q w.in_old w.in_new);
                faults = rw (lines_old, lines_new) (tail_faults pre (old ++ p) (new ++ p) q w.in_old w.in_new);
              };
          shift = simp length-append (omega arith);
        }

-- DEMAND 3, FROM THE ENTRY: the lists that the callers of two such texts find
pub local_for : (pre old new post : List Line) (a b : List ℕ) → Change pre old new post a b
    → (f p g s : List ℕ) → fault_room ≤ length f → fault_room ≤ length g
    → Admitted (verdict_of a (length f) (length p)) → Admitted (verdict_of b (length g) (length s))
    → Faulted a → Faulted b
    → (r t : Result ℕ Refusal) (f' p' g' s' : List ℕ) → Translates a f p r f' p' → Translates b g s t g' s'
    → LocalFor pre old new post a b r f' p p' t g' s s'
local_for pre old new post a b c f p g s room_old room_new ok_old ok_new w_old w_new r t f' p' g' s' m n =
    let both = local pre old new post a b c in
    let first = answered a f p f' p' r room_old ok_old w_old m in
    let second = answered b g s g' s' t room_new ok_new w_new n in
    let begins = both.front.faults in
    record {
      answer_old = first;
      answer_new = second;
      front = (
        list_front (faults_of a) _ begins.rest_old f' begins.old first.listed,
        list_front (faults_of b) _ begins.rest_new g' begins.new second.listed,
      );
      tail = λ l q e fresh. let faults = (both.tail l q e fresh).same.faults in (
        ends (faults_of a) _ q _ f' faults.old first.listed,
        ends (faults_of b) _ q _ g' faults.new second.listed,
      );
    }
  where
    -- a list of faults that ends with the tail, as it stands in a buffer
    ends : (fs front : List Fault) (q : List Line) (k : ℕ) (buffer : List ℕ)
        → Ends fault_line later_fault front (faults_from (statements_in q)) k fs
        → take (fault_bytes * length fs) buffer ≡ fault_list fs
        → ListEnds fs (faults_from (statements_in q)) k buffer
    ends fs front q k buffer e listed =
        let tail = faults_from (statements_in q) in
        let raised = map (later_fault k) tail in
        let before = front ++ e.between in
        let long : length raised ≡ length tail = length-map tail (later_fault k) in
        record {
          before = before;
          many = ap length e.parts ∙ length-append before raised ∙ ap (λ n. length before + n) long;
          entries = rw long at (list_tail fs before raised buffer e.parts listed);
        }

-- ---- both texts of a change
module _ (pre old new post : List Line) (a b : List ℕ) (c : Change pre old new post a b)
    (w : faults_from (closed_of pre) ≡ [] → ⊥) where
  -- a fault that stands before the change stands in both texts
  pub both_faulted : Faulted a × Faulted b
  both_faulted =
      let s = (local pre old new post a b c).front.faults in
      (λ e. w (none_left _ _ (sym s.old ∙ e)).0, λ e. w (none_left _ _ (sym s.new ∙ e)).0)

  -- so it gives both verdict 5
  pub both_convicted : (f p : List ℕ) → fault_room ≤ length f → Admitted (verdict_of a (length f) (length p))
      → Admitted (verdict_of b (length f) (length p))
      → ((translation a f p).number ≡ 5) × ((translation b f p).number ≡ 5)
  both_convicted f p room ok ok' =
      let l = local pre old new post a b c in (
        ap (λ (z : Translation). z.number) (l.verdict_old f p room ok both_faulted.0),
        ap (λ (z : Translation). z.number) (l.verdict_new f p room ok' both_faulted.1),
      )

-- ---- such changes, in bytes

-- a run of lines, each with its byte 10, behind lines that have theirs
pub whole_lines : (pre old new post : List ℕ)
    → Change (lines_of (pre ++ (10 ∷ []))) (lines_of (old ++ (10 ∷ []))) (lines_of (new ++ (10 ∷ []))) (lines_of post)
    (pre ++ (10 ∷ (old ++ (10 ∷ post)))) (pre ++ (10 ∷ (new ++ (10 ∷ post))))
whole_lines pre old new post = record { lines_old = cut old; lines_new = cut new }
  where
    cut : (run : List ℕ) → lines_of (pre ++ (10 ∷ (run ++ (10 ∷ post))))
        ≡ lines_of (pre ++ (10 ∷ [])) ++ (lines_of (run ++ (10 ∷ [])) ++ lines_of post)
    cut run =
        lines_append pre (run ++ (10 ∷ post)) ∙ ap (λ ls. lines_of (pre ++ (10 ∷ [])) ++ ls) (lines_append run post)

-- cards put behind a text whose last line lacks its byte 10
pub append_a_card : (x : List ℕ) (last : ℕ) (cards : List ℕ) → (last ≡ 10 → ⊥)
    → Change (lines_of (x ++ (last ∷ []))) [] (lines_of cards) [] (x ++ (last ∷ []))
    ((x ++ (last ∷ [])) ++ (10 ∷ cards))
append_a_card x last cards e =
    let text = x ++ (last ∷ []) in
    record {
      lines_old = sym (append-nil (lines_of text));
      lines_new = lines_append text cards ∙ ap₂ ◌++◌ (lines_lacking x last e) (sym (append-nil (lines_of cards)));
    }

-- for instance the line C=3
pub a_card_appended : Change (bytes "A=1" ∷ bytes "B=2" ∷ []) [] (bytes "C=3" ∷ []) [] (bytes "A=1\nB=2")
    (bytes "A=1\nB=2\nC=3")
unfolding lines_of
a_card_appended = record { lines_old = refl; lines_new = refl }
