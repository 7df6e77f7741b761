-- Lines in front and lines behind: what two readings with the same front share, and what they share behind a place
-- where both begin afresh.
use Prim.Native.Nat.{◌+◌}
use mathlib.Core.Path.{◌≡◌, ap, ap₂, ◌∙◌}
use mathlib.Core.Bool.{false}
use mathlib.Core.List.{List, [], ◌∷◌, ◌++◌, map, append_assoc, map-append}
use native.Mathlib.Omega.{arith}
use lib.ListN.{length}
use Rattle.laws.proofs.Every.{every_mapped}
use Rattle.deck.specs.Lines.{Line, dotted, starred}
use Rattle.deck.specs.Reading.{fresh, reading, closed_in, state_after}
use Rattle.deck.specs.Reports.{report}
use Rattle.deck.specs.Later.{later, later_report, Begin, Ends, Share}
use Rattle.deck.proofs.Local.{reading_append, closed_append, fresh_behind, reading_later, map_later}
use Rattle.deck.proofs.Rising.{reading_from, closed_among}
use Rattle.deck.proofs.Sharing.{begin_made, share_made}
use Rattle.sheet.specs.Sheet.{statement_faults}
use Rattle.sheet.specs.Reader.{told}
use Rattle.sheet.specs.Numbers.{statements_in, sheet_from, faults_from, closed_of, FreshBehind, statement_line}
use Rattle.sheet.specs.Numbers.{report_line, fault_line, later_fault}
use Rattle.sheet.proofs.Numbers.{reports_kept, faults_kept, faults_later, faults_append}

-- ---- the same front
module _ (pre x y : List Line) where
  -- both readings begin with what it closed
  pub front_statements : Begin (closed_of pre) (statements_in (pre ++ x)) (statements_in (pre ++ y))
  front_statements =
      record {
        rest_old = _;
        rest_new = _;
        old = reading_append fresh 1 pre x;
        new = reading_append fresh 1 pre y;
      }

  -- both sheets
  pub front_sheets : Begin (sheet_from (closed_of pre)) (sheet_from (statements_in (pre ++ x)))
      (sheet_from (statements_in (pre ++ y)))
  front_sheets = begin_made sheet_from (map-append (report told)) front_statements

  -- both lists of faults
  pub front_faults : Begin (faults_from (closed_of pre)) (faults_from (statements_in (pre ++ x)))
      (faults_from (statements_in (pre ++ y)))
  front_faults = begin_made statement_faults faults_append front_sheets

-- ---- the same tail

-- where reading is fresh behind the lines pre and x, what the lines q say stands last, its numbers raised
reads_tail : (pre x q : List Line) → FreshBehind (pre ++ x)
    → Ends statement_line later (closed_of pre) (statements_in q) (length (pre ++ x)) (statements_in ((pre ++ x) ++ q))
reads_tail pre x q w =
    let n = length (pre ++ x) in
    let between = closed_in (state_after fresh 1 pre) (1 + length pre) x in
    let closed : closed_of (pre ++ x) ≡ closed_of pre ++ between = closed_append fresh 1 pre x in
    let next : 1 + n ≡ n + 1 = omega arith in
    let raised : reading (state_after fresh 1 (pre ++ x)) (1 + n) q ≡ map (later n) (statements_in q) =
    rw (w, next) (reading_later n fresh 1 q) in
    record {
      between = between;
      parts = reading_append fresh 1 (pre ++ x) q ∙ ap₂ ◌++◌ closed raised;
      before = rw (← closed) (closed_among (pre ++ x));
      behind = every_mapped _ _ (later n) (λ s h. omega arith) (statements_in q) (reading_from 1 q);
    }

module _ (pre x y q : List Line) (a : FreshBehind (pre ++ x)) (b : FreshBehind (pre ++ y)) where
  -- both readings end with it
  pub tail_statements : Share statement_line later (closed_of pre) (statements_in q) (length (pre ++ x))
      (length (pre ++ y)) (statements_in ((pre ++ x) ++ q)) (statements_in ((pre ++ y) ++ q))
  tail_statements = record { old = reads_tail pre x q a; new = reads_tail pre y q b }

  -- both sheets
  pub tail_sheets : Share report_line later_report (sheet_from (closed_of pre)) (sheet_from (statements_in q))
      (length (pre ++ x)) (length (pre ++ y)) (sheet_from (statements_in ((pre ++ x) ++ q)))
      (sheet_from (statements_in ((pre ++ y) ++ q)))
  tail_sheets =
      share_made sheet_from (map-append (report told)) statement_line report_line later later_report reports_kept
      (map_later told) tail_statements

  -- both lists of faults
  pub tail_faults : Share fault_line later_fault (faults_from (closed_of pre)) (faults_from (statements_in q))
      (length (pre ++ x)) (length (pre ++ y)) (faults_from (statements_in ((pre ++ x) ++ q)))
      (faults_from (statements_in ((pre ++ y) ++ q)))
  tail_faults =
      share_made statement_faults faults_append report_line fault_line later_report later_fault faults_kept faults_later
      tail_sheets

-- behind a line without closing dots that is no comment reading is fresh
pub fresh_there : (pre run p : List Line) (l : Line) → dotted l ≡ false → starred l ≡ false
    → FreshBehind (pre ++ (run ++ (p ++ (l ∷ []))))
fresh_there pre run p l d c =
    let last : pre ++ (run ++ (p ++ (l ∷ []))) ≡ (pre ++ (run ++ p)) ++ (l ∷ []) = simp append_assoc in
    ap (state_after fresh 1) last ∙ fresh_behind (pre ++ (run ++ p)) l d c
