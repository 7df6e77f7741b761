-- Reports have the numbers of their statements, faults those of their reports; renumbered alike.
use Prim.Native.Nat.{ℕ, ◌+◌}
use mathlib.Core.Path.{◌≡◌, refl}
use mathlib.Core.List.{List, ◌++◌, map}
use native.Mathlib.Omega.{arith}
use Rattle.laws.specs.Every.{Every}
use Rattle.laws.proofs.Every.{every_mapped, every_concat}
use Rattle.laws.proofs.Lists.{concat_append}
use Rattle.laws.proofs.Concats.{concat_moved}
use Rattle.deck.specs.Reading.{Statement}
use Rattle.deck.specs.Reports.{Report, report}
use Rattle.deck.specs.Later.{later_report}
use Rattle.deck.specs.declared.Spot.{Spot}
use Rattle.sheet.specs.Sheet.{Told, says, faulty, Sheet, Numbered, Fault, fault_by, statement_faults}
use Rattle.sheet.specs.Reader.{told}
use Rattle.sheet.specs.Numbers.{statement_line, report_line, fault_line, later_fault}

-- a report has its statement's number
pub reports_kept : (P : ℕ → Type 0) (ss : List Statement) → Every (λ (s : Statement). P (statement_line s)) ss
    → Every (λ (r : Report (Told Spot)). P (report_line r)) (map (report told) ss)
reports_kept P = every_mapped _ _ (report told) (λ s h. h)

-- a fault has its report's number
pub faults_kept : (P : ℕ → Type 0) (rs : Sheet) → Every (λ (r : Report (Told Spot)). P (report_line r)) rs
    → Every (λ (f : Fault). P (fault_line f)) (statement_faults rs)
faults_kept P = every_concat _ _ _ (λ (r : Report (Told Spot)). go r.line r.what)
  where
    go : (l : ℕ) (t : Told Spot) → P l → Every (λ (f : Fault). P (fault_line f)) (fault_by l t)
    go l (says x) h = tt
    go l (faulty c p) h = (h, tt)

-- what a statement says, with the line that g gives for its own
abbrev pub renumber_numbered : (ℕ → ℕ) → Numbered → Numbered
renumber_numbered g s = record { line = g s.line; says = s.says }

-- faults of later reports are later faults
pub faults_later : (k : ℕ) (rs : Sheet) → statement_faults (map (later_report k) rs)
    ≡ map (later_fault k) (statement_faults rs)
faults_later k =
    concat_moved _ _ (later_report k) (later_fault k) (λ (r : Report (Told Spot)). go r.line r.what)
  where
    go : (l : ℕ) (t : Told Spot) → fault_by (k + l) t ≡ map (later_fault k) (fault_by l t)
    go l (says x) = refl
    go l (faulty c p) = let sum : k + l + p.down ≡ k + (l + p.down) = omega arith in rw sum

-- faults of two parts of a sheet
pub faults_append : (x y : Sheet) → statement_faults (x ++ y) ≡ statement_faults x ++ statement_faults y
faults_append x y = concat_append _ x y
