-- Decisions with other line numbers: what a comment line put into a text does to its verdict.
use Rattle.std.specs.Prelude.{ℕ, map}
use Rattle.sheet.specs.Numbers.{renumber_fault}
use Rattle.records.specs.Record.{renumber_rec}
use Rattle.translator.specs.Verdict.{Decision, refused, faulty, translated}

-- a decision with the lines that g gives for its own: those of its faults, of its records, and of the ordered units
abbrev pub renumber_decision : (ℕ → ℕ) → Decision → Decision
renumber_decision g (refused n) = refused n
renumber_decision g (faulty n fs) = faulty n (map (renumber_fault g) fs)
renumber_decision g (translated rs ls) = translated (map (renumber_rec g) rs) (map g ls)
