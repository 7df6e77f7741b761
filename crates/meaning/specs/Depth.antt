-- How many values stand on the stack at once while instructions run.
use Rattle.std.specs.Prelude.{ℕ, ◌+◌, ◌-◌, max, List, [], ◌∷◌}
use Rattle.records.specs.declared.Instr.{Instr}
use Rattle.records.specs.Record.{instrs}
use Rattle.evaluator.specs.Judge.{takes, gives}
use Rattle.translator.specs.Verdict.{Decision, refused, faulty, translated}

-- the most that stand at once, from h on: each instruction takes some and gives some
unfoldable pub highest : ℕ → List Instr → ℕ
highest h [] = h
highest h (x ∷ xs) = max h (highest (h - takes x + gives x) xs)

-- of the program of a verdict; without a program none stand
abbrev pub height_of : Decision → ℕ
height_of (refused n) = 0
height_of (faulty n fs) = 0
height_of (translated rs ls) = highest 0 (instrs rs)
