-- What every record of an accepted program can rely on.
use Rattle.std.specs.Prelude.{ℕ, ◌+◌, ◌-◌, ◌≤◌, ◌<◌, ◌≡◌, List, [], ◌∷◌, length, Float}
use Rattle.limits.specs.Limits.{slots, stack_places}
use Rattle.records.specs.Fields.{operand_of}
use Rattle.records.specs.Record.{decoded}
use Rattle.records.specs.declared.Instr.{Instr}
use Rattle.records.specs.declared.Instr.TheVariants.{Bad}
use Rattle.evaluator.specs.Judge.{takes, gives, phase_of}

-- with n slots, after phase p and with h values on the stack, x is no refusal, its slot is one of the slots, it is not
-- late, it finds what it takes, and there is a place for each value that comes to stand
pub record Fits (n p h : ℕ) (x : Instr) : Type 0 where
  pub known : x ≡ Bad → ⊥
  pub slot : operand_of x < n
  pub phase : p ≤ phase_of x
  pub low : takes x ≤ h
  pub high : h - takes x + gives x ≤ stack_places

-- so does each of these, one after the other
unfoldable pub SoundWithin : ℕ → ℕ → ℕ → List Instr → Type 0
SoundWithin n p h [] = Unit
SoundWithin n p h (x ∷ xs) = Fits n p h x × SoundWithin n (phase_of x) (h - takes x + gives x) xs

-- with the slots that there are
abbrev pub Sound : ℕ → ℕ → List Instr → Type 0
Sound p h xs = SoundWithin slots p h xs

-- what a run of program p can rely on, with the values v and the derivatives d lent
pub record Granted (p : List ℕ) (v d : List Float) : Type 0 where
  pub sound : Sound 1 0 (decoded p)
  pub values : slots ≤ length v
  pub derivs : slots ≤ length d
