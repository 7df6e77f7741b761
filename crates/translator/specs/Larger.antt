-- Larger sizes, and the verdicts that do not go by them.
use Rattle.std.specs.Prelude.{◌≤◌, ◌≡◌}
use Rattle.limits.specs.Before.{Sizes}
use Rattle.translator.specs.Verdict.{Decision, number_of}

-- b has room for every text that a has room for
pub record Larger (a b : Sizes) : Type 0 where
  pub bytes : a.bytes ≤ b.bytes
  pub lines : a.lines ≤ b.lines
  pub statements : a.statements ≤ b.statements
  pub definitions : a.definitions ≤ b.definitions

-- a verdict that is given for no size: not 1, not 2, not 3, not 4, not 6
pub record NotForSize (v : Decision) : Type 0 where
  pub not_one : number_of v ≡ 1 → ⊥
  pub not_two : number_of v ≡ 2 → ⊥
  pub not_three : number_of v ≡ 3 → ⊥
  pub not_four : number_of v ≡ 4 → ⊥
  pub not_six : number_of v ≡ 6 → ⊥
