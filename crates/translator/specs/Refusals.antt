-- Texts that are not refused: for size, or for anything before their order is looked at.
use Rattle.std.specs.Prelude.{ℕ, ◌≤◌, ◌≡◌, List, []}
use Rattle.limits.specs.Limits.{fault_room}
use Rattle.sheet.specs.Sheet.{said}
use Rattle.sheet.specs.Reader.{sheet_of}
use Rattle.blocks.specs.Units.{stated_in}
use Rattle.blocks.specs.Inside.{block_faults}
use Rattle.model.specs.Definitions.{definitions}
use Rattle.model.specs.Faults.{faults21, name_faults}
use Rattle.model.specs.Text.{text_units}
use Rattle.translator.specs.Verdict.{Decision, verdict_of, number_of}

-- not refused for size: not with 2, 3 or 4
pub record Admitted (v : Decision) : Type 0 where
  pub not_two : number_of v ≡ 2 → ⊥
  pub not_three : number_of v ≡ 3 → ⊥
  pub not_four : number_of v ≡ 4 → ⊥

-- no earlier refusal: f and p bytes are lent; not 1; not 2, 3, 4; not 5, not 6; no 25 and no 26; no 21; no 22 and no 23
pub record Unrefused (text : List ℕ) (f p : ℕ) : Type 0 where
  pub room : fault_room ≤ f
  pub size : Admitted (verdict_of text f p)
  pub not_five : number_of (verdict_of text f p) ≡ 5 → ⊥
  pub not_six : number_of (verdict_of text f p) ≡ 6 → ⊥
  pub no_block : block_faults (said (sheet_of text)) ≡ []
  pub no_double : faults21 [] (stated_in (text_units text)) ≡ []
  pub no_nameless : name_faults (definitions (text_units text)) (text_units text) ≡ []
