-- The units of a text, the first lines of those that are ordered, and all model faults.
use Rattle.std.specs.Prelude.{ℕ, List}
use Rattle.sheet.specs.Sheet.{Numbered, Fault, said}
use Rattle.sheet.specs.Reader.{sheet_of}
use Rattle.blocks.specs.Units.{TextUnit}
use Rattle.blocks.specs.Tests.{or_else}
use Rattle.blocks.specs.Inside.{block_faults}
use Rattle.blocks.specs.Members.{units_of}
use Rattle.model.specs.Definitions.{unit_at}
use Rattle.model.specs.Faults.{model_faults}

abbrev pub text_units : List ℕ → List TextUnit
text_units text = units_of (said (sheet_of text))

abbrev pub line_at : List TextUnit → ℕ → ℕ
line_at us i = (unit_at us i).line

-- the model faults of statements: 25 and 26, of blocks; 21 and on are sought only if none of them stands
abbrev pub model_faults_in : List Numbered → List Fault
model_faults_in ss = or_else (block_faults ss) (model_faults (units_of ss))
