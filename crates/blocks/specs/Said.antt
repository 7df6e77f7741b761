-- What the statements of units said.
use Rattle.std.specs.Prelude.{◌≡◌, List, map}
use Rattle.drafts.specs.Tree.{Says, constants as constants_said, assignment as assignment_said, state as state_said}
use Rattle.drafts.specs.Tree.{header, ending}
use Rattle.sheet.specs.Sheet.{Numbered}
use Rattle.blocks.specs.Units.{Single, constants, assignment, state, Stood, alone, heading, inner, closing}
use Rattle.blocks.specs.Units.{Stated}
use Rattle.blocks.specs.Units.{TextUnit, stated_in}

abbrev pub said_alone : Single → Says
said_alone (constants cs) = constants_said cs
said_alone (assignment k e) = assignment_said k e
said_alone (state k i e) = state_said k i e

abbrev pub said_of : Stood → Says
said_of (alone x) = said_alone x
said_of (heading os is) = header os is
said_of (inner k e s) = assignment_said k e
said_of closing = ending

abbrev pub numbered_back : Stated → Numbered
numbered_back t = record { line = t.line; says = said_of t.stood }

-- each of these statements stands in one unit, in their order, and no other does
abbrev pub GroupedIn : List TextUnit → List Numbered → Type 0
GroupedIn us ss = map numbered_back (stated_in us) ≡ ss
