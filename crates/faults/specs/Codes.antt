-- The code of each fault: 11 to 19 of a statement, 21 to 26 of a model.
use Rattle.std.specs.Prelude.{ℕ, Option, Some, None}
use Rattle.faults.specs.declared.Fault.{Fault}
use Rattle.faults.specs.declared.Fault.TheVariants.{Unended, ManyCards, LongCard, StrayByte, LongName, Malformed}
use Rattle.faults.specs.declared.Fault.TheVariants.{OutOfRange, Ungrammatical, TooDeep, Redefined, Undefined}
use Rattle.faults.specs.declared.Fault.TheVariants.{NoConstant, Unsortable, Unpaired, Misplaced}

abbrev pub code_of : Fault → ℕ
code_of Unended = 11
code_of ManyCards = 12
code_of LongCard = 13
code_of StrayByte = 14
code_of LongName = 15
code_of Malformed = 16
code_of OutOfRange = 17
code_of Ungrammatical = 18
code_of TooDeep = 19
code_of Redefined = 21
code_of Undefined = 22
code_of NoConstant = 23
code_of Unsortable = 24
code_of Unpaired = 25
code_of Misplaced = 26

-- the same of what may be a fault: 0 where it is none
abbrev pub code_or_none : Option Fault → ℕ
code_or_none None = 0
code_or_none (Some f) = code_of f
