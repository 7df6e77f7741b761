-- What the judge finds, as the code has it.
use Rattle.evaluator.specs.Judge.{Answer, answer}
use Rattle.evaluator.specs.declared.judge.Finding.{Finding}
use Rattle.evaluator.specs.declared.judge.Finding.TheVariants.{Sound, BadRecord, Unfinished}

-- the number and the record number for each case
abbrev pub finding_in : Finding → Answer
finding_in Sound = answer 0 0
finding_in (BadRecord i) = answer 3 i
finding_in Unfinished = answer 4 0
