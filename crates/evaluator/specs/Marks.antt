-- The marks as the code has them.
use Rattle.std.specs.Prelude.{ℕ, List, map}
use Rattle.evaluator.specs.declared.judge.Mark.{Mark}
use Rattle.evaluator.specs.declared.judge.Mark.TheVariants.{Unset, Given, State, Derived, Stored}
use Rattle.evaluator.specs.Judge.{unset_mark, given_mark, state_mark, derived_mark, stored_mark}

-- the definition's mark
abbrev pub mark_in : Mark → ℕ
mark_in Unset = unset_mark
mark_in Given = given_mark
mark_in State = state_mark
mark_in Derived = derived_mark
mark_in Stored = stored_mark

abbrev pub marks_in : List Mark → List ℕ
marks_in l = map mark_in l
