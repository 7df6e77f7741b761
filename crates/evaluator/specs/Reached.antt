-- The judge as the code has it: beside the marks what is reached, which counts the states without derivative.
use Rattle.std.specs.Prelude.{◌≡◌, Option, Some, None, true, false}
use Rattle.evaluator.specs.Judge.{Rule, Judge, good_by, judged_by}
use Rattle.evaluator.specs.Marks.{marks_in}
use Rattle.evaluator.specs.declared.judge.Reached.{Reached}

-- the definition's judge
abbrev pub known : Reached → Judge
known t = record { phase = t.phase; height = t.height; marks = marks_in t.marks }

-- after a good record: it is good, and u is where the definition goes from t
pub record Goes (t : Reached) (q : Rule) (u : Reached) : Type 0 where
  pub good : good_by (known t) q ≡ true
  pub next : known u ≡ judged_by (known t) q

-- one record by its rule, from t to u: r says whether it is good
abbrev pub Judges : Reached → Rule → Option (Unit {0}) → Reached → Type 0
Judges t q None u = good_by (known t) q ≡ false
Judges t q (Some done) u = Goes t q u
