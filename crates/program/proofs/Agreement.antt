-- Any two outcomes that the contract of an open entry allows are equal.
use Prim.Native.Nat.{ℕ}
use mathlib.Core.Path.{sym, ◌∙◌}
use mathlib.Core.List.{List}
use Rattle.laws.specs.Agree.{Agree, Agree2}
use Rattle.program.specs.Contract.{CountsRecords, PutsProgram, PutsRoster}

pub count_records : (kinds : List ℕ) → Agree (CountsRecords kinds)
count_records kinds r s p q = p ∙ sym q

pub put_program : (places equated firsts lines bounds kinds slots order out : List ℕ)
    → Agree2 (PutsProgram places equated firsts lines bounds kinds slots order out)
put_program places equated firsts lines bounds kinds slots order out r s a b p q =
    (p.0 ∙ sym q.0, p.1 ∙ sym q.1)

pub put_roster : (lines bounds kinds args out : List ℕ) → Agree2 (PutsRoster lines bounds kinds args out)
put_roster lines bounds kinds args out r s a b p q = (p.0 ∙ sym q.0, p.1 ∙ sym q.1)
