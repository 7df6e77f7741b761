-- One record of the judge: that all is well, and the marks and derivatives owed.
use Prim.Native.Nat.{ℕ, ◌+◌, ◌-◌, ◌≤◌, ◌<◌}
use mathlib.Core.Path.{◌≡◌}
use mathlib.Core.Bool.{true}
use mathlib.Core.List.{List}
use native.Mathlib.Omega.{arith}
use borrow.Author.Tests.{le-leb}
use lib.Dec.{eqb}
use lib.ListN.{length, get_or, set, length-map}
use Rattle.std.proofs.lemmas.List.{map-set}
use Rattle.limits.specs.Limits.{stack_places}
use Rattle.laws.specs.Counts.{once, count}
use Rattle.laws.proofs.Tests.{and_both}
use Rattle.laws.proofs.Stores.{count_set, count_most}
use Rattle.evaluator.specs.Judge.{state_mark, Rule}
use Rattle.evaluator.specs.Marks.{mark_in, marks_in}
use Rattle.evaluator.specs.Reached.{Goes}
use Rattle.evaluator.specs.declared.judge.Mark.{Mark}
use Rattle.evaluator.specs.declared.judge.Reached.{Reached}

-- a good record leads where its rule says
pub goes : (q : Rule) {t u : Reached} → q.takes ≤ t.height → t.phase ≤ q.phase
    → q.fine (marks_in t.marks) t.height ≡ true → u.phase ≡ q.phase → u.height ≡ t.height - q.takes + q.gives
    → marks_in u.marks ≡ q.marks (marks_in t.marks) → Goes t q u
goes q {t} {u} low late fine p h k =
    let high : t.height - q.takes + q.gives ≤ stack_places = omega (arith, u.low) in
    record {
      good = and_both _ _ (le-leb _ _ low) (and_both _ _ (le-leb _ _ high) (and_both _ _ (le-leb _ _ late) fine));
      next = rw (p, h, k);
    }

-- the mark of a slot is changed
pub marked : (l : List Mark) (s : ℕ) (m : Mark) → marks_in (set l s m) ≡ set (marks_in l) s (mark_in m)
marked l s m = map-set mark_in l s m

-- and so the count of states without derivative
pub remarked : (l : List Mark) (s : ℕ) (m : Mark) → s < length l
    → count state_mark (marks_in (set l s m)) + once (eqb state_mark (get_or (marks_in l) s 0))
    ≡ count state_mark (marks_in l) + once (eqb state_mark (mark_in m))
remarked l s m h =
    let b : s < length (marks_in l) = omega (arith, length-map {A = Mark} {B = ℕ}) in
    rw (marked l s m) (count_set state_mark (mark_in m) (marks_in l) s b)

-- of which there are no more than slots
pub owed_few : (l : List Mark) → count state_mark (marks_in l) ≤ length l
owed_few l = omega (arith, count_most state_mark (marks_in l), length-map {A = Mark} {B = ℕ})
