-- The judge's loop: what is left to say is what the definition leaves.
use Prim.Native.Nat.{ℕ, ◌+◌, ◌*◌, ◌/◌, ◌≤◌, ◌<◌}
use mathlib.Core.Path.{◌≡◌, refl, sym, ◌∙◌}
use mathlib.Core.Bool.{true, false, not, cond, ◌&&◌}
use mathlib.Core.List.{List, [], ◌∷◌}
use mathlib.Core.Logic.{◌⊎◌, inl, inr, ⊎_elim}
use native.Mathlib.Numerals.{add-one}
use native.Mathlib.Omega.{arith}
use borrow.Author.Tests.{eq-eqb, ne_eqb}
use lib.Dec.{eqb, lit<}
use lib.ListN.{length}
use Rattle.std.specs.Prelude.{Option, Some, None}
use Rattle.limits.specs.Limits.{slots, record_bytes}
use Rattle.laws.specs.Counts.{once, count}
use Rattle.laws.proofs.Counts.{once_other}
use Rattle.laws.proofs.Tests.{eq_or_ne}
use Rattle.records.specs.declared.Instr.{Instr}
use Rattle.records.specs.Fields.{operand_of}
use Rattle.records.specs.Shape.{shape_of}
use Rattle.records.specs.Record.{decode_at, decoded}
use Rattle.records.specs.Decode.{decoded_at}
use Rattle.records.proofs.Decoding.{slot_inside, decoded_at_holds}
use Rattle.records.proofs.LeftRecords.{left, left_all, left_next, left_none}
use Rattle.evaluator.specs.Judge.{state_mark, rule_of, good_by, good, judged, judge₀, any_open, answer, judge_from}
use Rattle.evaluator.specs.Judge.{judge}
use Rattle.evaluator.specs.Marks.{marks_in}
use Rattle.evaluator.specs.Reached.{known, Goes, Judges}
use Rattle.evaluator.specs.declared.judge.Reached.{Reached}

-- where no derivative is owed, no state is without one
open_none : (l : List ℕ) → count state_mark l ≡ 0 → any_open l ≡ false
unfolding any_open count
open_none [] e = refl
open_none (m ∷ l) e =
    ⊎_elim
    (λ (q : state_mark ≡ m).
    let o : once (eqb state_mark m) ≡ 1 = rw (eq-eqb state_mark m q) in
    absurd (omega arith))
    (λ d. rw (ne_eqb m state_mark (λ q. d (sym q)), open_none l (omega arith))) (eq_or_ne state_mark m)

-- where one is owed, some state is
open_some : (l : List ℕ) → (count state_mark l ≡ 0 → ⊥) → any_open l ≡ true
unfolding any_open count
open_some [] e = absurd (e refl)
open_some (m ∷ l) e =
    ⊎_elim (λ (q : state_mark ≡ m). rw (eq-eqb m state_mark (sym q)))
    (λ d. rw (ne_eqb m state_mark (λ q. d (sym q))) (open_some l (λ z. e (omega (arith, once_other state_mark m d)))))
    (eq_or_ne state_mark m)

-- before record i, with t reached
pub record Judging (p : List ℕ) (t : Reached) (i : ℕ) : Type 0 where
  pub same : judge (decoded p) ≡ judge_from i (known t) (left p i)

-- before record 0
pub first : (p : List ℕ) (t : Reached) → known t ≡ judge₀ → Judging p t 0
first p t e = record { same = rw (e, left_all p) }

-- what is decoded has one of the slots
pub ready : (p : List ℕ) (i : ℕ) {x : Instr} → i < length p / record_bytes → x ≡ decoded_at p i → operand_of x < slots
ready p i h e = rw (e, decoded_at_holds p i h) (slot_inside p slots (i * record_bytes) (lit< tt))

module _ {p : List ℕ} {t : Reached} {i : ℕ} (a : Judging p t i) where
  module _ {x : Instr} (h : i < length p / record_bytes) (e : x ≡ decoded_at p i) where
    -- record i is bad
    bad_here : good_by (known t) (rule_of (shape_of x)) ≡ false → answer 3 i ≡ judge (decoded p)
    unfolding judge_from good
    bad_here n =
        let g = rw (e ∙ decoded_at_holds p i h) at n in
        sym (a.same ∙ rw (left_next p i h, g))

    -- record i is good
    good_here : {u : Reached} → Goes t (rule_of (shape_of x)) u → Judging p u (i + 1)
    unfolding judge_from good
    good_here {u} j =
        let f = e ∙ decoded_at_holds p i h in
        let g : good (known t) (decode_at p (i * record_bytes)) ≡ true = rw f at j.good in
        let m : known u ≡ judged (known t) (decode_at p (i * record_bytes)) = rw f at j.next in
        record { same = a.same ∙ rw (left_next p i h, g, m, add-one) }

    -- so says a step's answer r
    pub refused : (u : Reached) (r : Option (Unit {0})) → r ≡ None → Judges t (rule_of (shape_of x)) r u
        → answer 3 i ≡ judge (decoded p)
    refused u None q j = bad_here j
    refused u (Some y) q j = cc

    pub next : (u : Reached) (r : Option (Unit {0})) → (r ≡ None → ⊥) → Judges t (rule_of (shape_of x)) r u
        → Judging p u (i + 1)
    next u None q j = absurd (q refl)
    next u (Some y) q j = good_here j

  module _ (h : length p / record_bytes ≤ i) where
    -- all records are good
    ended : judge (decoded p) ≡ cond (eqb t.height 0 && not (any_open (marks_in t.marks))) (answer 0 0) (answer 4 0)
    unfolding judge_from
    ended = a.same ∙ rw (left_none p i h)

    -- the end finds a value, or a state without derivative
    pub unfinished : (t.height ≡ 0 → ⊥) ⊎ ((t.height ≡ 0) × (t.owed ≡ 0 → ⊥)) → answer 4 0 ≡ judge (decoded p)
    unfinished (inl d) = sym (ended ∙ rw (ne_eqb t.height 0 d))
    unfinished (inr q) = sym (ended ∙ rw (q.0, open_some (marks_in t.marks) (λ o. q.1 (t.owes ∙ o))))

    -- the end finds neither
    pub well : t.height ≡ 0 → t.owed ≡ 0 → answer 0 0 ≡ judge (decoded p)
    well z o = sym (ended ∙ rw (z, open_none (marks_in t.marks) (sym t.owes ∙ o)))
