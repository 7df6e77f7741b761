-- What was before request 9: programs are accepted and give the same in their slots, and texts keep their verdicts.
use Prim.Native.Nat.{ℕ, ◌≤◌}
use mathlib.Core.Path.{◌≡◌, sym, ap, subst, ◌∙◌}
use mathlib.Core.List.{List}
use native.Mathlib.Omega.{arith}
use lib.Dec.{lit<, lit≤}
use lib.ListN.{length}
use lib.Ieee.{Float}
use Rattle.std.specs.Prelude.{Result}
use Rattle.limits.specs.Limits.{fault_room, slots}
use Rattle.limits.specs.Before.{sizes, sizes_before, slots_before}
use Rattle.records.specs.Record.{Rec}
use Rattle.translator.specs.declared.Refusal.{Refusal}
use Rattle.translator.specs.Verdict.{Decision, translated, verdict_within, verdict_of, number_of}
use Rattle.translator.specs.Larger.{Larger, NotForSize}
use Rattle.translator.specs.Contract.{reply, reply_of, Translates}
use Rattle.translator.proofs.Larger.{larger_same}
use Rattle.meaning.specs.MoreSlots.{LentAlike, SameFront, MoreSlots}
use Rattle.meaning.proofs.MoreSlots.{more_slots}
use Rattle.promises.specs.Before.{AsBefore, LinkedAsBefore}

-- OLD PROGRAMS. Of all bytes as a program: what 256 slots accept is accepted with those that there are, and from values
-- and derivatives that agree in the first 256 places evaluating, starting, stepping, and any number of steps leave the
-- same in those places; places from 256 on stay
pub old_programs : (p : List ℕ) → MoreSlots slots_before slots p
old_programs p = more_slots slots_before slots (lit< tt) (lit≤ tt) p

-- FROM THE ENTRIES: evaluate, start and step
pub old_programs_for : (p : List ℕ) (v d w e : List Float) → LentAlike slots_before slots p v d w e
    → AsBefore p v d w e
old_programs_for p v d w e lent =
    let all = old_programs p in
    record {
      evaluates = λ r w' e' c. subst (SameFront slots_before w e _) (sym c.meets) (all.evaluates v d w e lent);
      starts = λ r w' e' c. subst (SameFront slots_before w e _) (sym c.meets) (all.starts v d w e lent);
      steps = λ h r w' e' c. subst (SameFront slots_before w e _) (sym c.meets) (all.steps h v d w e lent);
    }

-- the same at the boundary to other languages
pub old_programs_linked : (p : List ℕ) (v d w e : List Float) → LentAlike slots_before slots p v d w e
    → LinkedAsBefore p v d w e
old_programs_linked p v d w e lent =
    let all = old_programs p in
    record {
      evaluates = λ r w' e' c. subst (SameFront slots_before w e _) (sym c) (all.evaluates v d w e lent);
      starts = λ r w' e' c. subst (SameFront slots_before w e _) (sym c) (all.starts v d w e lent);
      steps = λ h r w' e' c. subst (SameFront slots_before w e _) (sym c) (all.steps h v d w e lent);
    }

-- the sizes that there are have room for every text that those of before had room for
larger : Larger sizes_before sizes
larger = record { bytes = lit≤ tt; lines = lit≤ tt; statements = lit≤ tt; definitions = lit≤ tt }

-- OLD TEXTS. A text that was refused for no size has the verdict that it had: with a program the same records in the
-- same order, with faults the same faults. As many bytes are lent for the program, and room for the faults
pub old_texts : (text : List ℕ) (f g room : ℕ) → NotForSize (verdict_within sizes_before text f room) → fault_room ≤ g
    → verdict_of text g room ≡ verdict_within sizes_before text f room
old_texts = larger_same sizes_before sizes larger

-- a text of verdict 0 has the same program
pub old_program_kept : (text : List ℕ) (f g room : ℕ) (rs : List Rec) (ls : List ℕ)
    → verdict_within sizes_before text f room ≡ translated rs ls
    → fault_room ≤ g
    → verdict_of text g room ≡ translated rs ls
old_program_kept text f g room rs ls e lent =
    let zero : number_of (verdict_within sizes_before text f room) ≡ 0 = ap number_of e in
    old_texts text f g room
    (record {
      not_one = λ n. omega arith;
      not_two = λ n. omega arith;
      not_three = λ n. omega arith;
      not_four = λ n. omega arith;
      not_six = λ n. omega arith;
    })
    lent
    ∙ e

-- FROM THE ENTRY: the answer of `translate`, and both buffers, are those of the verdict of before
pub old_texts_for : (text g p : List ℕ) (f : ℕ) (r : Result ℕ Refusal) (g' p' : List ℕ)
    → NotForSize (verdict_within sizes_before text f (length p))
    → fault_room ≤ length g
    → Translates text g p r g' p'
    → reply r g' p' ≡ reply_of (verdict_within sizes_before text f (length p)) g p
old_texts_for text g p f r g' p' none lent t =
    t ∙ ap (λ (v : Decision). reply_of v g p) (old_texts text f (length g) (length p) none lent)
