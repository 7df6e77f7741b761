-- What a caller of the translator finds, by the text's verdict: of a text with a statement fault, of one with a model
-- fault, and of one with a program.
use Prim.Native.Nat.{ℕ, ◌+◌, ◌*◌, ◌/◌, ◌≤◌}
use mathlib.Core.Path.{◌≡◌, refl, sym, ap, ◌∙◌}
use mathlib.Core.Bool.{◌||◌}
use mathlib.Core.Logic.{inl, inr}
use mathlib.Core.List.{List}
use native.Mathlib.Omega.{arith}
use borrow.Author.Tests.{ltb-false}
use lib.Dec.{ltb}
use lib.ListN.{length, take}
use lib.Seq.{sets}
use Rattle.std.specs.Prelude.{Result}
use Rattle.laws.proofs.Tests.{cond_ind}
use Rattle.laws.proofs.Bools.{or_false}
use Rattle.laws.proofs.Sets.{sets_back}
use Rattle.limits.specs.Limits.{fault_room, most_statements, most_records, record_bytes}
use Rattle.sheet.specs.Sheet.{Fault, fault_list}
use Rattle.sheet.specs.Reader.{faults_of, Faulted}
use Rattle.sheet.proofs.Entries.{list_length}
use Rattle.records.specs.Record.{Rec, program_bytes}
use Rattle.translator.specs.declared.Refusal.{Refusal}
use Rattle.translator.specs.Verdict.{Decision, refused, faulty, translated, fitted, verdict_of, number_of}
use Rattle.translator.specs.Verdict.{program_after, Translation, translation_of, translation}
use Rattle.translator.specs.Contract.{number_in, Reply, reply, reply_of, Translates}
use Rattle.translator.specs.Refusals.{Admitted}
use Rattle.translator.specs.Replies.{Answered, Programmed, Unprogrammed, NoProgram, Convicts}
use Rattle.translator.proofs.Counted.{few}
use Rattle.records.proofs.ReadBack.{length_program}
use Rattle.translator.proofs.Verdicts.{by_number, verdict_whole}
use Rattle.translator.proofs.Given.{is_five, faulted_ind}

-- ---- of an outcome that the contract allows
module _ (text f p f' p' : List ℕ) (r : Result ℕ Refusal) (t : Translates text f p r f' p') where
  -- the reply is that to the text's verdict
  by_verdict : (v : Decision) → verdict_of text (length f) (length p) ≡ v → reply r f' p' ≡ reply_of v f p
  by_verdict v e = t ∙ ap (λ (x : Decision). reply_of x f p) e

  -- with room: the faults of the verdict are listed
  pub faults_answered : (n : ℕ) (fs : List Fault) → fault_room ≤ length f
      → verdict_of text (length f) (length p) ≡ faulty n fs → Answered n fs r f' p p'
  faults_answered n fs room e =
      let o = by_verdict (faulty n fs) e in
      let written : f' ≡ sets f 0 (fault_list fs) = ap (λ (z : Reply). z.faults) o in
      let most : length fs ≤ most_statements = rw e at (few text (length f) (length p)) in
      let long = list_length fs in
      let fits : 0 + length (fault_list fs) ≤ length f = omega arith in
      record {
        answer = ap (λ (z : Reply). z.answer) o;
        listed = rw (written, ← long) (sets_back f 0 (fault_list fs) fits);
        untouched = ap (λ (z : Reply). z.program) o;
      }

  -- its records are written, or there is no room for them
  pub records_written : (rs : List Rec) (ls : List ℕ) → verdict_of text (length f) (length p) ≡ fitted (length p) rs ls
      → Programmed rs r p p'
  records_written rs ls e =
      let over = ltb most_records (length rs) || ltb (length p / record_bytes) (length rs) in
      cond_ind (λ (v : Decision). reply r f' p' ≡ reply_of v f p → Programmed rs r p p') over (refused 8)
      (translated rs ls)
      (λ _ o. record { answer = inr (verdict_whole (ap (λ (z : Reply). z.answer) o), ap (λ (z : Reply). z.program) o) })
      (λ n o.
      let none = or_false (ltb most_records (length rs)) (ltb (length p / record_bytes) (length rs)) n in
      let fits : length rs ≤ length p / record_bytes = ltb-false (length p / record_bytes) (length rs) none.1 in
      let long = length_program rs in
      let count : length (program_bytes rs) ≡ length rs * record_bytes = omega arith in
      let end : p' ≡ sets p 0 (program_bytes rs) = ap (λ (z : Reply). z.program) o in
      let back : take (length rs * record_bytes) p' ≡ program_bytes rs =
      rw (end, ← count) (sets_back p 0 (program_bytes rs) (omega arith)) in
      record { answer = inl (verdict_whole (ap (λ (z : Reply). z.answer) o), back) })
      (by_verdict (fitted (length p) rs ls) e)

-- ---- of a text with a statement fault

-- A STATEMENT FAULT means no program, whatever is lent and whatever the text's size
pub no_program : (text f p : List ℕ) → Faulted text → NoProgram text f p
unfolding translation
no_program text f p w =
    record {
      as_lent = faulted_ind (λ (v : Decision). program_after v p ≡ p) (λ n _. refl) (λ n x xs _. refl) text (length f)
          (length p) w;
      not_zero = faulted_ind (λ (v : Decision). number_of v ≡ 0 → ⊥) (λ n z e. omega arith) (λ n x xs z e. omega arith)
          text (length f) (length p) w;
    }

-- A STATEMENT FAULT means verdict 5 with the list of them all, and the program as lent
pub convicts : (text : List ℕ) → Convicts text
unfolding translation
convicts text f p room ok w = ap (λ (v : Decision). translation_of v f p) (is_five text (length f) (length p) room ok w)

-- WHAT A CALLER HAS of it, whatever was lent: no program
pub unprogrammed : (text f p f' p' : List ℕ) (r : Result ℕ Refusal) → Faulted text → Translates text f p r f' p'
    → Unprogrammed r p p'
unprogrammed text f p f' p' r w t =
    let o = by_number text f p r t in
    let none = no_program text f p w in
    record {
      untouched = ap (λ (z : Translation). z.program) o ∙ none.as_lent;
      not_translated = λ k e. none.not_zero (sym (ap (λ (z : Translation). z.number) o) ∙ ap number_in e);
    }

-- .. and with room, if it is not refused for size: 5 and the list in full
pub answered : (text f p f' p' : List ℕ) (r : Result ℕ Refusal) → fault_room ≤ length f
    → Admitted (verdict_of text (length f) (length p)) → Faulted text → Translates text f p r f' p'
    → Answered 5 (faults_of text) r f' p p'
answered text f p f' p' r room ok w t =
    faults_answered text f p f' p' r t 5 (faults_of text) room (is_five text (length f) (length p) room ok w)
