-- How large an answer is: its number is at most 4, its record number that of a record; so both keep their value in
-- their fixed layout.
use Prim.Native.Nat.{ℕ, zero, suc, ◌+◌, ◌/◌, ◌%◌, ◌≤◌}
use mathlib.Core.Path.{◌≡◌, refl, ap, ◌∙◌}
use mathlib.Core.Bool.{not, cond, ◌&&◌, ◌||◌}
use mathlib.Core.List.{List, [], ◌∷◌}
use native.Mathlib.Omega.{arith}
use borrow.Author.Tests.{ltb-false}
use lib.Dec.{eqb, ltb}
use lib.Ieee.{Float}
use lib.ListN.{length}
use Rattle.std.specs.Prelude.{Result}
use Rattle.limits.specs.Limits.{slots, record_bytes, most_records}
use Rattle.laws.proofs.Bools.{or_false}
use Rattle.laws.proofs.Tests.{cond_ind}
use Rattle.records.specs.declared.Instr.{Instr}
use Rattle.records.specs.Record.{decode_from, decode_from_within, decoded, decoded_within}
use Rattle.translator.specs.declared.Refusal.{Refusal}
use Rattle.translator.specs.Contract.{number_in, count_in, Translates, NamesSlots}
use Rattle.translator.specs.Names.{NamesGiven, names_given, naming_of, count_naming}
use Rattle.floesedge.specs.declared.CVerdict.{CVerdict}
use Rattle.floesedge.specs.Contract.{TranslatesFixed, NamesFixed}
use Rattle.translator.specs.Verdict.{Translation, translation, verdict_of, count_of}
use Rattle.translator.proofs.Counted.{few, count_few}
use Rattle.translator.proofs.Verdicts.{by_number, names_by_number}
use Rattle.translator.proofs.NamesGiven.{naming_few}
use Rattle.evaluator.specs.Judge.{Judge, Answer, answer, good, judged, any_open, judge_from}
use Rattle.evaluator.specs.Evaluate.{RunOutcome, run_outcome, refusal, refusal_within, evaluated_within, started_within}
use Rattle.evaluator.specs.Evaluate.{stepped_within}
use Rattle.evaluator.specs.Contract.{answer_in, Evaluated, Started, Stepped}
use Rattle.evaluator.specs.declared.Refusal.{Refusal as RunRefusal}

-- ---- the count of a verdict
pub count_small : (text f p f' p' : List ℕ) (r : Result ℕ Refusal) → Translates text f p r f' p'
    → count_in r ≤ most_records
unfolding translation
count_small text f p f' p' r e =
    let v = verdict_of text (length f) (length p) in
    let same : count_in r ≡ count_of v = ap (λ (o : Translation). o.count) (by_number text f p r e) in
    omega (arith, same, count_few v (few text (length f) (length p)))

-- ---- the answers of the judge

-- number at most 4, record number at most n
abbrev Small : ℕ → Answer → Type 0
Small n a = (a.number ≤ 4) × (a.place ≤ n)

judge_small : (n i : ℕ) (j : Judge) (xs : List Instr) → i + length xs ≤ n → Small n (judge_from i j xs)
unfolding judge_from
judge_small n i j [] h =
    cond_ind (Small n) (eqb j.height 0 && not (any_open j.marks)) (answer 0 0) (answer 4 0)
    (λ _. (omega arith, omega arith))
    (λ _. (omega arith, omega arith))
judge_small n i j (x ∷ xs) h =
    cond_ind (Small n) (good j x) (judge_from (suc i) (judged j x) xs) (answer 3 i)
    (λ _. judge_small n (suc i) (judged j x) xs (omega arith))
    (λ _. (omega arith, omega arith))

decode_many : (p : List ℕ) (i n : ℕ) → length (decode_from p i n) ≡ n
unfolding decode_from_within
decode_many p i zero = refl
decode_many p i (suc n) = ap suc (decode_many p (suc i) n)

refusal_small : (p : List ℕ) (v d : List Float) → Small most_records (refusal p v d)
unfolding refusal_within decoded_within
refusal_small p v d =
    cond_ind (Small most_records) (ltb (length v) slots || ltb (length d) slots) (answer 1 0) _
    (λ _. (omega arith, omega arith))
    (λ _. cond_ind (Small most_records)
    (not (eqb (length p % record_bytes) 0) || ltb most_records (length p / record_bytes)) (answer 2 0) _
    (λ _. (omega arith, omega arith))
    (λ e.
    let n = length p / record_bytes in
    let h = ltb-false most_records n (or_false (not (eqb (length p % record_bytes) 0)) (ltb most_records n) e).1 in
    judge_small most_records 0 _ (decoded p) (omega (arith, h, decode_many p 0 n))))

-- with or without refusal the answer is the refusal's
answer_kept : (a : Answer) (v d v' d' : List Float)
    → (cond (eqb a.number 0) (run_outcome a v' d') (run_outcome a v d)).answer ≡ a
answer_kept a v d v' d' =
    cond_ind (λ (o : RunOutcome). o.answer ≡ a) (eqb a.number 0) (run_outcome a v' d') (run_outcome a v d) (λ _. refl)
    (λ _. refl)

small_by : (p : List ℕ) (v d : List Float) (r : Answer) → r ≡ refusal p v d → (r.number ≤ 4) × (r.place ≤ most_records)
small_by p v d r e =
    let s = refusal_small p v d in
    (omega (arith, ap (λ (a : Answer). a.number) e, s.0), omega (arith, ap (λ (a : Answer). a.place) e, s.1))

module _ {p : List ℕ} {v d : List Float} {r : Result (Unit {0}) RunRefusal} {v' d' : List Float} where
  pub evaluated_small : Evaluated p v d r v' d' → ((answer_in r).number ≤ 4) × ((answer_in r).place ≤ most_records)
  unfolding evaluated_within
  evaluated_small w =
      small_by p v d (answer_in r) (ap (λ (o : RunOutcome). o.answer) w.meets ∙ answer_kept (refusal p v d) v d _ _)

  pub started_small : Started p v d r v' d' → ((answer_in r).number ≤ 4) × ((answer_in r).place ≤ most_records)
  unfolding started_within
  started_small w =
      small_by p v d (answer_in r) (ap (λ (o : RunOutcome). o.answer) w.meets ∙ answer_kept (refusal p v d) v d _ _)

  pub stepped_small : (h : Float) → Stepped p h v d r v' d'
      → ((answer_in r).number ≤ 4) × ((answer_in r).place ≤ most_records)
  unfolding stepped_within
  stepped_small h w =
      small_by p v d (answer_in r) (ap (λ (o : RunOutcome). o.answer) w.meets ∙ answer_kept (refusal p v d) v d _ _)

-- ---- the same answer in its fixed layout
pub same_translation : (text f p f' p' : List ℕ) (r : Result ℕ Refusal) (v : CVerdict) → Translates text f p r f' p'
    → v.number ≡ number_in r → v.count ≡ count_in r
    → TranslatesFixed text f p v f' p'
same_translation text f p f' p' r v e n c = rw (n, c) (by_number text f p r e)

-- ---- names
pub names_small : (text f o f' o' : List ℕ) (r : Result ℕ Refusal) → NamesSlots text f o r f' o'
    → count_in r ≤ most_records
unfolding names_given
names_small text f o f' o' r e =
    let v = naming_of text (length f) (length o) in
    let same : count_in r ≡ count_naming v = ap (λ (x : NamesGiven). x.count) (names_by_number text f o r e) in
    omega (arith, same, naming_few text (length f) (length o))

pub same_names : (text f o f' o' : List ℕ) (r : Result ℕ Refusal) (v : CVerdict) → NamesSlots text f o r f' o'
    → v.number ≡ number_in r → v.count ≡ count_in r
    → NamesFixed text f o v f' o'
same_names text f o f' o' r v e n c = rw (n, c) (names_by_number text f o r e)
