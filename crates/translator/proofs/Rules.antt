-- When each number is given, exactly, and what is written with it.
use Prim.Native.Nat.{ℕ, zero, suc, ◌+◌, ◌/◌, ◌<◌}
use mathlib.Core.Path.{◌≡◌, refl, sym, ap, ◌∙◌}
use mathlib.Core.Bool.{Bool, true, false, cond, ◌||◌}
use mathlib.Core.Logic.{◌⊎◌, inl, inr, ⊎_elim}
use mathlib.Core.List.{List, [], ◌∷◌}
use native.Mathlib.Omega.{arith}
use borrow.Author.Tests.{lt-ltb, ltb-true}
use lib.Dec.{ltb}
use lib.ListN.{length, get_or, length-map}
use Rattle.laws.proofs.Tests.{not_both, cond_ind, or_true, lt_or_ge}
use Rattle.limits.specs.Limits.{fault_room, text_bytes, text_lines, most_statements, most_definitions, most_records}
use Rattle.limits.specs.Limits.{record_bytes}
use Rattle.deck.specs.Lines.{lines_of}
use Rattle.deck.specs.Reports.{report}
use Rattle.sheet.specs.Sheet.{Fault, said}
use Rattle.sheet.specs.Reader.{told, sheet_of, faults_of}
use Rattle.sheet.specs.Numbers.{statements_of}
use Rattle.blocks.specs.Members.{settings}
use Rattle.translator.specs.Verdict.{Decision, refused, faulty, translated, if_faults, decided_within, verdict_of}
use Rattle.translator.specs.Verdict.{verdict_within}
use Rattle.translator.specs.Verdict.{number_of}
use Rattle.translator.specs.Verdict.{faults_after, program_after, translation}
use Rattle.translator.specs.Rules.{records_of, model_faults_of, Reason, Exactly, Writes, room, bytes, lines}
use Rattle.translator.specs.Rules.{statements}
use Rattle.translator.specs.Rules.{statement_fault, definitions, model_fault, records}
use Rattle.translator.proofs.Given.{some, tests, number_first, NoneOrFirst, none_or_first}

-- ---- rules and tests

-- some fault stands
some_stands : (fs : List Fault) → (fs ≡ [] → ⊥) → some fs ≡ true
some_stands [] n = absurd (n refl)
some_stands (x ∷ fs) n = refl

-- and back
stands_some : (fs : List Fault) → some fs ≡ true → fs ≡ [] → ⊥
stands_some [] t e = not_both t refl
stands_some (x ∷ fs) t e = absurd (let z : ◌≡◌ {A = ℕ} 0 1 = cc in omega arith)

-- one of two tests
either : (a b : Bool) → (a ≡ true) ⊎ (b ≡ true) → (a || b) ≡ true
either true b h = refl
either false b (inl e) = absurd (not_both e refl)
either false b (inr e) = e

module _ (text : List ℕ) (f p : ℕ) where
  -- the test of a rule; there is none of 0
  abbrev test_of : ℕ → Bool
  test_of zero = false
  test_of (suc i) = get_or (tests text f p) i false

  -- as many reports as statements
  counted : length (sheet_of text) ≡ length (statements_of text)
  unfolding sheet_of
  counted = length-map (statements_of text) (report told)

  -- where a rule holds its test does
  to_test : (n : ℕ) → Reason text f p n → test_of n ≡ true
  to_test n (room h) = lt-ltb _ _ h
  to_test n (bytes h) = lt-ltb _ _ h
  to_test n (lines h) = lt-ltb _ _ h
  to_test n (statements h) = lt-ltb most_statements (length (sheet_of text)) (rw counted h)
  to_test n (statement_fault h) = some_stands (faults_of text) h
  to_test n (definitions h) = lt-ltb _ _ h
  to_test n (model_fault h) = some_stands (model_faults_of text) h
  to_test n (records h) =
      let rs = records_of text in
      either (ltb most_records (length rs)) (ltb (p / record_bytes) (length rs))
      (⊎_elim (λ a. inl (lt-ltb _ _ a)) (λ b. inr (lt-ltb _ _ b)) h)

  -- and back
  from_test : (n : ℕ) → test_of n ≡ true → Reason text f p n
  from_test zero t = absurd (not_both t refl)
  from_test (suc zero) t = room (ltb-true _ _ t)
  from_test (suc (suc zero)) t = bytes (ltb-true _ _ t)
  from_test (suc (suc (suc zero))) t = lines (ltb-true _ _ t)
  from_test (suc (suc (suc (suc zero)))) t = statements
      (rw counted at (ltb-true most_statements (length (sheet_of text)) t))
  from_test (suc (suc (suc (suc (suc zero))))) t = statement_fault (stands_some (faults_of text) t)
  from_test (suc (suc (suc (suc (suc (suc zero)))))) t = definitions (ltb-true _ _ t)
  from_test (suc (suc (suc (suc (suc (suc (suc zero))))))) t = model_fault (stands_some (model_faults_of text) t)
  from_test (suc (suc (suc (suc (suc (suc (suc (suc zero)))))))) t =
      let rs = records_of text in
      records
      (⊎_elim (λ a. inl (ltb-true most_records (length rs) a)) (λ b. inr (ltb-true (p / record_bytes) (length rs) b))
      (or_true (ltb most_records (length rs)) (ltb (p / record_bytes) (length rs)) t))
  from_test (suc (suc (suc (suc (suc (suc (suc (suc (suc n))))))))) t = absurd (not_both t refl)

  -- where every test fails no rule holds
  no_rule : ((i : ℕ) → get_or (tests text f p) i false ≡ false) → (m : ℕ) → Reason text f p m → ⊥
  no_rule none zero r = not_both (to_test 0 r) refl
  no_rule none (suc i) r = not_both (to_test (suc i) r) (none i)

  -- none before place i
  none_before : (i : ℕ) → ((j : ℕ) → j < i → get_or (tests text f p) j false ≡ false) → (m : ℕ) → m < suc i
      → Reason text f p m → ⊥
  none_before i none zero h r = not_both (to_test 0 r) refl
  none_before i none (suc j) h r = not_both (to_test (suc j) r) (none j (omega arith))

  -- EXACTLY WHEN
  pub exactly : Exactly text f p
  exactly = go (none_or_first 1 (tests text f p))
    where
      go : NoneOrFirst 1 (tests text f p) → Exactly text f p
      go (inl (e, none)) =
          let number = number_first text f p ∙ e in
          record {
            refused = λ n h. (λ q. absurd (omega arith), λ w. absurd (no_rule none n w.0));
            taken = (λ _. no_rule none, λ _. number);
          }
      go (inr (i, e, t, none)) =
          let number = number_first text f p ∙ e in
          let rule = from_test (suc i) t in
          let one : 1 + i ≡ suc i = omega arith in
          record {
            refused =
                λ n h. (
                  λ q.
                      let same : n ≡ suc i = sym q ∙ number ∙ one in
                      rw same (rule, none_before i none),
                  λ w.
                      number ∙ one
                      ∙ ⊎_elim (λ l. absurd (w.1 (suc i) l rule))
                      (λ g. ⊎_elim (λ l. absurd (none_before i none n l w.0)) (λ g'. omega arith)
                      (lt_or_ge n (suc i)))
                      (lt_or_ge (suc i) n),
                );
            taken = (λ z. absurd (omega arith), λ no. absurd (no (suc i) rule));
          }

-- ---- what is written
module _ (text f p : List ℕ) where
  -- of a verdict
  record Wrote (v : Decision) : Type 0 where
    zero_program : number_of v ≡ 0 → (ls : List ℕ) × (v ≡ translated (records_of text) ls)
    five : number_of v ≡ 5 → v ≡ faulty 5 (faults_of text)
    seven : number_of v ≡ 7 → v ≡ faulty 7 (model_faults_of text)
    no_list : (number_of v ≡ 5 → ⊥) → (number_of v ≡ 7 → ⊥) → faults_after v f ≡ f
    no_program : (number_of v ≡ 0 → ⊥) → program_after v p ≡ p

  -- a refusal with another number writes nothing
  wrote_refused : (n : ℕ) → (n ≡ 0 → ⊥) → (n ≡ 5 → ⊥) → (n ≡ 7 → ⊥) → Wrote (refused n)
  wrote_refused n z a b =
      record {
        zero_program = λ e. absurd (z e);
        five = λ e. absurd (a e);
        seven = λ e. absurd (b e);
        no_list = λ _ _. refl;
        no_program = λ _. refl;
      }

  -- 5 lists the statement faults
  wrote_five : (fs : List Fault) (v : Decision) → faults_of text ≡ fs → Wrote v → Wrote (if_faults 5 fs v)
  wrote_five [] v e t = t
  wrote_five (x ∷ fs) v e t =
      record {
        zero_program = λ z. absurd (omega arith);
        five = λ _. ap (faulty 5) (sym e);
        seven = λ z. absurd (omega arith);
        no_list = λ a _. absurd (a refl);
        no_program = λ _. refl;
      }

  -- 7 the model faults
  wrote_seven : (fs : List Fault) (v : Decision) → model_faults_of text ≡ fs → Wrote v → Wrote (if_faults 7 fs v)
  wrote_seven [] v e t = t
  wrote_seven (x ∷ fs) v e t =
      record {
        zero_program = λ z. absurd (omega arith);
        five = λ z. absurd (omega arith);
        seven = λ _. ap (faulty 7) (sym e);
        no_list = λ _ a. absurd (a refl);
        no_program = λ _. refl;
      }

  -- a test and what follows it
  wrote_test : (b : Bool) (n : ℕ) (v : Decision) → (n ≡ 0 → ⊥) → (n ≡ 5 → ⊥) → (n ≡ 7 → ⊥) → Wrote v
      → Wrote (cond b (refused n) v)
  wrote_test b n v z a c t = cond_ind Wrote b (refused n) v (λ _. wrote_refused n z a c) (λ _. t)

  -- a program
  wrote_translated : (ls : List ℕ) → Wrote (translated (records_of text) ls)
  wrote_translated ls =
      record {
        zero_program = λ _. (ls, refl);
        five = λ z. absurd (omega arith);
        seven = λ z. absurd (omega arith);
        no_list = λ _ _. refl;
        no_program = λ a. absurd (a refl);
      }

  -- so it is with every verdict
  wrote_all : Wrote (verdict_of text (length f) (length p))
  unfolding verdict_within decided_within
  wrote_all =
      let ss = said (sheet_of text) in
      let rs = records_of text in
      wrote_test (ltb (length f) fault_room) 1 _ (λ e. omega arith) (λ e. omega arith) (λ e. omega arith)
      (wrote_test (ltb text_bytes (length text)) 2 _ (λ e. omega arith) (λ e. omega arith) (λ e. omega arith)
      (wrote_test (ltb text_lines (length (lines_of text))) 3 _ (λ e. omega arith) (λ e. omega arith) (λ e. omega arith)
      (wrote_test (ltb most_statements (length (sheet_of text))) 4 _ (λ e. omega arith) (λ e. omega arith)
      (λ e. omega arith)
      (wrote_five (faults_of text) _ refl
      (wrote_test (ltb most_definitions (length (settings ss))) 6 _ (λ e. omega arith) (λ e. omega arith)
      (λ e. omega arith)
      (wrote_seven (model_faults_of text) _ refl
      (wrote_test (ltb most_records (length rs) || ltb (length p / record_bytes) (length rs)) 8 _ (λ e. omega arith)
      (λ e. omega arith) (λ e. omega arith) (wrote_translated _))))))))

  -- WRITES ONLY WHAT IS NAMED
  pub writes : Writes text f p
  unfolding translation
  writes =
      let t = wrote_all in
      record {
        zero_program = λ z. rw (t.zero_program z).1 (refl, refl);
        five = λ z. rw (t.five z) (refl, refl);
        seven = λ z. rw (t.seven z) (refl, refl);
        no_list = t.no_list;
        no_program = t.no_program;
      }
