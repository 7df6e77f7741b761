-- When each verdict is given: within the sizes, 5 for a statement fault, 7 for a model fault, and the program's else.
use Prim.Native.Nat.{ℕ, zero, suc, ◌+◌, ◌/◌, ◌≤◌, ◌<◌}
use mathlib.Core.Path.{◌≡◌, refl, sym, ap, ◌∙◌}
use mathlib.Core.Logic.{◌⊎◌, inl, inr, ⊎_elim, ◌↔◌}
use mathlib.Core.Bool.{Bool, true, false, cond, ◌||◌}
use mathlib.Core.List.{List, [], ◌∷◌, map}
use native.Mathlib.Omega.{arith}
use borrow.Author.Tests.{le-ltb}
use lib.Dec.{ltb}
use lib.ListN.{length, get_or}
use Rattle.laws.proofs.Tests.{cond_ind}
use Rattle.limits.specs.Limits.{fault_room, text_bytes, text_lines, most_statements, most_definitions, most_records}
use Rattle.limits.specs.Limits.{record_bytes}
use Rattle.deck.specs.Lines.{lines_of}
use Rattle.sheet.specs.Sheet.{Numbered, Fault, said}
use Rattle.sheet.specs.Reader.{sheet_of, faults_of, Faulted}
use Rattle.blocks.specs.Units.{stated_in}
use Rattle.blocks.specs.Inside.{block_faults}
use Rattle.blocks.specs.Members.{settings, units_of}
use Rattle.model.specs.Definitions.{definitions}
use Rattle.model.specs.Faults.{faults21, name_faults, faults24, model_faults, GoodOrder, order_of}
use Rattle.model.specs.Text.{text_units, line_at, model_faults_in}
use Rattle.model.specs.Orders.{NoOrder}
use Rattle.model.proofs.NoModelFault.{order_good}
use Rattle.model.proofs.Orders.{no_loops}
use Rattle.records.specs.Record.{Rec}
use Rattle.program.specs.Program.{program}
use Rattle.translator.specs.Verdict.{Decision, refused, faulty, translated, if_faults, fitted, programmed}
use Rattle.translator.specs.Verdict.{modelled, decided, decided_within, verdict_of, verdict_within, number_of}
use Rattle.translator.specs.Refusals.{Admitted, Unrefused}

-- a test that would give another number fails
pub not_given : (n : ℕ) (b : Bool) (v : Decision) → (number_of (cond b (refused n) v) ≡ n → ⊥) → b ≡ false
not_given n true v h = absurd (h refl)
not_given n false v h = refl

module _ (text : List ℕ) (f p : ℕ) (room : fault_room ≤ f) (ok : Admitted (verdict_of text f p)) where
  -- not 1: so the verdict is found by the text's size
  roomy : verdict_of text f p
      ≡ cond (ltb text_bytes (length text)) (refused 2)
      (cond (ltb text_lines (length (lines_of text))) (refused 3) (decided p (sheet_of text)))
  unfolding verdict_within
  roomy = rw (le-ltb f fault_room room)

  -- not 2, 3 or 4: so it is within all three sizes
  pub sizes : (ltb text_bytes (length text) ≡ false) × (ltb text_lines (length (lines_of text)) ≡ false)
      × (ltb most_statements (length (sheet_of text)) ≡ false)
  unfolding decided_within
  sizes =
      let bytes = not_given 2 (ltb text_bytes (length text)) _ (λ e. ok.not_two (ap number_of roomy ∙ e)) in
      let a = rw bytes at roomy in
      let lines = not_given 3 (ltb text_lines (length (lines_of text))) _ (λ e. ok.not_three (ap number_of a ∙ e)) in
      let b = rw lines at a in (
        bytes,
        lines,
        not_given 4 (ltb most_statements (length (sheet_of text))) _
            (λ e. ok.not_four (ap number_of b ∙ e)),
      )

  -- and is 5 where a statement fault stands, else found by the model
  pub by_faults : verdict_of text f p ≡ if_faults 5 (faults_of text) (modelled p (said (sheet_of text)))
  unfolding decided_within
  by_faults = roomy ∙ rw (sizes.0, sizes.1, sizes.2)

  -- so it is 5 with the list of them all where one stands
  pub is_five : Faulted text → verdict_of text f p ≡ faulty 5 (faults_of text)
  is_five w = by_faults ∙ given (faults_of text) (modelled p (said (sheet_of text))) w
    where
      given : (fs : List Fault) (v : Decision) → (fs ≡ [] → ⊥) → if_faults 5 fs v ≡ faulty 5 fs
      given [] v n = absurd (n refl)
      given (x ∷ fs) v n = refl

-- the model gives no 5
model_number : (room : ℕ) (ss : List Numbered) → number_of (modelled room ss) ≡ 5 → ⊥
model_number room ss =
    let us = units_of ss in
    let rs = program us (order_of us) in
    let Other : Decision → Type 0 = λ (v : Decision). number_of v ≡ 5 → ⊥ in
    cond_ind Other (ltb most_definitions (length (settings ss))) (refused 6) _ (λ _ e. omega arith)
    (λ _. given (model_faults_in ss) _
    (cond_ind Other (ltb most_records (length rs) || ltb (room / record_bytes) (length rs)) (refused 8) _
    (λ _ e. omega arith) (λ _ e. omega arith)))
  where
    given : (fs : List Fault) (v : Decision) → (number_of v ≡ 5 → ⊥) → number_of (if_faults 7 fs v) ≡ 5 → ⊥
    given [] v h e = h e
    given (x ∷ fs) v h e = omega arith

-- so 5 is given exactly if a statement fault stands, of a text that is not refused for its size
pub five_exactly : (text : List ℕ) (f p : ℕ) → fault_room ≤ f → Admitted (verdict_of text f p)
    → (number_of (verdict_of text f p) ≡ 5) ↔ Faulted text
five_exactly text f p room ok =
    let ss = said (sheet_of text) in
    let none : faults_of text ≡ [] → verdict_of text f p ≡ modelled p ss =
    λ z. by_faults text f p room ok ∙ ap (λ (fs : List Fault). if_faults 5 fs (modelled p ss)) z in
    (λ e z. model_number p ss (sym (ap number_of (none z)) ∙ e), λ w. ap number_of (is_five text f p room ok w))

-- ---- whatever the text: refused with a number that is not 0; faulty with some fault; or translated
module _ (P : Decision → Type 0) (refuses : (n : ℕ) → 0 < n → P (refused n))
    (faults : (n : ℕ) (x : Fault) (xs : List Fault) → 0 < n → P (faulty n (x ∷ xs))) where
  -- a test and what follows it
  test_ind : (b : Bool) (n : ℕ) (v : Decision) → 0 < n → P v → P (cond b (refused n) v)
  test_ind b n v z h = cond_ind P b (refused n) v (λ _. refuses n z) (λ _. h)

  -- faults and what follows them
  faults_ind : (n : ℕ) (fs : List Fault) (v : Decision) → 0 < n → P v → P (if_faults n fs v)
  faults_ind n [] v z h = h
  faults_ind n (x ∷ xs) v z h = faults n x xs z

  -- the sizes and what follows them
  sizes_ind : (text : List ℕ) (f p : ℕ)
      → P (if_faults 5 (faults_of text) (modelled p (said (sheet_of text)))) → P (verdict_of text f p)
  unfolding verdict_within decided_within
  sizes_ind text f p h =
      test_ind (ltb f fault_room) 1 _ (omega arith)
      (test_ind (ltb text_bytes (length text)) 2 _ (omega arith)
      (test_ind (ltb text_lines (length (lines_of text))) 3 _ (omega arith)
      (test_ind (ltb most_statements (length (sheet_of text))) 4 _ (omega arith) h)))

  -- what holds of each of them holds of every text's verdict
  pub verdict_ind : (text : List ℕ) (f p : ℕ)
      → P
      (translated (program (text_units text) (order_of (text_units text)))
      (map (line_at (text_units text)) (order_of (text_units text))))
      → P (verdict_of text f p)
  verdict_ind text f p h =
      let ss = said (sheet_of text) in
      let rs = program (units_of ss) (order_of (units_of ss)) in
      sizes_ind text f p
      (faults_ind 5 (faults_of text) _ (omega arith)
      (test_ind (ltb most_definitions (length (settings ss))) 6 _ (omega arith)
      (faults_ind 7 (model_faults_in ss) _ (omega arith)
      (test_ind (ltb most_records (length rs) || ltb (p / record_bytes) (length rs)) 8 _ (omega arith) h))))

  -- .. and of a text with a statement fault, which is not translated
  pub faulted_ind : (text : List ℕ) (f p : ℕ) → Faulted text → P (verdict_of text f p)
  faulted_ind text f p w = sizes_ind text f p (given (faults_of text) _ w)
    where
      given : (fs : List Fault) (v : Decision) → (fs ≡ [] → ⊥) → P (if_faults 5 fs v)
      given [] v n = absurd (n refl)
      given (x ∷ xs) v n = faults 5 x xs (omega arith)

-- ---- the verdict, by the faults 24 alone

-- not given for its faults: there are none, and the next is given
no_faults_given : (n : ℕ) (fs : List Fault) (v : Decision) → (number_of (if_faults n fs v) ≡ n → ⊥)
    → if_faults n fs v ≡ v
no_faults_given n [] v h = refl
no_faults_given n (x ∷ fs) v h = absurd (h refl)

module _ (text : List ℕ) (f p : ℕ) (w : Unrefused text f p) where
  -- not 5 and not 6: so it is 7 where a model fault stands
  by_model : verdict_of text f p ≡ if_faults 7 (model_faults_in (said (sheet_of text))) (programmed p (text_units text))
  by_model =
      let a = by_faults text f p w.room w.size in
      let next = modelled p (said (sheet_of text)) in
      let b = a ∙ no_faults_given 5 (faults_of text) next (λ e. w.not_five (ap number_of a ∙ e)) in
      let over = ltb most_definitions (length (settings (said (sheet_of text)))) in
      let c = not_given 6 over _ (λ e. w.not_six (ap number_of b ∙ e)) in
      rw c at b

  -- no 25, no 26, no 21, no 22 and no 23: so it is 7 where a 24 stands, and else the program's
  by_loops : verdict_of text f p ≡ if_faults 7 (faults24 (text_units text)) (programmed p (text_units text))
  unfolding model_faults
  by_loops = by_model ∙ rw (w.no_block, w.no_double, w.no_nameless)

-- a program's verdict is 0 or 8
pub fitted_number : (room : ℕ) (rs : List Rec) (ls : List ℕ) → number_of (fitted room rs ls) ≡ 7 → ⊥
fitted_number room rs ls =
    cond_ind (λ (v : Decision). number_of v ≡ 7 → ⊥)
    (ltb most_records (length rs) || ltb (room / record_bytes) (length rs)) (refused 8) (translated rs ls)
    (λ _ e. omega arith) (λ _ e. omega arith)

-- ---- with an order or without

-- no earlier refusal where the number is 0 or 7 and there is no fault 25, 26, 21, 22 or 23
pub unrefused : (text : List ℕ) (f p : ℕ) → fault_room ≤ f
    → (number_of (verdict_of text f p) ≡ 0) ⊎ (number_of (verdict_of text f p) ≡ 7)
    → block_faults (said (sheet_of text)) ≡ [] → faults21 [] (stated_in (text_units text)) ≡ []
    → name_faults (definitions (text_units text)) (text_units text) ≡ []
    → Unrefused text f p
unrefused text f p room c unblocked doubles nameless =
    let other : (k : ℕ) → 0 < k → k < 7 → number_of (verdict_of text f p) ≡ k → ⊥ =
    λ k a b h. ⊎_elim (λ z. omega arith) (λ z. omega arith) c in
    record {
      room = room;
      size =
          record {
            not_two = other 2 (omega arith) (omega arith);
            not_three = other 3 (omega arith) (omega arith);
            not_four = other 4 (omega arith) (omega arith);
          };
      not_five = other 5 (omega arith) (omega arith);
      not_six = other 6 (omega arith) (omega arith);
      no_block = unblocked;
      no_double = doubles;
      no_nameless = nameless;
    }

-- faults stand, or none do
some_or_none : (fs : List Fault) → ((n : ℕ) (v : Decision) → if_faults n fs v ≡ faulty n fs) ⊎ (fs ≡ [])
some_or_none [] = inr refl
some_or_none (x ∷ fs) = inl (λ n v. refl)

module _ (text : List ℕ) (f p : ℕ) (w : Unrefused text f p) where
  -- without an order 24 stands
  pub unordered : NoOrder (text_units text) → verdict_of text f p ≡ faulty 7 (faults24 (text_units text))
  unordered none =
      let us = text_units text in
      by_loops text f p w
      ∙ ⊎_elim (λ g. g 7 (programmed p us)) (λ e. absurd (none (order_of us) (order_good us e)))
      (some_or_none (faults24 us))

  -- with one the program is written in the first
  pub in_order_holds : (r : List ℕ) → GoodOrder (text_units text) r
      → verdict_of text f p ≡ programmed p (text_units text)
  in_order_holds r g = by_loops text f p w ∙ rw (no_loops (text_units text) r g)

-- ---- the number of a verdict is that of the first test that holds

-- numbered from n on; 0 if none holds
unfoldable pub first_from : ℕ → List Bool → ℕ
first_from n [] = 0
first_from n (b ∷ bs) =
    let r = first_from (suc n) bs in
    cond b n r

-- some fault stands
abbrev pub some : List Fault → Bool
some [] = false
some (x ∷ fs) = true

-- the tests, in their order
abbrev pub tests : List ℕ → ℕ → ℕ → List Bool
tests text f p =
    let rs = program (text_units text) (order_of (text_units text)) in
    ltb f fault_room ∷ ltb text_bytes (length text) ∷ ltb text_lines (length (lines_of text))
    ∷ ltb most_statements (length (sheet_of text)) ∷ some (faults_of text)
    ∷ ltb most_definitions (length (settings (said (sheet_of text)))) ∷ some (model_faults_in (said (sheet_of text)))
    ∷ (ltb most_records (length rs) || ltb (p / record_bytes) (length rs)) ∷ []

-- a test and what follows it
number_test : (b : Bool) (n : ℕ) (v : Decision) (bs : List Bool) → number_of v ≡ first_from (suc n) bs
    → number_of (cond b (refused n) v) ≡ first_from n (b ∷ bs)
unfolding first_from
number_test true n v bs e = refl
number_test false n v bs e = e

-- faults and what follows them
number_faults : (fs : List Fault) (n : ℕ) (v : Decision) (bs : List Bool) → number_of v ≡ first_from (suc n) bs
    → number_of (if_faults n fs v) ≡ first_from n (some fs ∷ bs)
unfolding first_from
number_faults [] n v bs e = e
number_faults (x ∷ fs) n v bs e = refl

-- behind the last
no_test : (n : ℕ) → 0 ≡ first_from n []
unfolding first_from
no_test n = refl

-- all of them
pub number_first : (text : List ℕ) (f p : ℕ) → number_of (verdict_of text f p) ≡ first_from 1 (tests text f p)
unfolding verdict_within decided_within
number_first text f p =
    number_test (ltb f fault_room) 1 _ _
    (number_test (ltb text_bytes (length text)) 2 _ _
    (number_test (ltb text_lines (length (lines_of text))) 3 _ _
    (number_test (ltb most_statements (length (sheet_of text))) 4 _ _
    (number_faults (faults_of text) 5 _ _
    (number_test (ltb most_definitions (length (settings (said (sheet_of text))))) 6 _ _
    (number_faults (model_faults_in (said (sheet_of text))) 7 _ _ (number_test _ 8 _ [] (no_test 9))))))))

-- none holds, or the one at place i does and none before it
abbrev pub NoneOrFirst : ℕ → List Bool → Type 0
NoneOrFirst n bs =
    ((first_from n bs ≡ 0) × ((i : ℕ) → get_or bs i false ≡ false))
    ⊎ ((i : ℕ) × (first_from n bs ≡ n + i) × (get_or bs i false ≡ true) × ((j : ℕ) → j < i → get_or bs j false ≡ false))

-- one test more in front, which fails
fails_first : (n : ℕ) (bs : List Bool) → NoneOrFirst (suc n) bs → NoneOrFirst n (false ∷ bs)
unfolding first_from
fails_first n bs (inl (e, none)) = inl (e, past)
  where
    past : (i : ℕ) → get_or (false ∷ bs) i false ≡ false
    past zero = refl
    past (suc i) = none i
fails_first n bs (inr (i, e, holds, none)) = inr (suc i, omega (arith, e), holds, past)
  where
    past : (j : ℕ) → j < suc i → get_or (false ∷ bs) j false ≡ false
    past zero h = refl
    past (suc j) h = none j (omega arith)

-- so it is with every list of tests
pub none_or_first : (n : ℕ) (bs : List Bool) → NoneOrFirst n bs
unfolding first_from
none_or_first n [] = inl (refl, λ i. refl)
none_or_first n (true ∷ bs) = inr (0, omega arith, refl, λ j h. absurd (omega arith))
none_or_first n (false ∷ bs) = fails_first n bs (none_or_first (suc n) bs)
