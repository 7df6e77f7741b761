-- The records of a program, each with its bytes: what they hold, what a program made of them holds, and a program made
-- of them in another order.
use Prim.Native.Nat.{ℕ, zero, suc, ◌+◌, ◌*◌, ◌/◌, ◌≤◌, ◌<◌}
use mathlib.Core.Path.{◌≡◌, refl, sym, ap, ap₂, subst, ◌∙◌}
use mathlib.Core.Bool.{Bool, false}
use mathlib.Core.List.{List, [], ◌∷◌, ◌++◌, map, append_assoc}
use native.Mathlib.Omega.{arith}
use lib.Dec.{lit<}
use lib.ListN.{length, get_or, take, drop, length-append, length-map, length-drop}
use lib.Seq.{get_or-take, get_or-drop, take-nil, take-take, drop-drop, take_at, drop-append_seam, length-take-le}
use Rattle.limits.specs.Limits.{slots, record_bytes}
use Rattle.laws.specs.Every.{Every}
use Rattle.laws.specs.Lists.{concat_map, numbers}
use Rattle.laws.proofs.Every.{every_mapped}
use Rattle.bits.specs.Low.{low_word}
use Rattle.order.specs.Order.{Permutation}
use Rattle.records.specs.declared.Instr.{Instr}
use Rattle.records.specs.declared.Instr.TheVariants.{Constant, Initial, Value, Slot, Add, Sub, Mul, Div}
use Rattle.records.specs.declared.Instr.TheVariants.{Neg, Insw, Limit, Compar, Store, Deriv, StoreAgain, Bad}
use Rattle.records.specs.Record.{field, decode_at, decode_at_within, decode_from, decode_from_within, decoded}
use Rattle.records.specs.Record.{decoded_within}
use Rattle.records.specs.Shape.{shape_of}
use Rattle.evaluator.specs.Judge.{Answer}
use Rattle.evaluator.specs.Judge.{answer, judge}
use Rattle.evaluator.proofs.EntryAnswers.{by_judge, answers_zero}
use Rattle.meaning.specs.Faithful.{Accepted}
use Rattle.meaning.specs.ReSorted.{stands_first, ends_statement, NotAgain, records_in, instr_in, cut_statements}
use Rattle.meaning.specs.ReSorted.{re_sorted, NoAgain, ReSorts}
use Rattle.meaning.proofs.SetApart.{stores_again, NoneAgain}
use Rattle.meaning.proofs.Cut.{parts, moved, moved_every, moved_length, parts_mapped, moved_mapped}
use Rattle.meaning.proofs.ReSorted.{moved_alike}

-- ---- one record, cut out of a program

-- what stands behind the first k of a front
drop_take : {A : Type 0} (k n : ℕ) (l : List A) → drop k (take (k + n) l) ≡ take n (drop k l)
drop_take zero n l = let e : 0 + n ≡ n = omega arith in rw e
drop_take (suc k) n [] = let e : suc k + n ≡ suc (k + n) = omega arith in rw e (sym (take-nil n))
drop_take (suc k) n (a ∷ l) = let e : suc k + n ≡ suc (k + n) = omega arith in rw e (drop_take k n l)

module _ (p : List ℕ) (o : ℕ) where
  -- its bytes
  abbrev cut : List ℕ
  cut = take record_bytes (drop o p)

  -- a byte of it
  byte_cut : (i : ℕ) → i < record_bytes → get_or p (o + i) 0 ≡ get_or cut i 0
  byte_cut i h = sym (get_or-take record_bytes (drop o p) i 0 h ∙ get_or-drop o p i 0)

  -- n bytes of it from byte a on, with k behind them
  field_cut : (a n k : ℕ) → a + (n + k) ≡ record_bytes → field p (o + a) n ≡ field cut a n
  field_cut a n k e =
      let rest = drop a (drop o p) in
      let tail : drop a cut ≡ take (n + k) rest =
      ap (λ m. drop a (take m (drop o p))) (sym e) ∙ drop_take a (n + k) (drop o p) in
      let same : take n (drop a cut) ≡ take n (drop (o + a) p) =
      ap (take n) tail ∙ take-take n (n + k) rest (omega arith) ∙ ap (take n) (drop-drop a o p) in
      ap low_word (sym same)

  -- it holds what the program holds there
  record_cut : decode_at p o ≡ instr_in cut
  unfolding decode_at_within
  record_cut =
      let e : o ≡ o + 0 = omega arith in
      let kind : get_or p o 0 ≡ get_or cut 0 0 = ap (λ i. get_or p i 0) e ∙ byte_cut 0 (lit< tt) in
      rw (kind, byte_cut 1 (lit< tt), field_cut 2 2 12 refl, field_cut 8 8 0 refl)

-- as many numbers as were asked for
length_numbers : (k i : ℕ) → length (numbers k i) ≡ k
unfolding numbers
length_numbers zero i = refl
length_numbers (suc k) i = ap suc (length_numbers k (suc i))

-- ---- all records of a program

-- k records from record i on
abbrev records_from : List ℕ → ℕ → ℕ → List (List ℕ)
records_from p i k = map (λ (i : ℕ). take record_bytes (drop (i * record_bytes) p)) (numbers k i)

-- they hold its instructions
instrs_from : (p : List ℕ) (i k : ℕ) → map instr_in (records_from p i k) ≡ decode_from p i k
unfolding numbers decode_from_within
instrs_from p i zero = refl
instrs_from p i (suc k) = ap₂ ◌∷◌ (sym (record_cut p (i * record_bytes))) (instrs_from p (suc i) k)

instrs_in : (p : List ℕ) → map instr_in (records_in p) ≡ decoded p
unfolding decoded_within
instrs_in p = instrs_from p 0 (length p / record_bytes)

-- a record has all its bytes
abbrev Whole : List ℕ → Type 0
Whole r = length r ≡ record_bytes

-- so has each of them
whole_from : (p : List ℕ) (i k : ℕ) → (i + k) * record_bytes ≤ length p → Every Whole (records_from p i k)
unfolding numbers
whole_from p i zero h = tt
whole_from p i (suc k) h = (
  length-take-le record_bytes (drop (i * record_bytes) p) (omega (arith, length-drop (i * record_bytes) p)),
  whole_from p (suc i) k (omega arith),
)

whole_in : (p : List ℕ) → Every Whole (records_in p)
whole_in p = whole_from p 0 (length p / record_bytes) (omega arith)

-- ---- a program made of records
abbrev joined : List (List ℕ) → List ℕ
joined rs = concat_map (λ (r : List ℕ). r) rs

joined_length : (rs : List (List ℕ)) → Every Whole rs → length (joined rs) ≡ length rs * record_bytes
unfolding concat_map
joined_length [] h = refl
joined_length (r ∷ rs) h = omega (arith, length-append r (joined rs), h.0, joined_length rs h.1)

-- it holds what they hold: behind i records
joined_from : (before : List ℕ) (i : ℕ) (rs : List (List ℕ)) → length before ≡ i * record_bytes → Every Whole rs
    → decode_from (before ++ joined rs) i (length rs) ≡ map instr_in rs
unfolding decode_from_within concat_map
joined_from before i [] e h = refl
joined_from before i (r ∷ rs) e h =
    let all = before ++ (r ++ joined rs) in
    let at : take record_bytes (drop (i * record_bytes) all) ≡ r =
    ap (take record_bytes) (ap (λ n. drop n all) (sym e) ∙ drop-append_seam before (r ++ joined rs))
    ∙ take_at r (joined rs) record_bytes h.0 in
    let next : length (before ++ r) ≡ suc i * record_bytes = omega (arith, length-append before r, h.0) in
    ap₂ ◌∷◌ (record_cut all (i * record_bytes) ∙ ap instr_in at)
    (ap (λ (l : List ℕ). decode_from l (suc i) (length rs)) (sym (append_assoc before r (joined rs)))
    ∙ joined_from (before ++ r) (suc i) rs next h.1)

-- and from the beginning
joined_back : (rs : List (List ℕ)) → Every Whole rs → decoded (joined rs) ≡ map instr_in rs
unfolding decoded_within
joined_back rs h =
    let e : length (joined rs) / record_bytes ≡ length rs = omega (arith, joined_length rs h) in
    rw e (joined_from [] 0 rs refl h)

-- ---- a program that is accepted

-- what is not of kind 15 does not store again
not_again : (x : Instr) → NotAgain x → stores_again (shape_of x) ≡ false
not_again (Constant s x) n = refl
not_again (Initial s x) n = refl
not_again (Value x) n = refl
not_again (Slot s) n = refl
not_again Add n = refl
not_again Sub n = refl
not_again Mul n = refl
not_again Div n = refl
not_again Neg n = refl
not_again Insw n = refl
not_again Limit n = refl
not_again Compar n = refl
not_again (Store s) n = refl
not_again (Deriv s) n = refl
not_again (StoreAgain s) n = absurd (n refl)
not_again Bad n = refl

-- ---- re-sorted
module _ (p q : List ℕ) (taken : Accepted p) (kinds : NoAgain p) (once : Permutation (length (cut_statements p)) q)
    (judged : judge (decoded (re_sorted q p)) ≡ answer 0 0) where
  abbrev rs : List (List ℕ)
  rs = records_in p

  -- the tests of records
  abbrev kept : List ℕ → Bool
  kept r = stands_first (instr_in r)

  abbrev last : List ℕ → Bool
  last r = ends_statement (instr_in r)

  -- its records
  abbrev sorted_records : List (List ℕ)
  sorted_records = moved kept last q rs

  whole : Every Whole sorted_records
  whole = moved_every kept last Whole q rs (whole_in p)

  -- it holds the instructions in that order
  sorted : decoded (re_sorted q p) ≡ moved stands_first ends_statement q (decoded p)
  unfolding re_sorted
  sorted =
      joined_back sorted_records whole
      ∙ sym (moved_mapped stands_first ends_statement instr_in q rs)
      ∙ ap (moved stands_first ends_statement q) (instrs_in p)

  -- each statement once
  parts_once : Permutation (length (parts stands_first ends_statement (decoded p))) q
  parts_once =
      let e : length (parts stands_first ends_statement (decoded p)) ≡ length (cut_statements p) =
      ap (λ (xs : List Instr). length (parts stands_first ends_statement xs)) (sym (instrs_in p))
      ∙ ap length (parts_mapped stands_first ends_statement instr_in rs)
      ∙ length-map (cut_statements p) (map instr_in) in
      subst (λ n. Permutation n q) (sym e) once

  -- none stores again
  none_again : NoneAgain (decoded p)
  none_again =
      subst NoneAgain (instrs_in p)
      (every_mapped (λ (r : List ℕ). NotAgain (instr_in r)) (λ (x : Instr). stores_again (shape_of x) ≡ false) instr_in
      (λ r h. not_again (instr_in r) h) rs kinds)

  -- it is as long
  as_long : length (re_sorted q p) ≡ length p / record_bytes * record_bytes
  unfolding re_sorted
  as_long =
      joined_length sorted_records whole
      ∙ ap (λ n. n * record_bytes)
      (moved_length kept last q rs once ∙ length-map (numbers (length p / record_bytes) 0) _
      ∙ length_numbers (length p / record_bytes) 0)

  -- and so is accepted
  accepted : Accepted (re_sorted q p)
  accepted v d h =
      let zero = answers_zero slots p v d (ap (λ (a : Answer). a.number) (taken v d h)) in
      let few = zero.few in
      let n = as_long in
      sym (by_judge (re_sorted q p) v d (answer 0 0) h.values h.derivs (omega arith) (sym judged) (omega arith))

  -- RE-SORTED
  pub re_sorted_holds : ReSorts p q
  re_sorted_holds =
      record {
        accepted = accepted;
        alike = moved_alike p (re_sorted q p) q sorted parts_once none_again taken accepted;
      }
