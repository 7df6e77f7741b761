-- How large a count is: at most one fault for each statement, so that the list holds them all, no more records than
-- there may be, and no more ordered units.
use Prim.Native.Nat.{ℕ, zero, suc, ◌+◌, ◌/◌, ◌≤◌}
use mathlib.Core.Path.{◌≡◌, refl, ap}
use mathlib.Core.Bool.{Bool, true, false, not, ◌||◌}
use mathlib.Core.List.{List, [], ◌∷◌, ◌++◌, map}
use native.Mathlib.Omega.{arith}
use borrow.Author.Tests.{ltb-false}
use lib.Dec.{ltb}
use lib.ListN.{length, length-append, length-map}
use Rattle.limits.specs.Limits.{most_statements, most_definitions, most_records, record_bytes, fault_room, text_bytes}
use Rattle.limits.specs.Limits.{text_lines}
use Rattle.laws.specs.Lists.{concat_map, numbers}
use Rattle.laws.proofs.Bools.{or_false}
use Rattle.laws.proofs.Tests.{cond_ind}
use Rattle.deck.specs.Lines.{lines_of}
use Rattle.deck.specs.declared.Spot.{Spot}
use Rattle.drafts.specs.Tree.{Says, constants as constants_said, assignment as assignment_said, state as state_said}
use Rattle.drafts.specs.Tree.{header, ending}
use Rattle.drafts.specs.Kinds.{writes}
use Rattle.sheet.specs.Sheet.{Told, says, faulty, Sheet, Numbered, Fault, said, said_by, fault_by, statement_faults}
use Rattle.sheet.specs.Reader.{sheet_of}
use Rattle.order.specs.Greedy.{order}
use Rattle.order.specs.Order.{unsortable}
use Rattle.order.proofs.Sorting.{place_length}
use Rattle.blocks.specs.Units.{Single, constants, assignment, state, UnitBody, single, block, TextUnit, Stated}
use Rattle.blocks.specs.Units.{stated_by, stated_in, unit_of_one, order_unit_of}
use Rattle.blocks.specs.Tests.{fault_if, or_else, again, within}
use Rattle.blocks.specs.Pairing.{Pair, bracket_of, unpaired, faults25_from, pairs, brackets, faults25}
use Rattle.blocks.specs.Inside.{head_wrong, inner_right, Standing, outer, enclosed, set_inside, inner_fault, fault26}
use Rattle.blocks.specs.Inside.{standing_next, free_known, faults26_from, faults26, block_faults}
use Rattle.blocks.specs.Members.{settings, units_of}
use Rattle.blocks.proofs.StatedFew.{stated_few}
use Rattle.model.specs.Definitions.{Def, keys, defined_by, definitions, unit_at, unit_count}
use Rattle.model.specs.Faults.{faults21, named_by, initial_of, outside_keys, constant_keys, name_fault, name_fault_of}
use Rattle.model.specs.Faults.{name_faults, uses_in, fault24, faults24, model_faults, order_of}
use Rattle.model.specs.Text.{model_faults_in}
use Rattle.records.specs.Record.{Rec}
use Rattle.program.specs.Program.{program}
use Rattle.program.specs.Written.{record_count}
use Rattle.translator.specs.Verdict.{Decision, refused, if_faults, fitted, modelled, decided, decided_within}
use Rattle.translator.specs.Verdict.{verdict_of, verdict_within, count_of}
use Rattle.translator.specs.Verdict.{faulty as flawed, translated}
use Rattle.translator.specs.Contract.{lines_in}

-- at most one for each element
pub concat_few : {A B : Type 0} (f : A → List B) → ((a : A) → length (f a) ≤ 1) → (l : List A)
    → length (concat_map f l) ≤ length l
unfolding concat_map
concat_few f h [] = omega arith
concat_few f h (a ∷ l) = omega (arith, h a, concat_few f h l, length-append (f a) (concat_map f l))

-- ---- the model's faults
one_if : (b : Bool) (l c : ℕ) → length (fault_if b l c) ≤ 1
one_if true l c = omega arith
one_if false l c = omega arith

doubles_few : (seen : List ℕ) (ts : List Stated) → length (faults21 seen ts) ≤ length ts
unfolding faults21
doubles_few seen [] = omega arith
doubles_few seen (t ∷ ts) =
    let ks = keys (defined_by t.line t.stood) in
    let more = faults21 (seen ++ ks) ts in
    omega (
      arith,
      one_if (again seen ks) t.line 21,
      doubles_few (seen ++ ks) ts,
      length-append (fault_if (again seen ks) t.line 21) more,
    )

names_few : (ds : List Def) (us : List TextUnit) → length (name_faults ds us) ≤ length us
names_few ds us =
    concat_few (name_fault_of ds)
    (λ u. one (within (named_by u.body) (outside_keys ds)) (within (initial_of u.body) (constant_keys ds)) u.line)
    us
  where
    one : (a b : Bool) (l : ℕ) → length (name_fault a b l) ≤ 1
    one false b l = omega arith
    one true false l = omega arith
    one true true l = omega arith

-- constants take no part in the order, every other unit once
units_few : (us : List TextUnit) → unit_count us ≤ length us
units_few us = concat_few (λ (u : TextUnit). order_unit_of u.line u.body) (λ u. one u.line u.body) us
  where
    alone : (l : ℕ) (x : Single) → length (unit_of_one l x) ≤ 1
    alone l (constants cs) = omega arith
    alone l (assignment k e) = omega arith
    alone l (state k i e) = omega arith

    one : (l : ℕ) (x : UnitBody) → length (order_unit_of l x) ≤ 1
    one l (single x) = alone l x
    one l (block os is ns z) = omega arith

-- each unit has a statement
pub stated_many : (us : List TextUnit) → length us ≤ length (stated_in us)
unfolding concat_map
stated_many [] = omega arith
stated_many (u ∷ us) =
    omega (
      arith,
      one u.line u.body,
      stated_many us,
      length-append (stated_by u.line u.body) (stated_in us),
    )
  where
    one : (l : ℕ) (x : UnitBody) → 1 ≤ length (stated_by l x)
    one l (single x) = omega arith
    one l (block os is ns z) = omega arith

-- the order names each at most once
order_few : (us : List TextUnit) → length (map (λ (i : ℕ). (unit_at us i).line) (order_of us)) ≤ unit_count us
unfolding order
order_few us =
    let n = unit_count us in
    omega (arith, place_length n (uses_in us) n [], length-map (order_of us) (λ (i : ℕ). (unit_at us i).line))

numbers_many : (k i : ℕ) → length (numbers k i) ≡ k
unfolding numbers
numbers_many zero i = refl
numbers_many (suc k) i = ap suc (numbers_many k (suc i))

loops_few : (us : List TextUnit) → length (faults24 us) ≤ unit_count us
loops_few us =
    let n = unit_count us in
    let one : (i : ℕ) → length (fault24 us i) ≤ 1 = λ i. one_if (unsortable n (uses_in us) i) (unit_at us i).line 24 in
    let each = concat_few (fault24 us) one (numbers n 0) in
    omega (arith, each, numbers_many n 0)

-- the one or the other
either_few : (m : ℕ) (f g : List Fault) → length f ≤ m → length g ≤ m → length (or_else f g) ≤ m
either_few m [] g a b = b
either_few m (x ∷ f) g a b = a

-- of units with m statements
model_few : (us : List TextUnit) (m : ℕ) → length (stated_in us) ≤ m → length (model_faults us) ≤ m
unfolding model_faults
model_few us m h =
    either_few m (faults21 [] (stated_in us)) _ (omega (arith, doubles_few [] (stated_in us)))
    (either_few m (name_faults (definitions us) us) (faults24 us)
    (omega (arith, names_few (definitions us) us, stated_many us))
    (omega (arith, loops_few us, units_few us, stated_many us)))

-- ---- the faults of blocks
unpaired_few : (ps : List Pair) (i : ℕ) (ss : List Numbered) → length (faults25_from ps i ss) ≤ length ss
unfolding faults25_from
unpaired_few ps i [] = omega arith
unpaired_few ps i (s ∷ ss) =
    let wrong = unpaired ps i (bracket_of s.says) in
    omega (
      arith,
      one_if wrong s.line 25,
      unpaired_few ps (suc i) ss,
      length-append (fault_if wrong s.line 25) (faults25_from ps (suc i) ss),
    )

-- of one statement at its spot
inner_one : (free : List ℕ) (p : Standing) (s : Numbered) → length (inner_fault free p s) ≤ 1
inner_one free outer s = omega arith
inner_one free (enclosed is above) s = one_if (not (inner_right free is above s.says)) s.line 26

standing_one : (free ks : List ℕ) (p : Standing) (s : Numbered) (x : Says) → length (fault26 free ks p s x) ≤ 1
standing_one free ks p s (constants_said cs) = inner_one free p s
standing_one free ks p s (assignment_said k e) = inner_one free p s
standing_one free ks p s (state_said k i e) = inner_one free p s
standing_one free ks p s (header os is) = one_if (head_wrong os ks) s.line 26
standing_one free ks p s ending = omega arith

inside_few : (free : List ℕ) (p : Standing) (ss : List Numbered) → length (faults26_from free p ss) ≤ length ss
unfolding faults26_from
inside_few free p [] = omega arith
inside_few free p (s ∷ ss) =
    let own = fault26 free (set_inside ss) p s s.says in
    let more = faults26_from free (standing_next p s.says) ss in
    omega (
      arith,
      standing_one free (set_inside ss) p s s.says,
      inside_few free (standing_next p s.says) ss,
      length-append own more,
    )

-- of all statements
blocks_few : (ss : List Numbered) → length (block_faults ss) ≤ length ss
unfolding block_faults
blocks_few ss =
    either_few (length ss) (faults25 ss) (faults26 ss) (unpaired_few (pairs (brackets ss)) 0 ss)
    (inside_few (free_known ss) outer ss)

-- ---- the statements' faults, and what is said

-- each report is a statement without fault, or a fault
pub counts : (done : Sheet) → length (said done) + length (statement_faults done) ≡ length done
unfolding concat_map
counts [] = refl
counts (r ∷ done) = go r.what (counts done)
  where
    go : (t : Told Spot) → length (said done) + length (statement_faults done) ≡ length done
        → length (said_by r.line t ++ said done) + length (fault_by r.line t ++ statement_faults done)
        ≡ suc (length done)
    go (says x) h = omega arith
    go (faulty c q) h = omega arith

pub faults_few : (sheet : Sheet) → length (statement_faults sheet) ≤ length sheet
faults_few sheet = omega (arith, counts sheet)

-- ---- the verdict

-- faults are at most one for each statement; records, and ordered units, as many as there may be
abbrev Few : Decision → Type 0
Few (refused n) = Unit {0}
Few (flawed n fs) = length fs ≤ most_statements
Few (translated rs ls) = (length rs ≤ most_records) × (length ls ≤ most_statements)

few_if : (n : ℕ) (fs : List Fault) (next : Decision) → length fs ≤ most_statements → Few next
    → Few (if_faults n fs next)
few_if n [] next h k = k
few_if n (f ∷ fs) next h k = h

few_fitted : (room : ℕ) (rs : List Rec) (ls : List ℕ) → length ls ≤ most_statements → Few (fitted room rs ls)
few_fitted room rs ls h =
    cond_ind Few (ltb most_records (length rs) || ltb (room / record_bytes) (length rs)) (refused 8) (translated rs ls)
    (λ _. tt)
    (λ e. (
      ltb-false most_records (length rs)
          (or_false (ltb most_records (length rs)) (ltb (room / record_bytes) (length rs)) e).0,
      h,
    ))

few_modelled : (room : ℕ) (ss : List Numbered) → length ss ≤ most_statements → Few (modelled room ss)
few_modelled room ss h =
    let us = units_of ss in
    let few : length (stated_in us) ≤ most_statements = omega (arith, stated_few ss) in
    cond_ind Few (ltb most_definitions (length (settings ss))) (refused 6) _ (λ _. tt)
    (λ _. few_if 7 (model_faults_in ss) _
    (either_few most_statements (block_faults ss) (model_faults us) (omega (arith, blocks_few ss))
    (model_few us most_statements few))
    (few_fitted room (program us (order_of us)) _ (omega (arith, order_few us, units_few us, stated_many us))))

few_decided : (room : ℕ) (sheet : Sheet) → Few (decided room sheet)
unfolding decided_within
few_decided room sheet =
    cond_ind Few (ltb most_statements (length sheet)) (refused 4) _ (λ _. tt)
    (λ e.
    let h = ltb-false most_statements (length sheet) e in
    few_if 5 (statement_faults sheet) _ (omega (arith, h, faults_few sheet))
    (few_modelled room (said sheet) (omega (arith, h, counts sheet))))

-- FEW: of every text, with whatever room
pub few : (text : List ℕ) (faults room : ℕ) → Few (verdict_of text faults room)
unfolding verdict_within
few text faults room =
    cond_ind Few (ltb faults fault_room) (refused 1) _ (λ _. tt)
    (λ _. cond_ind Few (ltb text_bytes (length text)) (refused 2) _ (λ _. tt)
    (λ _. cond_ind Few (ltb text_lines (length (lines_of text))) (refused 3) _ (λ _. tt)
    (λ _. few_decided room (sheet_of text))))

-- the count is at most that of the most records
pub count_few : (v : Decision) → Few v → count_of v ≤ most_records
count_few (refused n) h = omega arith
count_few (flawed n fs) h = omega arith
count_few (translated rs ls) h = h.0

-- and no more lines are named than there may be statements
pub lines_few : (v : Decision) → Few v → length (lines_in v) ≤ most_statements
lines_few (refused n) h = omega arith
lines_few (flawed n fs) h = omega arith
lines_few (translated rs ls) h = h.1

-- no more records than drafts
pub records_few : (kinds : List ℕ) → record_count kinds ≤ length kinds
unfolding record_count
records_few [] = omega arith
records_few (k ∷ kinds) =
    cond_ind (λ (n : ℕ). n ≤ suc (length kinds)) (writes k) (suc (record_count kinds)) (record_count kinds)
    (λ _. omega (arith, records_few kinds)) (λ _. omega (arith, records_few kinds))
