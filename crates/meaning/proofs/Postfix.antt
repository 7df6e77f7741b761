-- An expression's postfix puts the expression's value on the stack, is taken by the judge, and looks at nothing but the
-- names' slots.
use Prim.Native.Nat.{ℕ, ◌+◌, ◌≤◌}
use mathlib.Core.Path.{◌≡◌, refl}
use mathlib.Core.List.{List, [], ◌∷◌, ◌++◌, map, append_assoc}
use native.Mathlib.Omega.{arith}
use borrow.Author.Tests.{ne_eqb}
use lib.ListN.{get_or}
use lib.Ieee.{Float, nan, of_bits, of_int}
use Rattle.limits.specs.Limits.{stack_places}
use Rattle.laws.specs.Counts.{count, ◌∈◌}
use Rattle.laws.proofs.Counts.{count_append, once_same}
use Rattle.laws.proofs.Concats.{map_append}
use Rattle.drafts.specs.Tree.{Two, plus, minus, times, over, compar, Three, insw, limit, Tree, value, named, time}
use Rattle.drafts.specs.Tree.{negated, two, three, names}
use Rattle.drafts.specs.Items.{postfix, negate, apply_two, apply_three, peak}
use Rattle.records.specs.Shape.{zero64, one64}
use Rattle.records.specs.declared.Instr.{Instr}
use Rattle.records.specs.declared.Instr.TheVariants.{Value, Slot, Add, Sub, Mul, Div, Neg, Insw, Limit, Compar}
use Rattle.program.specs.Program.{instr_two, instr_three, instr_item}
use Rattle.evaluator.specs.Judge.{unset_mark}
use Rattle.evaluator.specs.Machine.{Machine, step, run}
use Rattle.meaning.specs.Meaning.{nought, unity, value_two, value_three, value_of}
use Rattle.meaning.proofs.Heights.{peak_some}
use Rattle.evaluator.proofs.JudgedRows.{judge_at, Leads, leads_append, leads_op}

-- the machine with these working values, values and derivatives
abbrev pub machine_of : List Float → List Float → List Float → Machine
machine_of s v d = record { stack = s; values = v; derivs = d }

-- the machine's 0 and 1 are the numbers 0 and 1
pub zero_same : nought ≡ zero64
unfolding of_bits of_int
zero_same = refl

-- and 1
one_same : unity ≡ one64
unfolding of_bits of_int
one_same = refl

-- ---- the operations
run_two : (o : Two) (a b : Float) (s v d : List Float) (r : List Instr)
    → run (machine_of (b ∷ a ∷ s) v d) (instr_two o ∷ r) ≡ run (machine_of (value_two o a b ∷ s) v d) r
unfolding run step
run_two plus a b s v d r = refl
run_two minus a b s v d r = refl
run_two times a b s v d r = refl
run_two over a b s v d r = refl
run_two compar a b s v d r = rw (zero_same, one_same)

-- on three values
run_three : (o : Three) (a b c : Float) (s v d : List Float) (r : List Instr)
    → run (machine_of (c ∷ b ∷ a ∷ s) v d) (instr_three o ∷ r) ≡ run (machine_of (value_three o a b c ∷ s) v d) r
unfolding run step
run_three insw a b c s v d r = rw zero_same
run_three limit a b c s v d r = refl

module _ (slot : ℕ → ℕ) where
  -- the instructions of a tree
  unfoldable pub steps : Tree → List Instr
  steps (value x) = Value x ∷ []
  steps (named k) = Slot (slot k) ∷ []
  steps time = Slot 0 ∷ []
  steps (negated a) = steps a ++ (Neg ∷ [])
  steps (two o a b) = steps a ++ (steps b ++ (instr_two o ∷ []))
  steps (three o a b c) = steps a ++ (steps b ++ (steps c ++ (instr_three o ∷ [])))

  -- are those of its postfix
  pub steps_of_holds : (e : Tree) → map (instr_item slot) (postfix e) ≡ steps e
  unfolding postfix steps
  steps_of_holds (value x) = refl
  steps_of_holds (named k) = refl
  steps_of_holds time = refl
  steps_of_holds (negated a) = rw (map_append (instr_item slot) (postfix a) (negate ∷ []), steps_of_holds a)
  steps_of_holds (two o a b) =
      rw (
        map_append (instr_item slot) (postfix a) (postfix b ++ (apply_two o ∷ [])),
        map_append (instr_item slot) (postfix b) (apply_two o ∷ []),
        steps_of_holds a,
        steps_of_holds b,
      )
  steps_of_holds (three o a b c) =
      rw (
        map_append (instr_item slot) (postfix a) (postfix b ++ (postfix c ++ (apply_three o ∷ []))),
        map_append (instr_item slot) (postfix b) (postfix c ++ (apply_three o ∷ [])),
        map_append (instr_item slot) (postfix c) (apply_three o ∷ []),
        steps_of_holds a,
        steps_of_holds b,
        steps_of_holds c,
      )

  -- RUN from any stack they push the tree's value and change nothing else
  pub run_tree : (e : Tree) (s v d : List Float) (r : List Instr)
      → run (machine_of s v d) (steps e ++ r) ≡ run (machine_of (value_of slot v e ∷ s) v d) r
  unfolding steps value_of run step
  run_tree (value x) s v d r = refl
  run_tree (named k) s v d r = refl
  run_tree time s v d r = refl
  run_tree (negated a) s v d r = rw (append_assoc (steps a), run_tree a s v d (Neg ∷ r))
  run_tree (two o a b) s v d r =
      rw (
        append_assoc (steps a),
        append_assoc (steps b),
        run_tree a s v d (steps b ++ (instr_two o ∷ r)),
        run_tree b (value_of slot v a ∷ s) v d (instr_two o ∷ r),
      )
      (run_two o (value_of slot v a) (value_of slot v b) s v d r)
  run_tree (three o a b c) s v d r =
      rw (
        append_assoc (steps a),
        append_assoc (steps b),
        append_assoc (steps c),
        run_tree a s v d (steps b ++ (steps c ++ (instr_three o ∷ r))),
        run_tree b (value_of slot v a ∷ s) v d (steps c ++ (instr_three o ∷ r)),
        run_tree c (value_of slot v b ∷ value_of slot v a ∷ s) v d (instr_three o ∷ r),
      )
      (run_three o (value_of slot v a) (value_of slot v b) (value_of slot v c) s v d r)

  -- the value looks only at the names' slots and TIME
  pub value_same : (e : Tree) (v w : List Float) → get_or v 0 nan ≡ get_or w 0 nan
      → ((k : ℕ) → k ∈ names e → get_or v (slot k) nan ≡ get_or w (slot k) nan) → value_of slot v e ≡ value_of slot w e
  unfolding value_of names count
  value_same (value x) v w z f = refl
  value_same (named k) v w z f = f k (omega (arith, once_same k))
  value_same time v w z f = z
  value_same (negated a) v w z f = rw (value_same a v w z f)
  value_same (two o a b) v w z f =
      rw (
        value_same a v w z (λ k h. f k (omega (arith, count_append k (names a) (names b)))),
        value_same b v w z (λ k h. f k (omega (arith, count_append k (names a) (names b)))),
      )
  value_same (three o a b c) v w z f =
      rw (
        value_same a v w z (λ k h. f k (omega (arith, both k))),
        value_same b v w z (λ k h. f k (omega (arith, both k, count_append k (names b) (names c)))),
        value_same c v w z (λ k h. f k (omega (arith, both k, count_append k (names b) (names c)))),
      )
    where
      both : (k : ℕ) → count k (names a ++ (names b ++ names c)) ≡ count k (names a) + count k (names b ++ names c)
      both k = count_append k (names a) (names b ++ names c)

-- ---- the judge takes an operation with its operands on the stack
judge_two : (o : Two) (h : ℕ) (l : List ℕ) → 2 + h ≤ stack_places
    → Leads (judge_at 3 (2 + h) l) (instr_two o ∷ []) (judge_at 3 (1 + h) l)
judge_two plus h l m =
    leads_op Add 3 (2 + h) (1 + h) l refl refl refl (omega arith) (omega arith) (omega arith) (omega arith)
judge_two minus h l m =
    leads_op Sub 3 (2 + h) (1 + h) l refl refl refl (omega arith) (omega arith) (omega arith) (omega arith)
judge_two times h l m =
    leads_op Mul 3 (2 + h) (1 + h) l refl refl refl (omega arith) (omega arith) (omega arith) (omega arith)
judge_two over h l m =
    leads_op Div 3 (2 + h) (1 + h) l refl refl refl (omega arith) (omega arith) (omega arith) (omega arith)
judge_two compar h l m =
    leads_op Compar 3 (2 + h) (1 + h) l refl refl refl (omega arith) (omega arith) (omega arith) (omega arith)

-- on three values
judge_three : (o : Three) (h : ℕ) (l : List ℕ) → 3 + h ≤ stack_places
    → Leads (judge_at 3 (3 + h) l) (instr_three o ∷ []) (judge_at 3 (1 + h) l)
judge_three insw h l m =
    leads_op Insw 3 (3 + h) (1 + h) l refl refl refl (omega arith) (omega arith) (omega arith) (omega arith)
judge_three limit h l m =
    leads_op Limit 3 (3 + h) (1 + h) l refl refl refl (omega arith) (omega arith) (omega arith) (omega arith)

module _ (slot : ℕ → ℕ) where
  -- slot 0 and the slots of what e names are set
  abbrev pub AllSet : List ℕ → Tree → Type 0
  AllSet l e = (get_or l 0 0 ≡ unset_mark → ⊥) × ((k : ℕ) → k ∈ names e → get_or l (slot k) 0 ≡ unset_mark → ⊥)

  -- a slot that is set is pushed
  judge_slot : (s p h : ℕ) (l : List ℕ) → (get_or l s 0 ≡ unset_mark → ⊥) → h + 1 ≤ stack_places → p ≤ 3
      → Leads (judge_at p h l) (Slot s ∷ []) (judge_at 3 (1 + h) l)
  judge_slot s p h l n m q =
      leads_op (Slot s) p h (1 + h) l refl (rw (ne_eqb (get_or l s 0) unset_mark n)) refl (omega arith)
      (omega arith) (omega arith) q

  -- JUDGED with room for all that stands at once, a tree is good and leaves one value more
  pub judge_tree : (e : Tree) (p h : ℕ) (l : List ℕ) → AllSet l e → h + peak e ≤ stack_places → p ≤ 3
      → Leads (judge_at p h l) (steps slot e) (judge_at 3 (1 + h) l)
  unfolding steps peak names count
  judge_tree (value x) p h l n m q =
      leads_op (Value x) p h (1 + h) l refl refl refl (omega arith) (omega arith) (omega arith) q
  judge_tree (named k) p h l n m q = judge_slot (slot k) p h l (n.1 k (omega (arith, once_same k))) m q
  judge_tree time p h l n m q = judge_slot 0 p h l n.0 m q
  judge_tree (negated a) p h l n m q =
      leads_append _ (judge_at 3 (1 + h) l) _ (steps slot a) _ (judge_tree a p h l n m q)
      (leads_op Neg 3 (1 + h) (1 + h) l refl refl refl (omega arith) (omega arith) (omega (arith, peak_some a))
      (omega arith))
  judge_tree (two o a b) p h l n m q =
      let pa = peak_some a in
      let pb = peak_some b in
      let na : AllSet l a = (n.0, λ k i. n.1 k (omega (arith, count_append k (names a) (names b)))) in
      let nb : AllSet l b = (n.0, λ k i. n.1 k (omega (arith, count_append k (names a) (names b)))) in
      let e : 1 + (1 + h) ≡ 2 + h = omega arith in
      leads_append _ (judge_at 3 (1 + h) l) _ (steps slot a) _ (judge_tree a p h l na (omega arith) q)
      (leads_append _ (judge_at 3 (1 + (1 + h)) l) _ (steps slot b) _
      (judge_tree b 3 (1 + h) l nb (omega arith) (omega arith))
      (rw e (judge_two o h l (omega arith))))
  judge_tree (three o a b c) p h l n m q =
      let pa = peak_some a in
      let pb = peak_some b in
      let pc = peak_some c in
      let ca : (k : ℕ) → count k (names a ++ (names b ++ names c))
      ≡ count k (names a) + (count k (names b) + count k (names c)) =
      λ k. omega (arith, count_append k (names a) (names b ++ names c), count_append k (names b) (names c)) in
      let na : AllSet l a = (n.0, λ k i. n.1 k (omega (arith, ca k))) in
      let nb : AllSet l b = (n.0, λ k i. n.1 k (omega (arith, ca k))) in
      let nc : AllSet l c = (n.0, λ k i. n.1 k (omega (arith, ca k))) in
      let e : 1 + (1 + (1 + h)) ≡ 3 + h = omega arith in
      leads_append _ (judge_at 3 (1 + h) l) _ (steps slot a) _ (judge_tree a p h l na (omega arith) q)
      (leads_append _ (judge_at 3 (1 + (1 + h)) l) _ (steps slot b) _
      (judge_tree b 3 (1 + h) l nb (omega arith) (omega arith))
      (leads_append _ (judge_at 3 (1 + (1 + (1 + h))) l) _ (steps slot c) _
      (judge_tree c 3 (1 + (1 + h)) l nc (omega arith) (omega arith))
      (rw e (judge_three o h l (omega arith)))))
