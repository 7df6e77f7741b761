-- The judge over one list of instructions after another.
use Prim.Native.Nat.{ℕ, suc, ◌+◌, ◌-◌, ◌≤◌, ◌<◌}
use mathlib.Core.Path.{◌≡◌, refl, sym, subst}
use mathlib.Core.Bool.{true, false}
use mathlib.Core.List.{List, [], ◌∷◌, ◌++◌}
use native.Mathlib.Omega.{arith}
use borrow.Author.Tests.{le-leb, ne_eqb}
use lib.ListN.{length, get_or}
use Rattle.limits.specs.Limits.{stack_places}
use Rattle.records.specs.declared.Instr.{Instr}
use Rattle.evaluator.specs.Judge.{state_mark, takes, gives, phase_of, slot_fine, marked, Judge, good, judged}
use Rattle.evaluator.specs.Judge.{any_open, answer, judge_from}

-- the judge in a phase, with a count of values and with marks
abbrev pub judge_at : ℕ → ℕ → List ℕ → Judge
judge_at p h l = record { phase = p; height = h; marks = l }

-- judging from j finds each of xs good and leads to k
abbrev pub Leads : Judge → List Instr → Judge → Type 0
Leads j [] k = j ≡ k
Leads j (x ∷ xs) k = (good j x ≡ true) × Leads (judged j x) xs k

-- one list after another
pub leads_append : (j k l : Judge) (xs ys : List Instr) → Leads j xs k → Leads k ys l → Leads j (xs ++ ys) l
leads_append j k l [] ys a b = subst (λ (m : Judge). Leads m ys l) (sym a) b
leads_append j k l (x ∷ xs) ys a b = (a.0, leads_append (judged j x) k l xs ys a.1 b)

-- one good record
pub leads_one : (j : Judge) (x : Instr) → takes x ≤ j.height → j.height - takes x + gives x ≤ stack_places
    → j.phase ≤ phase_of x
    → slot_fine j.marks j.height x ≡ true → Leads j (x ∷ []) (judged j x)
unfolding good
leads_one j x a b c d = (
  rw (
    le-leb (takes x) j.height a,
    le-leb (j.height - takes x + gives x) stack_places b,
    le-leb j.phase (phase_of x) c,
    d,
  ),
  refl,
)

-- .. that works on the stack alone
pub leads_op : (x : Instr) (p h g : ℕ) (l : List ℕ) → phase_of x ≡ 3 → slot_fine l h x ≡ true → marked l x ≡ l
    → takes x ≤ h
    → h - takes x + gives x ≡ g → g ≤ stack_places → p ≤ 3 → Leads (judge_at p h l) (x ∷ []) (judge_at 3 g l)
leads_op x p h g l a b c d e f m =
    let q : judged (judge_at p h l) x ≡ judge_at 3 g l = rw (a, c, e) in
    subst (λ (k : Judge). Leads (judge_at p h l) (x ∷ []) k) q
    (leads_one (judge_at p h l) x d (omega arith) (omega arith) b)

-- a program that leads to an empty stack and no open state is accepted
pub leads_accepted : (i : ℕ) (j k : Judge) (xs : List Instr) → Leads j xs k → k.height ≡ 0 → any_open k.marks ≡ false
    → judge_from i j xs ≡ answer 0 0
unfolding judge_from
leads_accepted i j k [] a h o = rw (a, h, o)
leads_accepted i j k (x ∷ xs) a h o = rw a.0 (leads_accepted (suc i) (judged j x) k xs a.1 h o)

-- no state is open where no mark is that of a state without derivative
pub none_open : (l : List ℕ) → ((p : ℕ) → p < length l → get_or l p 0 ≡ state_mark → ⊥) → any_open l ≡ false
unfolding any_open
none_open [] h = refl
none_open (x ∷ l) h = rw (ne_eqb x state_mark (h 0 (omega arith)), none_open l (λ p m. h (suc p) (omega arith)))
