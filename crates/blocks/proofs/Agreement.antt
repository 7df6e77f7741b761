-- Any two outcomes that the contract of an open entry allows are equal.
use Prim.Native.Nat.{ℕ}
use mathlib.Core.Path.{◌≡◌, refl, sym, ap, ◌∙◌}
use mathlib.Core.List.{List}
use native.Mathlib.Omega.{arith}
use Rattle.std.specs.Prelude.{Option, Result, Ok, Err}
use Rattle.laws.specs.Agree.{Agree, Agree2, Agree4}
use Rattle.faults.specs.declared.Fault.{Fault}
use Rattle.blocks.specs.declared.answer.Refusal.{Refusal}
use Rattle.blocks.specs.declared.answer.Refusal.TheVariants.{ManyDefinitions, Faults, Unfit}
use Rattle.blocks.specs.Grouped.{Grouping, UnitArrays, GroupOutcome}
use Rattle.blocks.specs.Contract.{grouping_in, Groups, AddsFault, WhetherInTurn}

-- an answer is one by its number and its counts
one_answer : (r s : Result ℕ Refusal) → grouping_in r ≡ grouping_in s → r ≡ s
one_answer (Ok m) (Ok n) e = ap Ok (ap (λ (g : Grouping). g.units) e)
one_answer (Ok m) (Err ManyDefinitions) e = absurd (omega (arith, ap (λ (g : Grouping). g.number) e))
one_answer (Ok m) (Err (Faults n)) e = absurd (omega (arith, ap (λ (g : Grouping). g.number) e))
one_answer (Ok m) (Err Unfit) e = absurd (omega (arith, ap (λ (g : Grouping). g.number) e))
one_answer (Err ManyDefinitions) (Ok n) e = absurd (omega (arith, ap (λ (g : Grouping). g.number) e))
one_answer (Err ManyDefinitions) (Err ManyDefinitions) e = refl
one_answer (Err ManyDefinitions) (Err (Faults n)) e = absurd (omega (arith, ap (λ (g : Grouping). g.number) e))
one_answer (Err ManyDefinitions) (Err Unfit) e = absurd (omega (arith, ap (λ (g : Grouping). g.number) e))
one_answer (Err (Faults m)) (Ok n) e = absurd (omega (arith, ap (λ (g : Grouping). g.number) e))
one_answer (Err (Faults m)) (Err ManyDefinitions) e = absurd (omega (arith, ap (λ (g : Grouping). g.number) e))
one_answer (Err (Faults m)) (Err (Faults n)) e = ap (λ (k : ℕ). Err (Faults k)) (ap (λ (g : Grouping). g.count) e)
one_answer (Err (Faults m)) (Err Unfit) e = absurd (omega (arith, ap (λ (g : Grouping). g.number) e))
one_answer (Err Unfit) (Ok n) e = absurd (omega (arith, ap (λ (g : Grouping). g.number) e))
one_answer (Err Unfit) (Err ManyDefinitions) e = absurd (omega (arith, ap (λ (g : Grouping). g.number) e))
one_answer (Err Unfit) (Err (Faults n)) e = absurd (omega (arith, ap (λ (g : Grouping). g.number) e))
one_answer (Err Unfit) (Err Unfit) e = refl

pub group : (lines bounds kinds args faults : List ℕ) (a : UnitArrays)
    → Agree4 (Groups lines bounds kinds args faults a)
group lines bounds kinds args faults a r s k l f g m n p q =
    let same = parts (p ∙ sym q) in (one_answer r s same.0, same.1, same.2, same.3)
  where
    parts : {x y : GroupOutcome} → x ≡ y
        → (x.grouping ≡ y.grouping) × (x.kinds ≡ y.kinds) × (x.faults ≡ y.faults) × (x.arrays ≡ y.arrays)
    parts e = (cc, cc, cc, cc)

pub add_fault : (fault : Option Fault) (line : ℕ) (list : List ℕ) (c : ℕ) → Agree2 (AddsFault fault line list c)
add_fault fault line list c r s l m p q = (p.behind ∙ sym q.behind, p.written ∙ sym q.written)

pub is_in_turn : (bounds : List ℕ) (n size : ℕ) → Agree (WhetherInTurn bounds n size)
is_in_turn bounds n size r s p q = p ∙ sym q
