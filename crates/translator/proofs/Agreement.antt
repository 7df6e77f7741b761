-- Any two outcomes that the contract of an open entry allows are equal.
use Prim.Native.Nat.{ℕ}
use mathlib.Core.Path.{sym, ap, ◌∙◌}
use mathlib.Core.List.{List}
use Rattle.laws.specs.Agree.{Agree, Agree3, Agree4}
use Rattle.translator.specs.declared.Refusal.{Refusal}
use Rattle.translator.specs.Contract.{TellsNumber, TellsCount}
use Rattle.translator.specs.Contract.{Reply, Translates, OrderedReply, TranslatesInOrder, NamedReply, NamesSlots}
use Rattle.translator.proofs.Verdicts.{verdict_whole, ordered_whole}

-- the two of a refusal
pub number : (a : Refusal) → Agree (TellsNumber a)
number a r s p q = p ∙ sym q

pub count : (a : Refusal) → Agree (TellsCount a)
count a r s p q = p ∙ sym q

-- the answer itself and both buffers
pub translate : (text f p : List ℕ) → Agree3 (Translates text f p)
translate text f p r s a b c d x y =
    let h = x ∙ sym y in
    (verdict_whole (ap (λ (z : Reply). z.answer) h), ap (λ (z : Reply). z.faults) h, ap (λ (z : Reply). z.program) h)

-- .. and the order that is handed out
pub translate_in_order : (text f p o : List ℕ) → Agree4 (TranslatesInOrder text f p o)
translate_in_order text f p o r s a b c d k l x y =
    let h = x ∙ sym y in (
      ordered_whole (ap (λ (z : OrderedReply). z.answer) h) (ap (λ (z : OrderedReply). z.units) h),
      ap (λ (z : OrderedReply). z.faults) h,
      ap (λ (z : OrderedReply). z.program) h,
      ap (λ (z : OrderedReply). z.order) h,
    )

-- where names are asked for
pub names : (text f o : List ℕ) → Agree3 (NamesSlots text f o)
names text f o r s a b c d x y =
    let h = x ∙ sym y in (
      verdict_whole (ap (λ (z : NamedReply). z.answer) h),
      ap (λ (z : NamedReply). z.faults) h,
      ap (λ (z : NamedReply). z.roster) h,
    )
