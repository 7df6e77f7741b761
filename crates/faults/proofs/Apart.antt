-- No two faults have one code, and none has the code 0 of no fault.
use Rattle.std.proofs.Common.{◌≡◌, ℕ, ◌-◌, List, [], ◌∷◌, get_or, Option, Some, None, refl, sym, ap, ◌∙◌}
use Rattle.faults.specs.declared.Fault.{Fault}
use Rattle.faults.specs.declared.Fault.TheVariants.{Unended, ManyCards, LongCard, StrayByte, LongName, Malformed}
use Rattle.faults.specs.declared.Fault.TheVariants.{OutOfRange, Ungrammatical, TooDeep, Redefined, Undefined}
use Rattle.faults.specs.declared.Fault.TheVariants.{NoConstant, Unsortable, Unpaired, Misplaced}
use Rattle.faults.specs.Codes.{code_of, code_or_none}

-- the faults from code 11 on; 20 is none
faults : List (Option Fault)
faults =
    Some Unended ∷ Some ManyCards ∷ Some LongCard ∷ Some StrayByte ∷ Some LongName ∷ Some Malformed ∷ Some OutOfRange
    ∷ Some Ungrammatical ∷ Some TooDeep ∷ None ∷ Some Redefined ∷ Some Undefined ∷ Some NoConstant ∷ Some Unsortable
    ∷ Some Unpaired ∷ Some Misplaced ∷ []

-- what may be a fault by its code
back : (f : Option Fault) → get_or (None ∷ faults) (code_or_none f - 10) None ≡ f
unfolding faults
back None = refl
back (Some Unended) = refl
back (Some ManyCards) = refl
back (Some LongCard) = refl
back (Some StrayByte) = refl
back (Some LongName) = refl
back (Some Malformed) = refl
back (Some OutOfRange) = refl
back (Some Ungrammatical) = refl
back (Some TooDeep) = refl
back (Some Redefined) = refl
back (Some Undefined) = refl
back (Some NoConstant) = refl
back (Some Unsortable) = refl
back (Some Unpaired) = refl
back (Some Misplaced) = refl

pub codes_apart : (a b : Option Fault) → code_or_none a ≡ code_or_none b → a ≡ b
codes_apart a b e = sym (back a) ∙ ap (λ (n : ℕ). get_or (None ∷ faults) (n - 10) None) e ∙ back b

-- faults with one code are one fault
pub code_injective : (f g : Fault) → code_of f ≡ code_of g → f ≡ g
code_injective f g e = let same : Some f ≡ Some g = codes_apart (Some f) (Some g) e in cc

-- no fault has the code 0
pub fault_code : (f : Fault) → code_of f ≡ 0 → ⊥
fault_code f e = let same : Some f ≡ None = codes_apart (Some f) None e in cc
