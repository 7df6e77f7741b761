-- By larger sizes a verdict that is given for no size stays as it is.
use Prim.Native.Nat.{ℕ, ◌≤◌}
use mathlib.Core.Path.{◌≡◌, refl, ◌∙◌}
use mathlib.Core.Bool.{Bool, true, false, cond}
use mathlib.Core.List.{List, [], ◌∷◌}
use native.Mathlib.Omega.{arith}
use borrow.Author.Tests.{le-ltb, ltb-false}
use lib.Dec.{ltb}
use lib.ListN.{length}
use Rattle.limits.specs.Before.{Sizes}
use Rattle.deck.specs.Lines.{lines_of}
use Rattle.sheet.specs.Sheet.{Fault, said, statement_faults}
use Rattle.sheet.specs.Reader.{sheet_of}
use Rattle.blocks.specs.Members.{settings, units_of}
use Rattle.model.specs.Text.{model_faults_in}
use Rattle.translator.specs.Verdict.{Decision, refused, if_faults, programmed, modelled_within, decided_within}
use Rattle.translator.specs.Verdict.{verdict_within, number_of}
use Rattle.translator.specs.Larger.{Larger, NotForSize}

-- a test that did not give its number, and does not hold by larger sizes either: what comes next decides
test_same : (n : ℕ) (s t : Bool) (x y : Decision) → (number_of (cond s (refused n) x) ≡ n → ⊥) → (s ≡ false → t ≡ false)
    → (number_of (cond s (refused n) x) ≡ number_of x → y ≡ x)
    → cond t (refused n) y ≡ cond s (refused n) x
test_same n true t x y not_given kept next = absurd (not_given refl)
test_same n false t x y not_given kept next = rw (kept refl) (next refl)

-- likewise where no fault stands
faults_same : (n : ℕ) (fs : List Fault) (x y : Decision) → (number_of (if_faults n fs x) ≡ number_of x → y ≡ x)
    → if_faults n fs y ≡ if_faults n fs x
faults_same n [] x y next = next refl
faults_same n (f ∷ fs) x y next = refl

-- what is not over the one is not over the larger
not_over : (n m k : ℕ) → n ≤ m → ltb n k ≡ false → ltb m k ≡ false
not_over n m k h e = le-ltb m k (omega (arith, ltb-false n k e))

-- THE LAW. By larger sizes, and with bytes enough lent for faults, the verdict is the same
pub larger_same : (a b : Sizes) → Larger a b → (text : List ℕ) (f g room : ℕ)
    → NotForSize (verdict_within a text f room)
    → b.faults ≤ g
    → verdict_within b text g room ≡ verdict_within a text f room
unfolding verdict_within decided_within
larger_same a b l text f g room none lent =
    let sheet = sheet_of text in
    let ss = said sheet in
    test_same 1 (ltb f a.faults) (ltb g b.faults) _ _ none.not_one (λ _. le-ltb g b.faults lent)
    (λ one. test_same 2 (ltb a.bytes (length text)) _ _ _ (λ e. none.not_two (one ∙ e))
    (not_over a.bytes b.bytes (length text) l.bytes)
    (λ two. test_same 3 (ltb a.lines (length (lines_of text))) _ _ _ (λ e. none.not_three (one ∙ two ∙ e))
    (not_over a.lines b.lines (length (lines_of text)) l.lines)
    (λ three. test_same 4 (ltb a.statements (length sheet)) _ _ _ (λ e. none.not_four (one ∙ two ∙ three ∙ e))
    (not_over a.statements b.statements (length sheet) l.statements)
    (λ four. faults_same 5 (statement_faults sheet) (modelled_within a room ss) (modelled_within b room ss)
    (λ five. test_same 6 (ltb a.definitions (length (settings ss))) _
    (if_faults 7 (model_faults_in ss) (programmed room (units_of ss))) _
    (λ e. none.not_six (one ∙ two ∙ three ∙ four ∙ five ∙ e))
    (not_over a.definitions b.definitions (length (settings ss)) l.definitions) (λ _. refl))))))
