-- Case splits on tests, Bools and native numbers.
use Prim.Native.Nat.{ℕ, zero, suc, ◌≤◌, ◌<◌}
use mathlib.Core.Path.{◌≡◌, refl}
use mathlib.Core.Bool.{Bool, true, false, not, cond, ◌&&◌, ◌||◌}
use mathlib.Core.Logic.{◌⊎◌, inl, inr, ⊎_elim}
use native.Mathlib.Omega.{arith}
use borrow.Author.Tests.{ltb-true, ltb-false, eqb-true, eqb-false}
use lib.Dec.{ltb, eqb}

pub bool_cases : (b : Bool) → (b ≡ true) ⊎ (b ≡ false)
bool_cases true = inl refl
bool_cases false = inr refl

pub not_both : {b : Bool} → b ≡ true → b ≡ false → ⊥
not_both t f = let z : ◌≡◌ {A = ℕ} 0 1 = cc in omega arith

pub lt_or_ge : (a b : ℕ) → (a < b) ⊎ (b ≤ a)
lt_or_ge a b = ⊎_elim (λ t. inl (ltb-true a b t)) (λ t. inr (ltb-false a b t)) (bool_cases (ltb a b))

pub eq_or_ne : (a b : ℕ) → (a ≡ b) ⊎ (a ≡ b → ⊥)
eq_or_ne a b = ⊎_elim (λ t. inl (eqb-true a b t)) (λ t. inr (eqb-false a b t)) (bool_cases (eqb a b))

-- what holds of each case holds of a choice
pub cond_ind : {A : Type 0} (P : A → Type 0) (b : Bool) (x y : A) → (b ≡ true → P x) → (b ≡ false → P y)
    → P (cond b x y)
cond_ind P true x y f g = f refl
cond_ind P false x y f g = g refl

pub and_true : (a b : Bool) → (a && b) ≡ true → (a ≡ true) × (b ≡ true)
and_true true b e = (refl, e)
and_true false b e = absurd (not_both e refl)

pub and_both : (a b : Bool) → a ≡ true → b ≡ true → (a && b) ≡ true
and_both true b p q = q
and_both false b p q = absurd (not_both p refl)

pub and_false : (a b : Bool) → (a && b) ≡ false → (a ≡ false) ⊎ (b ≡ false)
and_false true b e = inr e
and_false false b e = inl refl

pub or_true : (a b : Bool) → (a || b) ≡ true → (a ≡ true) ⊎ (b ≡ true)
or_true true b e = inl refl
or_true false b e = inr e

pub or_left : (a b : Bool) → a ≡ true → (a || b) ≡ true
or_left true b e = refl
or_left false b e = absurd (not_both e refl)

pub or_right : (a b : Bool) → b ≡ true → (a || b) ≡ true
or_right true b e = refl
or_right false b e = e

-- a test that fails adds nothing
pub or_skip : {a b : Bool} → a ≡ false → b ≡ (a || b)
or_skip {a} {b} e = rw e

-- an implication as a test
pub or_blocked : (a b : Bool) → (not a || b) ≡ false → (a ≡ true) × (b ≡ false)
or_blocked true b e = (refl, e)
or_blocked false b e = absurd (not_both refl e)

-- what holds of each count of calls above n, if it holds of each that is one more than another
pub for_suc : (P : ℕ → Type 0) (n : ℕ) → ((f : ℕ) → n ≤ f → P (suc f)) → (f : ℕ) → n < f → P f
for_suc P n h zero lt = absurd (let z : ⊥ = omega arith in z)
for_suc P n h (suc f) lt = h f (omega arith)
