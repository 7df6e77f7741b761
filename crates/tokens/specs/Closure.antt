-- A test of bytes that is lent as a closure.
use Rattle.std.specs.Prelude.{ℕ, ◌≡◌, Bool}
use Rattle.std.specs.Fn.{Mut, CalledAt}
use denote.Ref.{Bor}

-- a call of it at a byte, which it reads through two references, answers as the test does and leaves it as it was
abbrev pub IsTest : {F : Type 0} → Mut F (Bor (Bor ℕ) × Unit {0}) Bool → F → (ℕ → Bool) → Type 0
IsTest {F} g f test = (b : Bor ℕ) (r : Bool) (f' : F) → CalledAt g f b r f' → (f' ≡ f) × (r ≡ test b.now)
