-- Laws of a number's decimal digits.
use Prim.Native.Nat.{ℕ, zero, suc, ◌+◌, ◌/◌, ◌%◌, ◌≤◌, ◌<◌}
use mathlib.Core.Path.{◌≡◌, ap}
use mathlib.Core.List.{List, [], ◌∷◌, ◌++◌}
use mathlib.Core.Logic.{⊎_elim}
use native.Mathlib.Omega.{arith}
use borrow.Author.Tests.{lt-ltb, le-ltb}
use lib.Dec.{ltb}
use lib.ListN.{length, length-append}
use Rattle.laws.proofs.Tests.{lt_or_ge, cond_ind}
use Rattle.listing_text.specs.Listing.{figures_in, figures}

-- any two bounds that suffice give the same digits
pub enough_figures : (f g n : ℕ) → n < f → n < g → figures_in f n ≡ figures_in g n
unfolding figures_in
enough_figures zero g n h k = absurd (omega arith)
enough_figures (suc f) zero n h k = absurd (omega arith)
enough_figures (suc f) (suc g) n h k =
    ⊎_elim (λ l. rw (lt-ltb n 10 l))
    (λ l. rw (le-ltb n 10 l)
    (ap (λ (r : List ℕ). r ++ ((48 + n % 10) ∷ [])) (enough_figures f g (n / 10) (omega arith) (omega arith))))
    (lt_or_ge n 10)

-- a number below 10 is one digit
pub one_figure : (n : ℕ) → n < 10 → figures n ≡ (48 + n) ∷ []
unfolding figures_in
one_figure n l = rw (lt-ltb n 10 l)

-- any other is its tenth, and one digit more
pub more_figures : (n : ℕ) → 10 ≤ n → figures n ≡ figures (n / 10) ++ ((48 + n % 10) ∷ [])
unfolding figures_in
more_figures n l =
    rw (le-ltb n 10 l)
    (ap (λ (r : List ℕ). r ++ ((48 + n % 10) ∷ []))
    (enough_figures n (suc (n / 10)) (n / 10) (omega arith) (omega arith)))

-- there are no more digits than the bound
figures_few : (f n : ℕ) → length (figures_in f n) ≤ f
unfolding figures_in
figures_few zero n = omega arith
figures_few (suc f) n =
    let r = figures_in f (n / 10) in
    cond_ind (λ (l : List ℕ). length l ≤ suc f) (ltb n 10) ((48 + n) ∷ []) (r ++ ((48 + n % 10) ∷ []))
    (λ _. omega arith)
    (λ _. omega (arith, length-append r ((48 + n % 10) ∷ []), figures_few f (n / 10)))

-- so there are at most n + 1
pub few_figures : (n : ℕ) → length (figures n) ≤ n + 1
few_figures n = omega (arith, figures_few (suc n) n)
