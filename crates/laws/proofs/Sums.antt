-- Two rows in which each number stands equally often have the same sum.
use Prim.Native.Nat.{ℕ, zero, suc, ◌+◌, ◌*◌, ◌≤◌, ◌<◌}
use mathlib.Core.Path.{◌≡◌, refl, sym, ap, ◌∙◌}
use mathlib.Core.Logic.{⊎_elim}
use mathlib.Core.List.{List, [], ◌∷◌}
use native.Mathlib.Nat.{zero-mul, suc-mul, eq-or-lt_of_le}
use native.Mathlib.Omega.{arith}
use lib.ListN.{length, length-append}
use Rattle.laws.specs.Lists.{concat_map, numbers}
use Rattle.laws.specs.Counts.{count}
use Rattle.laws.proofs.Tests.{lt_or_ge}
use Rattle.laws.proofs.Counts.{once_same, once_other, count_cons_same}
use Rattle.laws.proofs.Members.{Below}

-- the sum of f over a row
sum_of : (ℕ → ℕ) → List ℕ → ℕ
sum_of f [] = 0
sum_of f (a ∷ l) = f a + sum_of f l

-- the same by how often each number below n stands in it
weigh : (ℕ → ℕ) → List ℕ → ℕ → ℕ
weigh f l zero = 0
weigh f l (suc n) = count n l * f n + weigh f l n

-- an empty row
weigh_nil : (f : ℕ → ℕ) (n : ℕ) → weigh f [] n ≡ 0
unfolding weigh count
weigh_nil f zero = refl
weigh_nil f (suc n) = omega (arith, zero-mul (f n), weigh_nil f n)

-- one more that is another number
count_other : (n a : ℕ) (l : List ℕ) → (n ≡ a → ⊥) → count n (a ∷ l) ≡ count n l
unfolding count
count_other n a l e = omega (arith, once_other n a e)

-- one more that is not below n
weigh_above : (f : ℕ → ℕ) (a : ℕ) (l : List ℕ) (n : ℕ) → n ≤ a → weigh f (a ∷ l) n ≡ weigh f l n
unfolding weigh
weigh_above f a l zero h = refl
weigh_above f a l (suc n) h = rw (count_other n a l (λ e. omega arith), weigh_above f a l n (omega arith))

-- one more that is
weigh_below : (f : ℕ → ℕ) (a : ℕ) (l : List ℕ) (n : ℕ) → a < n → weigh f (a ∷ l) n ≡ f a + weigh f l n
unfolding weigh
weigh_below f a l zero h = absurd (omega arith)
weigh_below f a l (suc n) h =
    ⊎_elim
    (λ (e : a ≡ n). rw (← e, count_cons_same a l, suc-mul (count a l) (f a), weigh_above f a l a (omega arith))
    (omega arith))
    (λ g. rw (count_other n a l (λ e. omega arith), weigh_below f a l n g) (omega arith)) (eq-or-lt_of_le (omega arith))

-- where all are below n, that is the sum
sum_weigh : (f : ℕ → ℕ) (n : ℕ) (l : List ℕ) → Below n l → sum_of f l ≡ weigh f l n
unfolding sum_of count
sum_weigh f n [] b = sym (weigh_nil f n)
sum_weigh f n (a ∷ l) b =
    ap (λ s. f a + s) (sum_weigh f n l (λ j h. b j (omega arith)))
    ∙ sym (weigh_below f a l n (b a (omega (arith, once_same a))))

-- it goes by the counts alone
weigh_same : (f : ℕ → ℕ) (x y : List ℕ) (n : ℕ) → ((i : ℕ) → i < n → count i x ≡ count i y) → weigh f x n ≡ weigh f y n
unfolding weigh
weigh_same f x y zero e = refl
weigh_same f x y (suc n) e = rw (e n (omega arith), weigh_same f x y n (λ i h. e i (omega arith)))

-- the length of a row of rows is a sum
length_sum : {B : Type 0} (F : ℕ → List B) (l : List ℕ) → length (concat_map F l) ≡ sum_of (λ a. length (F a)) l
unfolding concat_map sum_of
length_sum F [] = refl
length_sum F (a ∷ l) = length-append (F a) (concat_map F l) ∙ ap (λ s. length (F a) + s) (length_sum F l)

-- rows made of such rows are equally long
pub lengths_same : {B : Type 0} (F : ℕ → List B) (n : ℕ) (x y : List ℕ) → Below n x → Below n y
    → ((i : ℕ) → i < n → count i x ≡ count i y) → length (concat_map F x) ≡ length (concat_map F y)
lengths_same F n x y p q e =
    let f : ℕ → ℕ = λ a. length (F a) in
    length_sum F x ∙ sum_weigh f n x p ∙ weigh_same f x y n e ∙ sym (length_sum F y ∙ sum_weigh f n y q)

-- ---- the numbers from o on: none before o
numbers_below : (k o i : ℕ) → i < o → count i (numbers k o) ≡ 0
unfolding numbers count
numbers_below zero o i h = refl
numbers_below (suc k) o i h = omega (arith, once_other i o (λ e. omega arith), numbers_below k (suc o) i (omega arith))

-- none behind the last
numbers_above : (k o i : ℕ) → o + k ≤ i → count i (numbers k o) ≡ 0
unfolding numbers count
numbers_above zero o i h = refl
numbers_above (suc k) o i h = omega (arith, once_other i o (λ e. omega arith), numbers_above k (suc o) i (omega arith))

-- and each of them once
pub numbers_once : (k o i : ℕ) → o ≤ i → i < o + k → count i (numbers k o) ≡ 1
unfolding numbers count
numbers_once zero o i h l = absurd (omega arith)
numbers_once (suc k) o i h l =
    ⊎_elim (λ (e : o ≡ i). rw e (omega (arith, once_same i, numbers_below k (suc i) i (omega arith))))
    (λ g. omega (arith, once_other i o (λ e. omega arith), numbers_once k (suc o) i g (omega arith))) (eq-or-lt_of_le h)

-- so the first n numbers are below n
pub numbers_few : (n : ℕ) → Below n (numbers n 0)
numbers_few n j h = ⊎_elim (λ l. l) (λ g. absurd (omega (arith, numbers_above n 0 j (omega arith)))) (lt_or_ge j n)
