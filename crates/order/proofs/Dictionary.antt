-- Laws of dictionary order.
use mathlib.Core.Path.{◌≡◌, refl, ap}
use mathlib.Core.Logic.{inl, inr}
use mathlib.Core.List.{List, [], ◌∷◌, ◌++◌, map}
use Prim.Native.Nat.{ℕ, ◌<◌}
use native.Mathlib.Omega.{arith}
use Rattle.laws.specs.Counts.{count, ◌∈◌}
use Rattle.laws.proofs.Counts.{once_same}
use Rattle.order.specs.Order.{◌≼◌}

-- a front comes first
pub ≼_prefix : (p q : List ℕ) → p ≼ p ++ q
≼_prefix [] q = tt
≼_prefix (a ∷ p) q = inr (refl, ≼_prefix p q)

-- a front in common changes nothing
pub ≼_append : (p l m : List ℕ) → l ≼ m → p ++ l ≼ p ++ m
≼_append [] l m h = h
≼_append (a ∷ p) l m h = inr (refl, ≼_append p l m h)

-- two lists of which each comes first are equal
pub ≼_antisym : (l m : List ℕ) → l ≼ m → m ≼ l → l ≡ m
≼_antisym [] [] h k = refl
≼_antisym [] (b ∷ m) h k = absurd k
≼_antisym (a ∷ l) [] h k = absurd h
≼_antisym (a ∷ l) (b ∷ m) (inl h) (inl k) = absurd (omega arith)
≼_antisym (a ∷ l) (b ∷ m) (inl h) (inr k) = absurd (omega (arith, k.0))
≼_antisym (a ∷ l) (b ∷ m) (inr h) (inl k) = absurd (omega (arith, h.0))
≼_antisym (a ∷ l) (b ∷ m) (inr h) (inr k) = let e = ≼_antisym l m h.1 k.1 in cc h.0

-- numbers that rise with those of a list are ordered as these are
pub ≼_map : (f : ℕ → ℕ) (l m : List ℕ) → ((a b : ℕ) → b ∈ m → a < b → f a < f b) → l ≼ m → map f l ≼ map f m
unfolding count
≼_map f [] m up h = tt
≼_map f (a ∷ l) [] up h = absurd h
≼_map f (a ∷ l) (b ∷ m) up (inl h) = inl (up a b (omega (arith, once_same b)) h)
≼_map f (a ∷ l) (b ∷ m) up (inr h) = inr (ap f h.0, ≼_map f l m (λ c d k. up c d (omega arith)) h.1)
