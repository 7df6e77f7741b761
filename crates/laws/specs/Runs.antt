-- The longest front part of a list whose members all pass a test; and what stands apart from what is before it.
use Rattle.std.specs.Prelude.{ℕ, ◌≡◌, Bool, cond, List, [], ◌∷◌, ◌⊎◌}

unfoldable pub front_run : {A : Type 0} → (A → Bool) → List A → List A
front_run p [] = []
front_run p (x ∷ xs) = cond (p x) (x ∷ front_run p xs) []

-- nothing, or a space and what follows
abbrev pub EndOrSpace : List ℕ → Type 0
EndOrSpace r = (r ≡ []) ⊎ ((t : List ℕ) × (r ≡ 32 ∷ t))
