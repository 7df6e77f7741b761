-- What a name's bytes are: a reserved word or a name, and its kind and argument.
use Prim.Native.Nat.{ℕ, ◌+◌, ◌*◌, ◌≤◌}
use mathlib.Core.Path.{◌≡◌, refl, sym, ap, ◌∙◌}
use mathlib.Core.Bool.{Bool, true, false, cond}
use mathlib.Core.List.{List, [], ◌∷◌}
use native.Mathlib.Omega.{arith}
use lib.ListN.{length, take}
use lib.Seq.{take_all}
use Rattle.laws.specs.Lists.{same_bytes}
use Rattle.laws.proofs.Tests.{cond_ind}
use Rattle.limits.specs.Limits.{name_bytes}
use Rattle.bits.specs.Low.{low_word}
use Rattle.tokens.specs.declared.step.Held.{Held}
use Rattle.tokens.specs.Symbol.{Role, CONSTANTS, INTGRL, TIME, INSW, LIMIT, COMPAR, PROCED, ENDPRO, Reserved}
use Rattle.tokens.specs.Symbol.{reserved, look_up, Symbol, name, word, key_of, symbol_named}
use Rattle.tokens.specs.Kinds.{name_kind, word_kind}
use Rattle.tokens.specs.Held.{symbol_kind, arg_of, three_of, kind_named, symbol_of}
use Rattle.tokens.specs.Steps.{held_as}

-- ---- a list of words

-- what holds of each role and of the other holds of what is found
lookup_ind : {A : Type 0} (P : A → Type 0) (f : Role → A) (other : A) → ((w : Role) → P (f w)) → P other
    → (ws : List Reserved) (n : List ℕ) → P (look_up f other ws n)
unfolding look_up
lookup_ind P f other each g [] n = g
lookup_ind P f other each g (r ∷ ws) n =
    cond_ind P (same_bytes n r.spelling) (f r.role) (look_up f other ws n) (λ _. each r.role)
    (λ _. lookup_ind P f other each g ws n)

-- a function of what is found
lookup_map : {A B : Type 0} (g : A → B) (f : Role → A) (other : A) (ws : List Reserved) (n : List ℕ)
    → g (look_up f other ws n) ≡ look_up (λ w. g (f w)) (g other) ws n
unfolding look_up
lookup_map g f other [] n = refl
lookup_map {A} {B} g f other (r ∷ ws) n = go (same_bytes n r.spelling) (lookup_map g f other ws n)
  where
    go : (b : Bool) {x : A} {y : B} → g x ≡ y → g (cond b (f r.role) x) ≡ cond b (g (f r.role)) y
    go true e = refl
    go false e = e

-- ---- the kinds of words

-- a role's kind is its own
pub symbol_word : (w : Role) (a : ℕ) → symbol_of (word_kind w) a ≡ word w
symbol_word CONSTANTS a = refl
symbol_word INTGRL a = refl
symbol_word TIME a = refl
symbol_word INSW a = refl
symbol_word LIMIT a = refl
symbol_word COMPAR a = refl
symbol_word PROCED a = refl
symbol_word ENDPRO a = refl

-- and not a name's
no_name : (w : Role) → word_kind w ≡ name_kind → ⊥
no_name w e =
    let same : name 0 ≡ word w = sym (ap (λ (k : ℕ). symbol_of k 0) e) ∙ symbol_word w 0 in
    let z : ◌≡◌ {A = ℕ} 0 1 = cc in
    omega arith

-- the key of nameBytes bytes as two times three
pub key_threes : (n : List ℕ) → low_word (take name_bytes n) ≡ three_of n 0 + 16777216 * three_of n 3
unfolding low_word
key_threes [] = omega arith
key_threes (a ∷ []) = omega arith
key_threes (a ∷ b ∷ []) = omega arith
key_threes (a ∷ b ∷ c ∷ []) = omega arith
key_threes (a ∷ b ∷ c ∷ d ∷ []) = omega arith
key_threes (a ∷ b ∷ c ∷ d ∷ e ∷ []) = omega arith
key_threes (a ∷ b ∷ c ∷ d ∷ e ∷ f ∷ n) = omega arith

-- ---- the bytes of a name
module _ (n : List ℕ) where
  -- what holds of each role and of the name holds of what the bytes are
  pub symbol_ind : (P : Symbol → Type 0) → ((w : Role) → P (word w)) → P (name (key_of n)) → P (symbol_named n)
  unfolding symbol_named
  symbol_ind P f g = lookup_ind P word (name (key_of n)) f g reserved n

  -- their kind
  kind_named_holds : kind_named n ≡ symbol_kind (symbol_named n)
  unfolding kind_named symbol_named
  kind_named_holds = sym (lookup_map symbol_kind word (name (key_of n)) reserved n)

  -- a name's argument is its key
  arg_name : symbol_kind (symbol_named n) ≡ name_kind → arg_of (symbol_named n) ≡ key_of n
  arg_name =
      symbol_ind (λ (t : Symbol). symbol_kind t ≡ name_kind → arg_of t ≡ key_of n) (λ w e. absurd (no_name w e))
      (λ _. refl)

  -- a word has none
  arg_word : (symbol_kind (symbol_named n) ≡ name_kind → ⊥) → arg_of (symbol_named n) ≡ 0
  arg_word =
      symbol_ind (λ (t : Symbol). (symbol_kind t ≡ name_kind → ⊥) → arg_of t ≡ 0) (λ w h. refl) (λ h. absurd (h refl))

  -- a name's number is its key
  pub name_key : (k : ℕ) → symbol_named n ≡ name k → k ≡ key_of n
  name_key k e = ap arg_of (sym e) ∙ arg_name (ap symbol_kind e)

  -- a name as it is held: its key is read from its bytes
  pub held_name : (k a : ℕ) → length n ≤ name_bytes → k ≡ kind_named n → k ≡ name_kind
      → a ≡ low_word (take name_bytes n)
      → ◌≡◌ {A = Held} (record { kind = k; arg = a }) (held_as (symbol_named n))
  held_name k a h q e key =
      let f = sym kind_named_holds ∙ sym q ∙ e in
      rw (e, f, arg_name f, key, take_all name_bytes n h)

  -- a word as it is held
  pub held_word : (k : ℕ) → k ≡ kind_named n → (k ≡ name_kind → ⊥)
      → ◌≡◌ {A = Held} (record { kind = k; arg = 0 }) (held_as (symbol_named n))
  held_word k q e = rw (arg_word (λ f. e (q ∙ kind_named_holds ∙ f)), q, kind_named_holds)
