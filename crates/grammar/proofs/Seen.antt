-- The code's look at a kind is the grammar's look at the token.
use Prim.Native.Nat.{ℕ, zero, suc, ◌≤◌, ◌<◌}
use Rattle.std.specs.Prelude.{Option, Some, None}
use mathlib.Core.Path.{◌≡◌, refl, sym, subst, ◌∙◌}
use mathlib.Core.Bool.{Bool, true, false, cond}
use mathlib.Core.List.{List, [], ◌∷◌}
use mathlib.Core.Logic.{⊎_elim}
use native.Mathlib.Omega.{arith}
use borrow.Author.Tests.{lt-ltb, eqb-true, ne_eqb}
use lib.Dec.{eqb}
use lib.Ieee.{Float, binary64, of_bits}
use lib.ListN.{length, get_or, drop, get_or-eq_default}
use Rattle.laws.proofs.Tests.{lt_or_ge}
use Rattle.tokens.specs.Symbol.{CONSTANTS, INTGRL, TIME, INSW, LIMIT, COMPAR, PROCED, ENDPRO, mark}
use Rattle.tokens.specs.Kinds.{number_kind, name_kind, word_kind, last_word_kind}
use Rattle.tokens.specs.Held.{symbol_of, held_row}
use Rattle.tokens.proofs.Holding.{held_at}
use Rattle.grammar.specs.declared.faces.Face.{Face}
use Rattle.grammar.specs.declared.faces.Face.TheVariants.{One, Group, Function}
use Rattle.drafts.specs.Tree.{insw, limit, Tree, value, named, time}
use Rattle.drafts.specs.Drafts.{draft, drafted}
use Rattle.grammar.specs.Look.{next, byte_of, add_op, mul_op, FactorStart, Leaf, Paren, Call, NoFactor, factor_start}
use Rattle.grammar.specs.Look.{Opening, pair, triple}
use Rattle.grammar.specs.Look.{Start, Constants, Integral, Named, Valued, Header, Ending, Other, start_of}
use Rattle.grammar.specs.Parser.{Res, by_start, by_name, by_number, by_integral}
use Rattle.grammar.specs.Codes.{want_of, kind_opening, leaf_kind, leaf_arg, face_of}
use Rattle.grammar.proofs.Clauses.{next_at}

-- the token at place i
pub token_at_holds : (ks us : List ℕ) (i : ℕ) → length us ≡ length ks
    → next (drop i (held_row ks us)) ≡ symbol_of (get_or ks i 0) (get_or us i 0)
token_at_holds ks us i h = next_at (held_row ks us) i ∙ held_at ks us i h

-- a kind that is not 0 stands before the end
pub stands : (ks : List ℕ) (i : ℕ) → (get_or ks i 0 ≡ 0 → ⊥) → i < length ks
stands ks i h = ⊎_elim (λ l. l) (λ g. absurd (h (get_or-eq_default ks 0 g))) (lt_or_ge i (length ks))

-- what holds of 0, of each kind up to the last word's, and of those above, holds of each
by_kind : (P : ℕ → Type 0) → P 0 → P number_kind → P name_kind → P (word_kind CONSTANTS) → P (word_kind INTGRL)
    → P (word_kind TIME) → P (word_kind INSW) → P (word_kind LIMIT) → P (word_kind COMPAR) → P (word_kind PROCED)
    → P (word_kind ENDPRO) → ((k : ℕ) → last_word_kind < k → P k) → (k : ℕ) → P k
by_kind P a b c d e f g h i j m n zero = a
by_kind P a b c d e f g h i j m n (suc zero) = b
by_kind P a b c d e f g h i j m n (suc (suc zero)) = c
by_kind P a b c d e f g h i j m n (suc (suc (suc zero))) = d
by_kind P a b c d e f g h i j m n (suc (suc (suc (suc zero)))) = e
by_kind P a b c d e f g h i j m n (suc (suc (suc (suc (suc zero))))) = f
by_kind P a b c d e f g h i j m n (suc (suc (suc (suc (suc (suc zero)))))) = g
by_kind P a b c d e f g h i j m n (suc (suc (suc (suc (suc (suc (suc zero))))))) = h
by_kind P a b c d e f g h i j m n (suc (suc (suc (suc (suc (suc (suc (suc zero)))))))) = i
by_kind P a b c d e f g h i j m n (suc (suc (suc (suc (suc (suc (suc (suc (suc zero))))))))) = j
by_kind P a b c d e f g h i j m n (suc (suc (suc (suc (suc (suc (suc (suc (suc (suc zero)))))))))) = m
by_kind P a b c d e f g h i j m n (suc (suc (suc (suc (suc (suc (suc (suc (suc (suc (suc k))))))))))) =
    n _ (omega arith)

-- above them stands the mark
high : (k a : ℕ) → last_word_kind < k → symbol_of k a ≡ mark k
high k a h = rw (lt-ltb last_word_kind k h)

-- a test of a mark is a test of its kind
pub mark_test : (k a b : ℕ) → last_word_kind < b → eqb (byte_of (symbol_of k a)) b ≡ eqb k b
unfolding byte_of
mark_test k a b lt =
    by_kind (λ k. eqb (byte_of (symbol_of k a)) b ≡ eqb k b) refl (low number_kind (omega arith))
    (low name_kind (omega arith)) (low (word_kind CONSTANTS) (omega arith)) (low (word_kind INTGRL) (omega arith))
    (low (word_kind TIME) (omega arith)) (low (word_kind INSW) (omega arith)) (low (word_kind LIMIT) (omega arith))
    (low (word_kind COMPAR) (omega arith)) (low (word_kind PROCED) (omega arith)) (low (word_kind ENDPRO) (omega arith))
    (λ k h. rw (high k a h)) k
  where
    low : (n : ℕ) → n ≤ last_word_kind → eqb 0 b ≡ eqb n b
    low n h = ne_eqb 0 b (λ z. omega arith) ∙ sym (ne_eqb n b (λ z. omega arith))

-- operators
pub add_seen : (k a : ℕ) → add_op (symbol_of k a) ≡ add_op (mark k)
unfolding byte_of
add_seen k a = rw (mark_test k a 43 (omega arith), mark_test k a 45 (omega arith))

pub mul_seen : (k a : ℕ) → mul_op (symbol_of k a) ≡ mul_op (mark k)
unfolding byte_of
mul_seen k a = rw (mark_test k a 42 (omega arith), mark_test k a 47 (omega arith))

-- what a token begins as a factor tells of its numbers: one that is a whole factor has one draft
abbrev Noted : ℕ → FactorStart → Type 0
Noted a (Leaf e) = drafted e ≡ draft (leaf_kind e) (leaf_arg (leaf_kind e) a) ∷ []
Noted a Paren = Unit {0}
Noted a (Call p) = Unit {0}
Noted a NoFactor = Unit {0}

noted : (k a : ℕ) → Noted a (factor_start (symbol_of k a))
unfolding factor_start drafted
noted k a = by_kind (λ k. Noted a (factor_start (symbol_of k a))) tt refl refl tt tt refl tt tt tt tt tt
    (λ k h. rw (high k a h) (go (eqb k 40))) k
  where
    go : (t : Bool) → Noted a (cond t Paren NoFactor)
    go true = tt
    go false = tt

-- so it does where that is known
pub leaf_noted : (k a : ℕ) {e : Tree} → factor_start (symbol_of k a) ≡ Leaf e
    → drafted e ≡ draft (leaf_kind e) (leaf_arg (leaf_kind e) a) ∷ []
leaf_noted k a q = subst (λ (h : FactorStart). Noted a h) q (noted k a)

-- and of one that opens parentheses its kind
abbrev Faced : ℕ → Option Face → Type 0
Faced k (Some (One n)) = (k ≡ 0 → ⊥)
Faced k (Some Group) = k ≡ 40
Faced k (Some (Function n c)) = (k ≡ 0 → ⊥)
Faced k None = Unit {0}

faced : (k a : ℕ) → Faced k (face_of (factor_start (symbol_of k a)))
unfolding factor_start
faced k a =
    by_kind (λ k. Faced k (face_of (factor_start (symbol_of k a)))) tt (some number_kind (omega arith))
    (some name_kind (omega arith)) tt tt (some (word_kind TIME) (omega arith)) (some (word_kind INSW) (omega arith))
    (some (word_kind LIMIT) (omega arith)) (some (word_kind COMPAR) (omega arith)) tt tt
    (λ k h. rw (high k a h) (go k (eqb k 40) refl)) k
  where
    some : (n : ℕ) → 0 < n → n ≡ 0 → ⊥
    some n h z = omega arith

    go : (k : ℕ) (t : Bool) → eqb k 40 ≡ t → Faced k (face_of (cond t Paren NoFactor))
    go k true e = eqb-true k 40 e
    go k false e = tt

-- so it does where the face is known
pub face_noted : (k a : ℕ) {f : Option Face} → f ≡ face_of (factor_start (symbol_of k a)) → Faced k f
face_noted k a q = subst (λ (f : Option Face). Faced k f) (sym q) (faced k a)

-- what a token begins as a factor, behind its face
abbrev pub Shown : Option Face → FactorStart → Type 0
Shown (Some (One n)) h = (e : Tree) × (h ≡ Leaf e) × (leaf_kind e ≡ n)
Shown (Some Group) h = h ≡ Paren
Shown (Some (Function n c)) h = (p : Opening) × (h ≡ Call p) × (want_of p ≡ n) × (kind_opening p ≡ Some c)
Shown None h = h ≡ NoFactor

shown : (k a : ℕ) → Shown (face_of (factor_start (symbol_of k a))) (factor_start (symbol_of k a))
unfolding factor_start
shown k a =
    by_kind (λ k. Shown (face_of (factor_start (symbol_of k a))) (factor_start (symbol_of k a))) refl
    (value (of_bits binary64 a), refl, refl) (named a, refl, refl) refl refl (time, refl, refl)
    (triple insw, refl, refl, refl) (triple limit, refl, refl, refl) (pair, refl, refl, refl) refl refl
    (λ k h. rw (high k a h) (go (eqb k 40))) k
  where
    go : (t : Bool) → Shown (face_of (cond t Paren NoFactor)) (cond t Paren NoFactor)
    go true = refl
    go false = refl

-- where the face is known
pub as_shown : (k a : ℕ) {f : Option Face} → f ≡ face_of (factor_start (symbol_of k a))
    → Shown f (factor_start (symbol_of k a))
as_shown k a q = subst (λ (f : Option Face). Shown f (factor_start (symbol_of k a))) (sym q) (shown k a)

-- and every other kind begins none
pub no_face : (k a : ℕ) → (k ≡ number_kind → ⊥) → (k ≡ name_kind → ⊥) → (k ≡ word_kind TIME → ⊥) → (k ≡ 40 → ⊥)
    → (k ≡ word_kind INSW → ⊥) → (k ≡ word_kind LIMIT → ⊥) → (k ≡ word_kind COMPAR → ⊥)
    → None ≡ face_of (factor_start (symbol_of k a))
unfolding factor_start
no_face k a =
    by_kind
    (λ k. (k ≡ number_kind → ⊥) → (k ≡ name_kind → ⊥) → (k ≡ word_kind TIME → ⊥) → (k ≡ 40 → ⊥)
    → (k ≡ word_kind INSW → ⊥)
    → (k ≡ word_kind LIMIT → ⊥) → (k ≡ word_kind COMPAR → ⊥) → None ≡ face_of (factor_start (symbol_of k a)))
    (λ m₁ m₂ m₅ m₀ m₆ m₇ m₈. refl) (λ m₁ m₂ m₅ m₀ m₆ m₇ m₈. absurd (m₁ refl)) (λ m₁ m₂ m₅ m₀ m₆ m₇ m₈. absurd (m₂ refl))
    (λ m₁ m₂ m₅ m₀ m₆ m₇ m₈. refl) (λ m₁ m₂ m₅ m₀ m₆ m₇ m₈. refl)
    (λ m₁ m₂ m₅ m₀ m₆ m₇ m₈. absurd (m₅ refl)) (λ m₁ m₂ m₅ m₀ m₆ m₇ m₈. absurd (m₆ refl))
    (λ m₁ m₂ m₅ m₀ m₆ m₇ m₈. absurd (m₇ refl)) (λ m₁ m₂ m₅ m₀ m₆ m₇ m₈. absurd (m₈ refl))
    (λ m₁ m₂ m₅ m₀ m₆ m₇ m₈. refl) (λ m₁ m₂ m₅ m₀ m₆ m₇ m₈. refl)
    (λ k h m₁ m₂ m₅ m₀ m₆ m₇ m₈. rw (high k a h, ne_eqb k 40 m₀)) k

-- what a start tells of the two numbers
abbrev Started : ℕ → ℕ → Start → Type 0
Started k a Constants = k ≡ word_kind CONSTANTS
Started k a Integral = k ≡ word_kind INTGRL
Started k a (Named n) = (k ≡ name_kind) × (n ≡ a)
Started k a (Valued x) = (k ≡ number_kind) × (x ≡ of_bits binary64 a)
Started k a Header = k ≡ word_kind PROCED
Started k a Ending = k ≡ word_kind ENDPRO
Started k a Other = Unit {0}

started : (k a : ℕ) → Started k a (start_of (symbol_of k a))
unfolding start_of
started k a =
    by_kind (λ k. Started k a (start_of (symbol_of k a))) tt (refl, refl) (refl, refl) refl refl tt tt tt tt refl refl
    (λ k h. rw (high k a h) tt) k

-- a name, a number and INTGRL are known by their kinds
module _ {A : Type 0} (k a : ℕ) where
  pub is_name : (x : ℕ → Res A) (y : Unit {0} → Res A) → k ≡ name_kind → by_name (start_of (symbol_of k a)) x y ≡ x a
  unfolding start_of
  is_name x y e = rw e

  pub no_name : (x : ℕ → Res A) (y : Unit {0} → Res A) → (k ≡ name_kind → ⊥)
      → by_name (start_of (symbol_of k a)) x y ≡ y tt
  no_name x y n = go (start_of (symbol_of k a)) (started k a)
    where
      go : (p : Start) → Started k a p → by_name p x y ≡ y tt
      go Constants h = refl
      go Integral h = refl
      go (Named c) h = absurd (n h.0)
      go (Valued v) h = refl
      go Header h = refl
      go Ending h = refl
      go Other h = refl

  pub is_number : (x : Float → Res A) (y : Unit {0} → Res A) → k ≡ number_kind
      → by_number (start_of (symbol_of k a)) x y ≡ x (of_bits binary64 a)
  unfolding start_of
  is_number x y e = rw e

  pub no_number : (x : Float → Res A) (y : Unit {0} → Res A) → (k ≡ number_kind → ⊥)
      → by_number (start_of (symbol_of k a)) x y ≡ y tt
  no_number x y n = go (start_of (symbol_of k a)) (started k a)
    where
      go : (p : Start) → Started k a p → by_number p x y ≡ y tt
      go Constants h = refl
      go Integral h = refl
      go (Named c) h = refl
      go (Valued v) h = absurd (n h.0)
      go Header h = refl
      go Ending h = refl
      go Other h = refl

  pub is_integral : (x y : Unit {0} → Res A) → k ≡ word_kind INTGRL → by_integral (start_of (symbol_of k a)) x y ≡ x tt
  unfolding start_of
  is_integral x y e = rw e

  pub no_integral : (x y : Unit {0} → Res A) → (k ≡ word_kind INTGRL → ⊥)
      → by_integral (start_of (symbol_of k a)) x y ≡ y tt
  no_integral x y n = go (start_of (symbol_of k a)) (started k a)
    where
      go : (p : Start) → Started k a p → by_integral p x y ≡ y tt
      go Constants h = refl
      go Integral h = absurd (n h)
      go (Named c) h = refl
      go (Valued v) h = refl
      go Header h = refl
      go Ending h = refl
      go Other h = refl

-- what begins a statement: a name, a word before constants, PROCED, ENDPRO, or nothing
pub start_name : (k a : ℕ) → k ≡ name_kind → start_of (symbol_of k a) ≡ Named a
unfolding start_of
start_name k a e = rw e

pub start_words : (k a : ℕ) → k ≡ word_kind CONSTANTS → start_of (symbol_of k a) ≡ Constants
unfolding start_of
start_words k a e = rw e

pub start_header : (k a : ℕ) → k ≡ word_kind PROCED → start_of (symbol_of k a) ≡ Header
unfolding start_of
start_header k a e = rw e

pub start_ending : (k a : ℕ) → k ≡ word_kind ENDPRO → start_of (symbol_of k a) ≡ Ending
unfolding start_of
start_ending k a e = rw e

pub start_none : {A : Type 0} (k a : ℕ) (c : Unit {0} → Res A) (n : ℕ → Res A) (b d : Unit {0} → Res A) (z : Res A)
    → (k ≡ name_kind → ⊥) → (k ≡ word_kind CONSTANTS → ⊥) → (k ≡ word_kind PROCED → ⊥) → (k ≡ word_kind ENDPRO → ⊥)
    → by_start (start_of (symbol_of k a)) c (λ _. z) n (λ _. z) b d (λ _. z) ≡ z
start_none k a c n b d z no_name no_words no_header no_ending = go (start_of (symbol_of k a)) (started k a)
  where
    go : (s : Start) → Started k a s → by_start s c (λ _. z) n (λ _. z) b d (λ _. z) ≡ z
    go Constants h = absurd (no_words h)
    go Integral h = refl
    go (Named m) h = absurd (no_name h.0)
    go (Valued v) h = refl
    go Header h = absurd (no_header h)
    go Ending h = absurd (no_ending h)
    go Other h = refl
