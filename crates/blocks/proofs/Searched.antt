-- A search over places, as `any` makes it, finds what the test of a row of places finds.
use Prim.Native.Nat.{ℕ, zero, suc, ◌+◌, ◌-◌, ◌≤◌, ◌<◌}
use mathlib.Core.Path.{◌≡◌, refl, sym, ap, ap₂, ◌∙◌}
use mathlib.Core.Bool.{Bool, true, false, ◌||◌}
use mathlib.Core.Logic.{⊎_elim}
use mathlib.Core.List.{List, [], ◌∷◌}
use native.Mathlib.Nat.{sub-zero}
use native.Mathlib.Omega.{arith}
use borrow.Author.Tests.{eq-eqb, ne_eqb}
use denote.Param.Members.{Mut}
use lib.Dec.{eqb}
use lib.ListN.{length}
use Rattle.std.specs.Bool.{MatchBool}
use Rattle.std.specs.Fn.{Called}
use Rattle.std.specs.Iterator.{ChecksAny}
use Rattle.std.specs.List.{list_any, range_with_len, AllWithin, HoldsAt}
use Rattle.std.specs.declared.ops.Range.{Range}
use Rattle.std.proofs.iter.Yields.{nat_range_steps}
use Rattle.std.proofs.lemmas.Iterator.{YieldsList-from_range, cases_from_any}
use Rattle.std.proofs.lemmas.List.FromFn.{length-range_with_len, get_or-range_with_len}
use Rattle.laws.specs.Counts.{count, has}
use Rattle.laws.specs.Places.{gather, any_in}
use Rattle.laws.proofs.Members.{has_append, has_cons}
use Rattle.laws.proofs.Gathers.{any_none, none_any}
use Rattle.laws.proofs.Tests.{not_both, eq_or_ne}

-- where it holds at one place, it holds at one of them
one_any : (f : ℕ → Bool) (n a j : ℕ) → a ≤ j → j < a + n → f j ≡ true → any_in f n a ≡ true
one_any f n a j h l t = go (any_in f n a) refl
  where
    go : (b : Bool) → any_in f n a ≡ b → any_in f n a ≡ true
    go true e = e
    go false e = absurd (not_both t (any_none f n a e j h l))

-- what `any` answers over the places from a on, before b, with a closure e that answers f at each
pub any_found : {F : Type 0} {g : Mut F (ℕ × Unit {0}) Bool} {s u : Range ℕ} {e : F} {r : Bool} (a b : ℕ) (f : ℕ → Bool)
    → ChecksAny nat_range_steps g s e r u → s ≡ record { start = a; end = b }
    → ((x : ℕ) (t : Bool) (q : F) → Called g e (x, tt) t q → (q ≡ e) × (t ≡ f x))
    → r ≡ any_in f (b - a) a
any_found {g = g} {s} {u} {e} {r} a b f ran at answers =
    let found = cases_from_any u e r (λ x. f x ≡ true) (λ x. f x ≡ false) ran
    (YieldsList-from_range a b (b - a) at refl)
    (λ x q k. sym (answers x true q k).1)
    (λ x q k. ((answers x false q k).0, sym (answers x false q k).1)) in
    go r found
  where
    go : (t : Bool)
        → (let row = range_with_len a (b - a) in
        MatchBool t ((k : ℕ) × (k < length row) × HoldsAt (λ x. f x ≡ true) row k)
        (AllWithin (λ x. f x ≡ false) row 0 (length row)))
        → t ≡ any_in f (b - a) a
    go true (k, h, p) =
        let in' : k < b - a = omega (arith, length-range_with_len a (b - a)) in
        let holds = rw (get_or-range_with_len a (b - a) k 0 in') at (p 0) in
        sym (one_any f (b - a) a (a + k) (omega arith) (omega arith) holds)
    go false p =
        sym (none_any f (b - a) a (λ j h l.
        let in' : j - a < b - a = omega arith in
        let same : a + (j - a) ≡ j = omega arith in
        let q = p (j - a) 0 (omega arith) (omega (arith, length-range_with_len a (b - a))) in
        ap f (sym same ∙ sym (get_or-range_with_len a (b - a) (j - a) 0 in')) ∙ q))

-- the same from the first place on
pub any_found_all : {F : Type 0} {g : Mut F (ℕ × Unit {0}) Bool} {s u : Range ℕ} {e : F} {r : Bool} (b : ℕ)
    (f : ℕ → Bool)
    → ChecksAny nat_range_steps g s e r u → s ≡ record { start = 0; end = b }
    → ((x : ℕ) (t : Bool) (q : F) → Called g e (x, tt) t q → (q ≡ e) × (t ≡ f x))
    → r ≡ any_in f b 0
any_found_all b f ran at answers = any_found 0 b f ran at answers ∙ ap (λ n. any_in f n 0) (sub-zero b)

-- whether a name stands among what the places give
has_places : (f : ℕ → List ℕ) (k n a : ℕ) → any_in (λ i. has k (f i)) n a ≡ has k (gather f n a)
unfolding any_in gather count
has_places f k zero a = refl
has_places f k (suc n) a =
    ap (λ t. has k (f a) || t) (has_places f k n (suc a)) ∙ sym (has_append k (f a) (gather f n (suc a)))

-- a search for it
pub name_found : {F : Type 0} {g : Mut F (ℕ × Unit {0}) Bool} {s u : Range ℕ} {e : F} {r : Bool} (a b k : ℕ)
    (f : ℕ → List ℕ) → ChecksAny nat_range_steps g s e r u → s ≡ record { start = a; end = b }
    → ((x : ℕ) (t : Bool) (q : F) → Called g e (x, tt) t q → (q ≡ e) × (t ≡ has k (f x)))
    → r ≡ has k (gather f (b - a) a)
name_found a b k f ran at answers =
    any_found a b (λ i. has k (f i)) ran at answers ∙ has_places f k (b - a) a

-- whether a key stands in a row
eqb_sym : (x y : ℕ) → eqb x y ≡ eqb y x
eqb_sym x y =
    ⊎_elim (λ (e : x ≡ y). eq-eqb x y e ∙ sym (eq-eqb y x (sym e)))
    (λ n. ne_eqb x y n ∙ sym (ne_eqb y x (λ e. n (sym e)))) (eq_or_ne x y)

pub key_found : (key : ℕ) (keys : List ℕ) → list_any (λ y. eqb y key) keys ≡ has key keys
unfolding count
key_found key [] = refl
key_found key (x ∷ xs) = ap₂ ◌||◌ (eqb_sym x key) (key_found key xs) ∙ sym (has_cons key x xs)
