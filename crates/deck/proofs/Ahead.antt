-- What a walk over the lines of a text gives.
use Rattle.std.proofs.Common.{◌≡◌, ℕ, suc, ◌+◌, ◌<◌, List, [], ◌∷◌, ◌++◌, length, drop, Option, Some, None, Bor, sym}
use Rattle.std.proofs.Common.{ap, ◌∙◌, arith}
use Rattle.std.proofs.Math.Seq.{drop-cons}
use Rattle.std.proofs.Math.ListN.{length-append, drop_of_length-le}
use Rattle.std.specs.Iterator.{Yields}
use Rattle.std.specs.Iterator.Adapters.{take_source, take_count, take_steps, enumerate_source, enumerate_count}
use Rattle.std.specs.Iterator.Adapters.{enumerate_steps}
use Rattle.std.specs.declared.iter.Take.{Take}
use Rattle.std.specs.declared.iter.Enumerate.{Enumerate}
use Rattle.std.specs.List.{enumerate_from}
use Rattle.std.proofs.lemmas.Iterator.{YieldsList, YieldsList-from_take}
use Rattle.std.proofs.lemmas.Iterator.Consumers.{YieldsList-from_shown, YieldsList-from_enumerate, YieldsList-at}
use Rattle.std.proofs.lemmas.Iterator.Consumers.{YieldsList-turn, YieldsList-end}
use Rattle.std.proofs.lemmas.List.FromFn.{length-enumerate_from, get_or-enumerate_from}
use Rattle.deck.specs.Lines.{Line}
use Rattle.deck.specs.Next.{lines_at}
use Rattle.deck.specs.Ahead.{lines_ahead, Advances, Walks}
use Rattle.deck.specs.declared.lines.Lines.{Lines}
use Rattle.deck.proofs.Cutting.{lines_end}

-- from a place on it gives the lines from there
lines_yield : (s : Lines) → YieldsList Advances (λ (l : Bor Line). l.now) s (lines_ahead s)
lines_yield = YieldsList-from_shown Advances (λ (l : Bor Line). l.now) lines_ahead none some
  where
    none : (s t : Lines) → Advances s None t → length (lines_ahead s) ≡ 0
    none s t h = ap length (lines_end s.text.now s.at h.1.0)

    some : (s : Lines) (l : Bor Line) (t : Lines) → Advances s (Some l) t → lines_ahead s ≡ l.now ∷ lines_ahead t
    some s l t h = rw (h.1.1, h.0) h.1.0.lines

-- of so many the first
pub lines_taken : (text : Bor (List ℕ)) (start lines : ℕ) (it : Take Lines)
    → take_source it ≡ record { text = text; at = start } → take_count it ≡ lines
    → Walks it (lines_at text.now start lines)
lines_taken text start lines it s n =
    YieldsList-from_take lines (YieldsList-at s (lines_yield record { text = text; at = start })) n

-- ---- a walk over these lines that gave the items xs
module _ (all : List Line) {made from : Take Lines} (gives : Walks made all) (same : from ≡ made)
    (xs : List (Bor Line)) (it : Take Lines) (y : Yields (take_steps Advances) from xs it)
    (r : Option (Bor Line)) (u : Take Lines) (h : take_steps Advances it r u) where
  -- the next is the first of the others
  pub line_turn : (l : Bor Line) → r ≡ Some l → drop (length xs) all ≡ l.now ∷ drop (length (xs ++ (l ∷ []))) all
  line_turn l q =
      let turn = YieldsList-turn (YieldsList-at same gives) xs it y r u l q h in
      let n : length (xs ++ (l ∷ [])) ≡ suc (length xs) = omega (arith, length-append xs (l ∷ [])) in
      rw n (drop-cons all (length xs) l.now turn.0 ∙ ap (λ (k : Line). k ∷ drop (suc (length xs)) all) (sym turn.1))

  -- where there is none, none are left
  pub line_last : r ≡ None → drop (length xs) all ≡ []
  line_last q =
      let n = (YieldsList-end (YieldsList-at same gives) xs it y r u q h).1 in
      drop_of_length-le all {i = length xs} (omega (arith, n))

-- ---- the same with their numbers
module _ (all : List Line) {made : Take Lines} {with from : Enumerate (Take Lines)} (gives : Walks made all)
    (inner : enumerate_source with ≡ made) (zero : enumerate_count with ≡ 0) (same : from ≡ with)
    (xs : List (ℕ × Bor Line)) (it : Enumerate (Take Lines))
    (y : Yields (enumerate_steps (take_steps Advances)) from xs it)
    (r : Option (ℕ × Bor Line)) (u : Enumerate (Take Lines)) (h : enumerate_steps (take_steps Advances) it r u) where
  numbered : YieldsList {B = ℕ × Line} (enumerate_steps (take_steps Advances)) (λ (p : ℕ × Bor Line). (p.0, p.1.now))
      from (enumerate_from 0 all)
  numbered = YieldsList-at same (YieldsList-from_enumerate (YieldsList-at inner gives) zero)

  -- the next has as its number how many came before it, and is the first of the others
  pub numbered_turn : (n : ℕ) (l : Bor Line) → r ≡ Some (n, l)
      → (n ≡ length xs) × (length (xs ++ ((n, l) ∷ [])) ≡ suc (length xs))
      × (drop (length xs) all ≡ l.now ∷ drop (suc (length xs)) all)
  numbered_turn n l q =
      let turn = YieldsList-turn numbered xs it y r u (n, l) q h in
      let few : length xs < length all = omega (arith, turn.0, length-enumerate_from 0 all) in
      let both = turn.1 ∙ get_or-enumerate_from 0 all (length xs) (n, l.now) few in
      let number : n ≡ 0 + length xs = ap (λ (b : ℕ × Line). b.0) both in (
        omega (arith, number),
        omega (arith, length-append xs ((n, l) ∷ [])),
        drop-cons all (length xs) l.now few
            ∙ ap (λ (k : Line). k ∷ drop (suc (length xs)) all) (sym (ap (λ (b : ℕ × Line). b.1) both)),
      )

  pub numbered_last : r ≡ None → drop (length xs) all ≡ []
  numbered_last q =
      let n = (YieldsList-end numbered xs it y r u q h).1 in
      drop_of_length-le all {i = length xs} (omega (arith, n, length-enumerate_from 0 all))
