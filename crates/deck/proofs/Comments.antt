-- A comment that is put in anywhere moves the numbers of the statements behind it by one, is one more line of a
-- statement that it stands in, and changes nothing else.
use Prim.Native.Nat.{ℕ, suc, ◌+◌, ◌<◌, ◌≤◌}
use mathlib.Core.Path.{◌≡◌}
use mathlib.Core.Bool.{Bool, true, false, cond}
use mathlib.Core.List.{List, [], ◌∷◌, ◌++◌, append_assoc, append-nil}
use native.Mathlib.Omega.{arith}
use native.Mathlib.Nat.{add-zero}
use lib.ListN.{length, length-append}
use borrow.Author.Tests.{lt-ltb, le-ltb}
use Rattle.laws.specs.Pairs.{Pairs}
use Rattle.laws.proofs.Pairs.{pairs_append, pairs_self}
use Rattle.deck.specs.Lines.{Line, starred, passed}
use Rattle.deck.specs.Reading.{Statement, State, fresh, inside, leaves_open, goes_on, just_closed}
use Rattle.deck.specs.Reading.{after, ended, left, reading, closed_in, state_after}
use Rattle.deck.specs.Later.{line_moved}
use Rattle.deck.proofs.Local.{reading_append}
use Rattle.deck.proofs.Covered.{closed_covered}

-- ---- numbers

-- up to line n they stay
pub moved_stays : (n k : ℕ) → k ≤ n → line_moved n k ≡ k
moved_stays n k h = rw (le-ltb n k h)

-- behind it they are raised by one
pub moved_raised : (n k : ℕ) → n < k → line_moved n k ≡ suc k
moved_raised n k h = rw (lt-ltb n k h) (omega arith)

-- ---- the lines of a statement

-- a statement that is open covers the lines up to line n
abbrev Spans : State → ℕ → Type 0
Spans fresh n = Unit {0}
Spans (inside f ls) n = (f + length ls ≡ n) × (0 < length ls)

-- a line more of it
spans_more : (f n : ℕ) (ls : List Line) (l : Line) → f + length ls ≡ n
    → (f + length (ls ++ (l ∷ [])) ≡ suc n) × (0 < length (ls ++ (l ∷ [])))
spans_more f n ls l h = let long = length-append ls (l ∷ []) in (omega (arith, long), omega (arith, long))

-- so does one behind line n
after_spans : (s : State) (n : ℕ) (l : Line) → Spans s n → Spans (after s n l) (suc n)
unfolding after
after_spans fresh n l b = go (passed l) (leaves_open l)
  where
    go : (p d : Bool) → Spans (cond p fresh (goes_on d n (l ∷ []))) (suc n)
    go true d = tt
    go false true = (omega arith, omega arith)
    go false false = tt
after_spans (inside f ls) n l b = go (leaves_open l)
  where
    go : (d : Bool) → Spans (goes_on d f (ls ++ (l ∷ []))) (suc n)
    go true = spans_more f n ls l b.0
    go false = tt

-- and behind all of these
state_spans : (s : State) (n : ℕ) (ls : List Line) → Spans s n → Spans (state_after s n ls) (n + length ls)
unfolding state_after
state_spans s n [] b = rw add-zero b
state_spans s n (l ∷ ls) b =
    let number : suc n + length ls ≡ n + suc (length ls) = omega arith in
    rw (← number) (state_spans (after s n l) (suc n) ls (after_spans s n l b))

-- ---- a comment c, put in behind line n
module _ (c : Line) (n : ℕ) where
  -- what becomes of a statement: it stays if its lines stand before; its number is raised if they stand behind; else
  -- the comment is one more line of it
  pub data Beside : Statement → Statement → Type 0 where
    before : (s : Statement) → 0 < length s.lines → s.first + length s.lines ≤ suc n → Beside s s
    behind : (f : ℕ) (ls : List Line) (d : Bool) → n < f
        → Beside (record { first = f; lines = ls; closed = d }) (record { first = suc f; lines = ls; closed = d })
    between : (f : ℕ) (x y : List Line) (d : Bool) → 0 < length x → f + length x ≡ suc n
        → Beside (record { first = f; lines = x ++ y; closed = d })
        (record { first = f; lines = x ++ (c ∷ y); closed = d })

  -- the lines of a statement that is open, ls from line f on without the comment, and ms from line g on with it
  pub data Open : ℕ → List Line → ℕ → List Line → Type 0 where
    lower : (f : ℕ) (ls : List Line) → n < f → Open f ls (suc f) ls
    around : (f : ℕ) (x y : List Line) → 0 < length x → f + length x ≡ suc n → Open f (x ++ y) f (x ++ (c ∷ y))

  -- such a statement when it ends
  open_ends : {f g : ℕ} {ls ms : List Line} (d : Bool) → Open f ls g ms
      → Beside (record { first = f; lines = ls; closed = d }) (record { first = g; lines = ms; closed = d })
  open_ends d (lower f ls h) = behind f ls d h
  open_ends d (around f x y h e) = between f x y d h e

  -- and with a line more
  open_more : {f g : ℕ} {ls ms : List Line} (l : Line) → Open f ls g ms → Open f (ls ++ (l ∷ [])) g (ms ++ (l ∷ []))
  open_more l (lower f ls h) = lower f (ls ++ (l ∷ [])) h
  open_more l (around f x y h e) =
      rw (append_assoc x y (l ∷ []), append_assoc x (c ∷ y) (l ∷ [])) (around f x (y ++ (l ∷ [])) h e)

  -- both readings are fresh, or inside such a statement
  abbrev Alike : State → State → Type 0
  Alike fresh fresh = Unit {0}
  Alike fresh (inside g ms) = ⊥
  Alike (inside f ls) fresh = ⊥
  Alike (inside f ls) (inside g ms) = Open f ls g ms

  -- the statements of lines that stand behind line n, from line k on, and from the next line on in the other text
  reading_moved : (k : ℕ) → n < k → (s s' : State) (ls : List Line) → Alike s s'
      → Pairs Beside (reading s k ls) (reading s' (suc k) ls)
  unfolding reading left after ended
  reading_moved k h fresh fresh [] a = tt
  reading_moved k h fresh (inside g ms) [] a = absurd a
  reading_moved k h (inside f ms) fresh [] a = absurd a
  reading_moved k h (inside f ls) (inside g ms) [] a = (open_ends false a, tt)
  reading_moved k h fresh fresh (l ∷ ls) a =
      go (passed l) (leaves_open l) (λ s s' a. reading_moved (suc k) (omega arith) s s' ls a)
    where
      go : (p o : Bool)
          → ((s s' : State) → Alike s s' → Pairs Beside (reading s (suc k) ls) (reading s' (suc (suc k)) ls))
          → Pairs Beside
          (cond p [] (just_closed o k (l ∷ [])) ++ reading (cond p fresh (goes_on o k (l ∷ []))) (suc k) ls)
          (cond p [] (just_closed o (suc k) (l ∷ []))
          ++ reading (cond p fresh (goes_on o (suc k) (l ∷ []))) (suc (suc k)) ls)
      go true o ih = ih fresh fresh tt
      go false true ih = ih (inside k (l ∷ [])) (inside (suc k) (l ∷ [])) (lower k (l ∷ []) h)
      go false false ih = (behind k (l ∷ []) true h, ih fresh fresh tt)
  reading_moved k h fresh (inside g ms) (l ∷ ls) a = absurd a
  reading_moved k h (inside f ms) fresh (l ∷ ls) a = absurd a
  reading_moved k h (inside f ms) (inside g ns) (l ∷ ls) a =
      go (leaves_open l) (λ s s' a. reading_moved (suc k) (omega arith) s s' ls a)
    where
      more : Open f (ms ++ (l ∷ [])) g (ns ++ (l ∷ []))
      more = open_more l a

      go : (o : Bool)
          → ((s s' : State) → Alike s s' → Pairs Beside (reading s (suc k) ls) (reading s' (suc (suc k)) ls))
          → Pairs Beside (just_closed o f (ms ++ (l ∷ [])) ++ reading (goes_on o f (ms ++ (l ∷ []))) (suc k) ls)
          (just_closed o g (ns ++ (l ∷ [])) ++ reading (goes_on o g (ns ++ (l ∷ []))) (suc (suc k)) ls)
      go true ih = ih (inside f (ms ++ (l ∷ []))) (inside g (ns ++ (l ∷ []))) more
      go false ih = (open_ends true more, ih fresh fresh tt)

  module _ (star : starred c ≡ true) where
    -- it ends no statement
    comment_ends : (s : State) (m : ℕ) → ended s m c ≡ []
    unfolding ended passed
    comment_ends fresh m = rw star
    comment_ends (inside f ls) m = rw star

    -- and is a line more of one that is open
    comment_alike : (m : ℕ) (s : State) → Spans s (suc n) → Alike s (after s m c)
    unfolding after passed
    comment_alike m fresh b = rw star tt
    comment_alike m (inside f ls) b = rw star (rw append-nil at (around f ls [] b.1 b.0))

-- A COMMENT put in behind the lines pre: the statements of the two texts belong together one by one
pub statements_commented : (c : Line) → starred c ≡ true → (pre post : List Line)
    → Pairs (Beside c (length pre)) (reading fresh 1 (pre ++ post)) (reading fresh 1 (pre ++ (c ∷ post)))
unfolding reading
statements_commented c star pre post =
    let n = length pre in
    let s = state_after fresh 1 pre in
    let front = closed_in fresh 1 pre in
    let next : 1 + n ≡ suc n = omega arith in
    let alike = comment_alike c n star (1 + n) s (rw next at (state_spans fresh 1 pre tt)) in
    let behind = reading_moved c n (1 + n) (omega arith) s (after s (1 + n) c) post alike in
    let with : reading s (1 + n) (c ∷ post) ≡ reading (after s (1 + n) c) (suc (1 + n)) post =
    rw (comment_ends c n star s (1 + n)) in
    let kept = pairs_self _ (Beside c n) (λ t h. before t h.1 (omega (arith, h.0))) front (closed_covered pre) in
    rw (reading_append fresh 1 pre post, reading_append fresh 1 pre (c ∷ post), with)
    (pairs_append (Beside c n) front front (reading s (1 + n) post) (reading (after s (1 + n) c) (suc (1 + n)) post)
    kept behind)
