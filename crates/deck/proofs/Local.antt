-- Readings in parts, and with line numbers raised: what demand 3 is proved with.
use Prim.Native.Nat.{ℕ, suc, ◌+◌}
use mathlib.Core.Path.{◌≡◌, refl, ap, ◌∙◌}
use mathlib.Core.Bool.{Bool, true, false, cond}
use mathlib.Core.List.{List, [], ◌∷◌, ◌++◌, map, append_assoc, map-append}
use native.Mathlib.Nat.{add-zero, add-suc, suc-add}
use lib.ListN.{length}
use Rattle.deck.specs.Lines.{Line, dotted, starred, passed}
use Rattle.deck.specs.Reading.{Statement, State, fresh, inside, leaves_open, goes_on, just_closed, after, ended}
use Rattle.deck.specs.Reading.{left, reading, closed_in, state_after}
use Rattle.deck.specs.Reports.{report}
use Rattle.deck.specs.Later.{later, later_state, later_report}

-- ---- lines p, and q behind them

-- their reading is what is closed in p, and then the reading of q from the state after p
pub reading_append : (s : State) (n : ℕ) (p q : List Line)
    → reading s n (p ++ q) ≡ closed_in s n p ++ reading (state_after s n p) (n + length p) q
unfolding reading closed_in state_after
reading_append s n [] q = rw add-zero
reading_append s n (l ∷ p) q = rw (reading_append (after s n l) (suc n) p q, append_assoc, add-suc, suc-add)

-- what they close is what is closed in p, and then in q from the state after p
pub closed_append : (s : State) (n : ℕ) (p q : List Line)
    → closed_in s n (p ++ q) ≡ closed_in s n p ++ closed_in (state_after s n p) (n + length p) q
unfolding closed_in state_after
closed_append s n [] q = rw add-zero
closed_append s n (l ∷ p) q = rw (closed_append (after s n l) (suc n) p q, append_assoc, add-suc, suc-add)

-- the state after them is that after q, from the state after p
state_append : (s : State) (n : ℕ) (p q : List Line)
    → state_after s n (p ++ q) ≡ state_after (state_after s n p) (n + length p) q
unfolding state_after
state_append s n [] q = rw add-zero
state_append s n (l ∷ p) q = rw (state_append (after s n l) (suc n) p q, add-suc, suc-add)

-- ---- behind a line without closing dots that is no comment reading is fresh

-- such a line leaves no statement open
closing : (l : Line) → dotted l ≡ false → starred l ≡ false → leaves_open l ≡ false
closing l d c = rw (c, d)

-- whatever the state before it
after_closing : (s : State) (n : ℕ) (l : Line) → leaves_open l ≡ false → after s n l ≡ fresh
unfolding after
after_closing fresh n l e = rw e (go (passed l))
  where
    go : (b : Bool) → cond b fresh fresh ≡ fresh
    go true = refl
    go false = refl
after_closing (inside f ls) n l e = rw e

-- whatever the lines before it
pub fresh_behind : (ls : List Line) (l : Line) → dotted l ≡ false → starred l ≡ false
    → state_after fresh 1 (ls ++ (l ∷ [])) ≡ fresh
unfolding state_after
fresh_behind ls l d c =
    state_append fresh 1 ls (l ∷ []) ∙ after_closing (state_after fresh 1 ls) (1 + length ls) l (closing l d c)

-- ---- line numbers raised by k

-- of the statement that a line closes
closed_later : (k : ℕ) (b : Bool) (f : ℕ) (cs : List Line)
    → just_closed b (k + f) cs ≡ map (later k) (just_closed b f cs)
closed_later k true f cs = refl
closed_later k false f cs = refl

-- of the statement that it leaves open
goes_on_later : (k : ℕ) (b : Bool) (f : ℕ) (cs : List Line) → goes_on b (k + f) cs ≡ later_state k (goes_on b f cs)
goes_on_later k true f cs = refl
goes_on_later k false f cs = refl

-- of the state after a line
after_later : (k : ℕ) (s : State) (n : ℕ) (l : Line) → after (later_state k s) (k + n) l ≡ later_state k (after s n l)
unfolding after
after_later k fresh n l = go (passed l)
  where
    go : (b : Bool) → cond b fresh (goes_on (leaves_open l) (k + n) (l ∷ []))
        ≡ later_state k (cond b fresh (goes_on (leaves_open l) n (l ∷ [])))
    go true = refl
    go false = goes_on_later k (leaves_open l) n (l ∷ [])
after_later k (inside f cs) n l = goes_on_later k (leaves_open l) f (cs ++ (l ∷ []))

-- of what a line ends
ended_later : (k : ℕ) (s : State) (n : ℕ) (l : Line) → ended (later_state k s) (k + n) l ≡ map (later k) (ended s n l)
unfolding ended
ended_later k fresh n l = go (passed l)
  where
    go : (b : Bool) → cond b [] (just_closed (leaves_open l) (k + n) (l ∷ []))
        ≡ map (later k) (cond b [] (just_closed (leaves_open l) n (l ∷ [])))
    go true = refl
    go false = closed_later k (leaves_open l) n (l ∷ [])
ended_later k (inside f cs) n l = closed_later k (leaves_open l) f (cs ++ (l ∷ []))

-- of what the end leaves
left_later : (k : ℕ) (s : State) → left (later_state k s) ≡ map (later k) (left s)
unfolding left
left_later k fresh = refl
left_later k (inside f cs) = refl

-- of a whole reading
pub reading_later : (k : ℕ) (s : State) (n : ℕ) (ls : List Line)
    → reading (later_state k s) (k + n) ls ≡ map (later k) (reading s n ls)
unfolding reading
reading_later k s n [] = left_later k s
reading_later k s n (l ∷ ls) =
    rw (ended_later k s n l, after_later k s n l, ← (add-suc k n), reading_later k (after s n l) (suc n) ls, map-append)

-- of reports
pub map_later : {A : Type 0} (f : List Line → Bool → A) (k : ℕ) (ss : List Statement)
    → map (report f) (map (later k) ss) ≡ map (later_report k) (map (report f) ss)
map_later f k [] = refl
map_later f k (s ∷ ss) = ap (λ r. later_report k (report f s) ∷ r) (map_later f k ss)
