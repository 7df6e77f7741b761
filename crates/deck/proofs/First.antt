-- The first statement of a reading: the lines in front of it, its own, and the others.
use Prim.Native.Nat.{ℕ, suc, ◌+◌, ◌<◌}
use mathlib.Core.Path.{◌≡◌, refl, ap, ◌∙◌}
use mathlib.Core.Bool.{Bool, true, false}
use mathlib.Core.List.{List, [], ◌∷◌, ◌++◌, append_assoc, append-nil}
use mathlib.Core.Logic.{◌⊎◌, inl, inr}
use native.Mathlib.Omega.{arith}
use native.Mathlib.Nat.{add-zero}
use lib.ListN.{length}
use Rattle.deck.specs.Lines.{Line, passed}
use Rattle.deck.specs.Reading.{fresh, inside, leaves_open, after, ended, left, reading}

-- the last of the lines leaves no statement open
pub record Shut (ls : List Line) : Type 0 where
  pub before : List Line
  pub last : Line
  pub whole : ls ≡ before ++ (last ∷ [])
  pub closing : leaves_open last ≡ false

-- inside a statement of which some lines are read: how many more it covers, and what is left
pub record Onward (f : ℕ) (read : List Line) (n : ℕ) (ls : List Line) : Type 0 where
  pub more : List Line
  pub rest : List Line
  pub closed : Bool
  pub parts : ls ≡ more ++ rest
  pub reads : reading (inside f read) n ls
      ≡ record { first = f; lines = read ++ more; closed = closed } ∷ reading fresh (n + length more) rest
  pub some : 0 < length ls → 0 < length more
  pub shut : closed ≡ true → Shut (read ++ more)

pub onward : (f : ℕ) (read : List Line) (n : ℕ) (ls : List Line) → Onward f read n ls
unfolding reading left after ended
onward f read n [] =
    record {
      more = [];
      rest = [];
      closed = false;
      parts = refl;
      reads = rw (append-nil read);
      some = λ h. h;
      shut = λ e. let z : ◌≡◌ {A = ℕ} 0 1 = cc in absurd (omega arith);
    }
onward f read n (l ∷ ls) = go (leaves_open l) refl (onward f (read ++ (l ∷ [])) (suc n) ls)
  where
    go : (b : Bool) → leaves_open l ≡ b → Onward f (read ++ (l ∷ [])) (suc n) ls → Onward f read n (l ∷ ls)
    go true e o =
        let all : (read ++ (l ∷ [])) ++ o.more ≡ read ++ (l ∷ o.more) = append_assoc read (l ∷ []) o.more in
        let number : suc n + length o.more ≡ n + suc (length o.more) = omega arith in
        record {
          more = l ∷ o.more;
          rest = o.rest;
          closed = o.closed;
          parts = ap (λ (r : List Line). l ∷ r) o.parts;
          reads = rw e (rw (all, number) at o.reads);
          some = λ h. omega arith;
          shut = λ c. rw all at (o.shut c);
        }
    go false e o =
        let number : n + 1 ≡ suc n = omega arith in
        record {
          more = l ∷ [];
          rest = ls;
          closed = true;
          parts = refl;
          reads = rw (e, number);
          some = λ h. omega arith;
          shut = λ c. record { before = read; last = l; whole = refl; closing = e };
        }

-- from a fresh line on: the lines passed over, the statement's lines, and what is left
pub record First (n : ℕ) (ls : List Line) : Type 0 where
  pub front : List Line
  pub lines : List Line
  pub rest : List Line
  pub closed : Bool
  pub parts : ls ≡ front ++ (lines ++ rest)
  pub reads : reading fresh n ls
      ≡ record { first = n + length front; lines = lines; closed = closed }
      ∷ reading fresh (n + length front + length lines) rest
  pub some : 0 < length lines
  pub shut : closed ≡ true → Shut lines

-- a line that is not passed over starts a statement
pub starts : (n : ℕ) (l : Line) (ls : List Line) → passed l ≡ false
    → reading fresh n (l ∷ ls) ≡ reading (inside n []) n (l ∷ ls)
unfolding reading after ended
starts n l ls e = rw e

-- there is none, or a first
pub first : (n : ℕ) (ls : List Line) → (reading fresh n ls ≡ []) ⊎ First n ls
unfolding reading left after ended
first n [] = inl refl
first n (l ∷ ls) = go (passed l) refl (first (suc n) ls)
  where
    go : (b : Bool) → passed l ≡ b → (reading fresh (suc n) ls ≡ []) ⊎ First (suc n) ls
        → (reading fresh n (l ∷ ls) ≡ []) ⊎ First n (l ∷ ls)
    go true e (inl none) = inl (rw e none)
    go true e (inr x) =
        let number : suc n + length x.front ≡ n + suc (length x.front) = omega arith in
        inr
        (record {
          front = l ∷ x.front;
          lines = x.lines;
          rest = x.rest;
          closed = x.closed;
          parts = ap (λ (r : List Line). l ∷ r) x.parts;
          reads = rw e (rw number at x.reads);
          some = x.some;
          shut = x.shut;
        })
    go false e x =
        let o = onward n [] n (l ∷ ls) in
        inr
        (record {
          front = [];
          lines = o.more;
          rest = o.rest;
          closed = o.closed;
          parts = o.parts;
          reads = starts n l ls e ∙ rw add-zero o.reads;
          some = o.some (omega arith);
          shut = o.shut;
        })
