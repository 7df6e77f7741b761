-- What a search for a spot has left to do, one line at a time.
use Prim.Native.Nat.{ℕ, zero, suc, ◌-◌, ◌≤◌, ◌<◌, max}
use mathlib.Core.Path.{◌≡◌, refl, sym, ◌∙◌}
use mathlib.Core.Bool.{true, false}
use mathlib.Core.List.{List, [], ◌∷◌}
use native.Mathlib.Omega.{arith}
use borrow.Author.Tests.{lt-ltb, le-ltb, ne_eqb}
use lib.ListN.{length}
use Rattle.deck.specs.Lines.{Line, starred}
use Rattle.deck.specs.Joined.{line_part}
use Rattle.deck.specs.Spots.{spot, first_byte, byte_spot, last_column, last_spot}
use Rattle.deck.specs.declared.Spot.{Spot}

-- ---- a line and those below it
module _ (l : Line) (ls : List Line) (d n : ℕ) where
  -- a comment has no byte of the joined text
  pub byte_over : starred l ≡ true → byte_spot d (l ∷ ls) n ≡ byte_spot (suc d) ls n
  unfolding byte_spot
  byte_over c = rw c

  -- a card has it
  pub byte_here : starred l ≡ false → n < length (line_part l) → byte_spot d (l ∷ ls) n ≡ spot d (suc n)
  unfolding byte_spot
  byte_here c h = rw (c, lt-ltb n (length (line_part l)) h)

  -- or one below it
  pub byte_below : starred l ≡ false → length (line_part l) ≤ n
      → byte_spot d (l ∷ ls) n ≡ byte_spot (suc d) ls (n - suc (length (line_part l)))
  unfolding byte_spot
  byte_below c h = rw (c, le-ltb n (length (line_part l)) h)

-- ---- byte n of the joined text: some lines are left, which stand so many below the first
pub record ByteLeft (all left : List Line) (n down rest : ℕ) : Type 0 where
  pub same : byte_spot down left rest ≡ byte_spot 0 all n

module _ {all left : List Line} {n down rest : ℕ} (b : ByteLeft all left n down rest) where
  -- at none
  pub byte_none : left ≡ [] → first_byte ≡ byte_spot 0 all n
  unfolding byte_spot
  byte_none q = rw q at b.same

  -- ---- at a line, and those below it
  module _ (l : Line) (ls : List Line) (q : left ≡ l ∷ ls) where
    here : byte_spot down (l ∷ ls) rest ≡ byte_spot 0 all n
    here = rw q at b.same

    -- at a comment
    pub byte_comment : starred l ≡ true → ByteLeft all ls n (suc down) rest
    byte_comment c = record { same = sym (byte_over l ls down rest c) ∙ here }

    -- at the card that has it
    pub byte_found : starred l ≡ false → rest < length (line_part l) → spot down (suc rest) ≡ byte_spot 0 all n
    byte_found c h = sym (byte_here l ls down rest c h) ∙ here

    -- at a card above it
    pub byte_card : starred l ≡ false → length (line_part l) ≤ rest
        → ByteLeft all ls n (suc down) (rest - suc (length (line_part l)))
    byte_card c h = record { same = sym (byte_below l ls down rest c h) ∙ here }

-- ---- the last card: some lines are left, with the last card's spot so far
pub record LastLeft (all left : List Line) (down : ℕ) (last : Spot) : Type 0 where
  pub same : last_spot last down left ≡ last_spot first_byte 0 all

module _ {all left : List Line} {down : ℕ} {last : Spot} (b : LastLeft all left down last) where
  -- at none
  pub last_none : left ≡ [] → last ≡ last_spot first_byte 0 all
  unfolding last_spot
  last_none q = rw q at b.same

  -- ---- at a line, and those below it
  module _ (l : Line) (ls : List Line) (q : left ≡ l ∷ ls) where
    -- a comment changes nothing
    pub last_comment : starred l ≡ true → LastLeft all ls (suc down) last
    unfolding last_spot
    last_comment c = record { same = rw c at (rw q at b.same) }

    -- a card is the last so far
    pub last_card : starred l ≡ false → LastLeft all ls (suc down) (spot down (last_column (length l)))
    unfolding last_spot
    last_card c = record { same = rw c at (rw q at b.same) }

-- the column of its last byte, or 1
pub column_max : (n : ℕ) → max n 1 ≡ last_column n
column_max zero = refl
column_max (suc n) =
    let some : suc n ≡ 0 → ⊥ = λ e. omega arith in rw (ne_eqb (suc n) 0 some) (omega arith)
