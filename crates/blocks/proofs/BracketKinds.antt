-- The bracket that a kind is.
use Prim.Native.Nat.{ℕ}
use mathlib.Core.Path.{◌≡◌}
use borrow.Author.Tests.{ne_eqb}
use Rattle.drafts.specs.Kinds.{kind_output, kind_ending}
use Rattle.blocks.specs.Pairing.{opens, shuts, neither}
use Rattle.blocks.specs.Places.{bracket_kind}

pub bracket_opens : (k : ℕ) → k ≡ kind_output → bracket_kind k ≡ opens
bracket_opens k e = rw e

pub bracket_shuts : (k : ℕ) → k ≡ kind_ending → bracket_kind k ≡ shuts
bracket_shuts k e = rw e

pub bracket_neither : (k : ℕ) → (k ≡ kind_output → ⊥) → (k ≡ kind_ending → ⊥) → bracket_kind k ≡ neither
bracket_neither k n m = rw (ne_eqb k kind_output n, ne_eqb k kind_ending m)
