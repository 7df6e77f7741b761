-- A row copied to a place of a buffer, one member after the other. What lies behind the buffer's end is not written.
use Prim.Native.Nat.{ℕ, ◌+◌, ◌-◌, ◌≤◌, ◌<◌, min}
use mathlib.Core.Path.{◌≡◌, refl, sym, ◌∙◌}
use mathlib.Core.List.{List}
use mathlib.Core.Logic.{⊎_elim}
use native.Mathlib.Nat.{add-zero, add-suc}
use native.Mathlib.Numerals.{add-one}
use native.Mathlib.Omega.{arith}
use lib.ListN.{length, get_or, set, drop, length-set, drop_of_length-le}
use lib.Seq.{sets, drop-cons}
use Rattle.laws.proofs.Tests.{lt_or_ge}
use Rattle.laws.proofs.Sets.{sets_out}

-- the first i are copied: the length is as it was, and to write the others gives what to write all gave at first
pub record Copied (row old now : List ℕ) (at i : ℕ) : Type 0 where
  pub long : length now ≡ length old
  pub same : sets now (at + i) (drop i row) ≡ sets old at row

module _ (row old : List ℕ) (at : ℕ) where
  -- none is copied
  pub copied_first : Copied row old old at 0
  copied_first = record { long = refl; same = rw add-zero }

  -- one more is copied
  pub copied_next : (now : List ℕ) (i : ℕ) → i < length row → Copied row old now at i
      → Copied row old (set now (at + i) (get_or row i 0)) at (i + 1)
  copied_next now i h c =
      record {
        long = length-set now (at + i) (get_or row i 0) ∙ c.long;
        same = rw (add-one, add-suc) (rw (drop-cons row i 0 h) at c.same);
      }

  -- all are copied, or all for which there is a place
  pub copied_last : (now : List ℕ) (i : ℕ) → min (length old - at) (length row) ≤ i → Copied row old now at i
      → now ≡ sets old at row
  copied_last now i h c = ⊎_elim part whole (lt_or_ge i (length row))
    where
      whole : length row ≤ i → now ≡ sets old at row
      whole g = rw (drop_of_length-le row g) at c.same

      part : i < length row → now ≡ sets old at row
      part g = sym (sets_out now (at + i) (drop i row) (omega (arith, c.long))) ∙ c.same
