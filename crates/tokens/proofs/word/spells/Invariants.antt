-- The invariant: from here on the bytes agree where they agree as a whole.
use mathlib.Core.Path.{◌≡◌}
use lib.ListN.{length, drop}
use Rattle.laws.specs.Lists.{same_bytes}
use Rattle.tokens.proofs.word.spells.Given as goal

abbrev pub invariant-loop-i : goal.invariant-loop-i
invariant-loop-i l =
    (length l.name ≡ length l.word)
    × (same_bytes (drop l.i l.name) (drop l.i l.word) ≡ same_bytes l.name l.word)
