-- The invariant: what is kept has the same front without trailing spaces as the line.
use Rattle.std.proofs.Common.{◌≡◌, length, take}
use Rattle.deck.specs.Lines.{trimmed}
use Rattle.deck.proofs.lines.trimmed.Given as goal

abbrev pub invariant-loop-kept : goal.invariant-loop-kept
invariant-loop-kept l = take (trimmed l.kept) l.kept ≡ take (trimmed l.line) l.line

abbrev pub decreases-loop-kept : goal.decreases-loop-kept
decreases-loop-kept l = length l.kept
