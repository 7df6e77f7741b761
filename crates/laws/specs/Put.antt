-- What a function that writes says of the bytes that it is lent.
use Rattle.std.specs.Prelude.{ℕ, ◌+◌, ◌≡◌, List, length}
use Rattle.std.proofs.lemmas.List.Edits.{sets}

-- from place w on stands what was to be written, and r is the place behind it
pub record Put (what : List ℕ) (w r : ℕ) (old new : List ℕ) : Type 0 where
  pub behind : r ≡ w + length what
  pub written : new ≡ sets old w what
