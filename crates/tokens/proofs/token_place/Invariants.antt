-- The invariant: the token is so many further on from here as turns are left.
use Rattle.std.proofs.Common.{◌≡◌, ◌-◌}
use Rattle.tokens.specs.Skips.{place_behind}
use Rattle.tokens.proofs.token_place.Given as goal

abbrev pub invariant-loop-k : goal.invariant-loop-k
invariant-loop-k l =
    place_behind (l.i - l._k) l.body l.from ≡ place_behind l.i l.body 0
