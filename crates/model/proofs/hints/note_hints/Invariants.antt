-- The hints and links of the keys from the last down to the present one are noted.
use Rattle.model.proofs.KeysFound.{Hinting}
use Rattle.model.proofs.hints.note_hints.Given as goal

abbrev pub invariant-loop-d : goal.invariant-loop-d
invariant-loop-d l =
    Hinting l.keys l.initial.links l.d l.hints l.links
