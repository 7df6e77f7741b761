-- By the bracket that the kind is: a header, an end without and with a header, neither.
use Prim.Native.Nat.{ℕ, ◌+◌}
use mathlib.Core.Path.{ap, ◌∙◌}
use mathlib.Core.List.{List, map}
use native.Mathlib.Omega.{arith}
use lib.ListN.{set}
use Rattle.std.proofs.Common.{Some}
use Rattle.std.proofs.lemmas.List.{map-set}
use Rattle.blocks.specs.Working.{mate_in}
use Rattle.blocks.proofs.BracketKinds.{bracket_opens, bracket_shuts, bracket_neither}
use Rattle.blocks.proofs.MatesNoted.{note_header, note_other, note_lone, note_pair}
use Rattle.blocks.proofs.pairing.note_mate.Goals as goal

pub returns-in-21 : goal.returns-in-21
returns-in-21 c =
    rw (bracket_opens _ c.in-21.is)
    (note_header c.requires.1 c.requires.0 (map mate_in c.args.mates.now) c.put.ensures)

pub returns-then-depth-eq0 : goal.returns-then-depth-eq0
returns-then-depth-eq0 c =
    rw (bracket_shuts _ c.in-23.is)
    (note_lone c.requires.1 c.requires.0 (map mate_in c.args.mates.now) c.if-depth-eq0.true)

pub returns-else-depth-eq0 : goal.returns-else-depth-eq0
returns-else-depth-eq0 c =
    let head = c.short_at-head.result in
    let mates = c.args.mates.now in
    let noted = ap (map mate_in) (c.put-in-23-2.ensures ∙ ap (λ m. set m c.args.j (Some head)) c.put-in-23.ensures) in
    let written = noted ∙ map-set mate_in (set mates head (Some c.args.j)) c.args.j (Some head)
    ∙ ap (λ (m : List ℕ). set m c.args.j (head + 1)) (map-set mate_in mates head (Some c.args.j)) in
    rw (bracket_shuts _ c.in-23.is)
    (note_pair c.requires.1 c.requires.0 (map mate_in mates) c.if-depth-eq0.false c.short_at-head.ensures.0 written)

pub returns-in_default : goal.returns-in_default
returns-in_default c =
    rw (bracket_neither c.args.kind (omega arith) (omega arith))
    (note_other c.requires.1 c.requires.0 (map mate_in c.args.mates.now))
