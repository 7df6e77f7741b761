-- The mates are those of all pairs, so what is written by them are the faults 25.
use mathlib.Core.Path.{ap, ◌∙◌}
use lib.ListN.{length}
use Rattle.std.proofs.Common.{None}
use Rattle.limits.specs.Limits.{most_statements}
use Rattle.blocks.specs.Pairing.{pairs}
use Rattle.blocks.specs.Places.{brackets_in}
use Rattle.blocks.specs.Working.{mate_in, mates_noted}
use Rattle.blocks.proofs.BlankRows.{map_replicate}
use Rattle.blocks.proofs.Unpaired.{unmated_reported}
use Rattle.blocks.proofs.pairing.report_unpaired.Goals as goal

pub returns : goal.returns
returns c =
    let s = c.args.s.now in
    let noted = mates_noted (pairs (brackets_in (length s.lines.now) s.bounds.now s.kinds.now)) in
    unmated_reported s.lines.now s.bounds.now s.kinds.now c.requires.0
    (c.note_mates.ensures ∙ ap noted (map_replicate mate_in most_statements None)) c.report_unmated.ensures
