-- A draft of another kind has not the name.
use mathlib.Core.Path.{◌∙◌}
use borrow.Author.Tests.{ne_eqb}
use Rattle.blocks.proofs.NamesPlaced.{name_there, name_absent}
use Rattle.blocks.proofs.names.has_name.Goals as goal

pub returns-then-byte_at-kind : goal.returns-then-byte_at-kind
returns-then-byte_at-kind c =
    let s = c.args.s.now in
    name_there s.kinds.now s.args.now c.args.kind c.args.i c.args.key c.byte_at.ensures c.if-byte_at-kind.true
    c.word_at.ensures

pub returns-else-byte_at-kind : goal.returns-else-byte_at-kind
returns-else-byte_at-kind c =
    let s = c.args.s.now in
    ne_eqb _ _ c.if-byte_at-kind.false
    ∙ name_absent s.kinds.now s.args.now c.args.kind c.args.i c.args.key c.byte_at.ensures c.if-byte_at-kind.false
