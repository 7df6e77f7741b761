-- It sets a name: no input, and it uses no other name.
use Prim.Native.Nat.{◌+◌}
use Rattle.drafts.specs.Kinds.{kind_input}
use Rattle.blocks.proofs.InsideFound.{at_head, right_names}
use Rattle.blocks.proofs.inside.is_right.Goals as goal

pub returns-then-not-is_named_by : goal.returns-then-not-is_named_by
returns-then-not-is_named_by c =
    let s = c.args.s.now in
    let head = c.args.head in
    right_names c.args.free.now.keys.now s.bounds.now s.kinds.now s.args.now (head + 1) c.args.j
    c.is_setting.ensures c.if-not-is_setting.false c.last_of.ensures c.word_at-key.ensures
    (at_head s.bounds.now s.kinds.now s.args.now kind_input head c.word_at-key.result c.is_named_by.ensures)
    c.if-not-is_named_by.true c.has_stranger.ensures
