-- A statement that ends with a store sets its name.
use mathlib.Core.Path.{◌∙◌}
use Rattle.blocks.proofs.NamesPlaced.{set_last, set_none}
use Rattle.blocks.proofs.names.sets_name.Goals as goal

pub returns-then-is_setting : goal.returns-then-is_setting
returns-then-is_setting c =
    let s = c.args.s.now in
    set_last s.bounds.now s.kinds.now s.args.now c.args.j c.args.key c.is_setting.ensures c.if-is_setting.true
    c.last_of.ensures c.word_at.ensures

pub returns-else-is_setting : goal.returns-else-is_setting
returns-else-is_setting c =
    let s = c.args.s.now in
    c.if-is_setting.false
    ∙ set_none s.bounds.now s.kinds.now s.args.now c.args.j c.args.key c.is_setting.ensures c.if-is_setting.false
