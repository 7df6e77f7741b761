-- A setting of the name is sought among the statements above.
use mathlib.Core.Path.{refl}
use Rattle.std.proofs.Common.{rules}
use Rattle.blocks.specs.InsidePlaces.{set_at}
use Rattle.blocks.proofs.Searched.{name_found}
use Rattle.blocks.proofs.names.is_set_above.Goals as goal

pub returns : goal.returns
returns c =
    let s = c.args.s.now in
    name_found c.args.c c.args.j c.args.key (set_at s.bounds.now s.kinds.now s.args.now) c.any.ensures.ran refl
    (λ x t q k. search rules)
