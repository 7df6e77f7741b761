-- The name is sought at each place.
use mathlib.Core.Path.{refl}
use Rattle.std.proofs.Common.{rules}
use Rattle.blocks.specs.InsidePlaces.{key_at}
use Rattle.blocks.proofs.Searched.{name_found}
use Rattle.blocks.proofs.names.is_named_in.Goals as goal

pub returns : goal.returns
returns c =
    let s = c.args.s.now in
    name_found c.args.from c.args.end c.args.key (key_at s.kinds.now s.args.now c.args.kind) c.any.ensures.ran refl
    (λ x t q k. search rules)
