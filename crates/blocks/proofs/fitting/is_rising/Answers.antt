-- A statement that falls is sought among all.
use mathlib.Core.Path.{refl, ap}
use Rattle.std.proofs.Common.{rules}
use mathlib.Core.Bool.{not}
use Rattle.blocks.specs.Grouped.{falls}
use Rattle.blocks.proofs.Searched.{any_found_all}
use Rattle.blocks.proofs.fitting.is_rising.Goals as goal

pub returns : goal.returns
returns c =
    ap not (any_found_all c.args.n (falls c.args.bounds.now) c.any.ensures.ran refl (λ x t q k. search rules))
